-- The members of a list: of none, of a sum of two lists, of the images of a list; of a list in another order.
use mathlib.Core.List.{List, [], ◌∷◌, ◌++◌, map}
use Rattle.algebra.specs.orbits.Orbit.{Mem, first, later, Perm, p_nil, p_skip, p_swap, p_trans}

module _ {S : Type 0} where
  pub none : {A : Type 0} {s : S} → Mem s [] → A
  none m = elim m [ ]

  -- what holds of the first and of the others
  pub mem_cons : {t : S} {l : List S} (P : S → Type 0) → P t → ((s : S) → Mem s l → P s) → (s : S) → Mem s (t ∷ l) → P s
  mem_cons P p q s first = p
  mem_cons P p q s (later m) = q s m

  pub mem_left : (l m : List S) {s : S} → Mem s l → Mem s (l ++ m)
  mem_left (x ∷ l) m first = first
  mem_left (x ∷ l) m (later h) = later (mem_left l m h)
  mem_left [] m {s = s} x' = elim x' [ ]

  pub mem_right : (l m : List S) {s : S} → Mem s m → Mem s (l ++ m)
  mem_right [] m h = h
  mem_right (x ∷ l) m h = later (mem_right l m h)

  pub mem_append : (l m : List S) (P : S → Type 0) → ((s : S) → Mem s l → P s) → ((s : S) → Mem s m → P s) → (s : S) → Mem s (l ++ m) → P s
  mem_append [] m P f g s h = g s h
  mem_append (x ∷ l) m P f g s first = f s first
  mem_append (x ∷ l) m P f g s (later h) = mem_append l m P (λ s h. f s (later h)) g s h

pub mem_map : {S U : Type 0} (f : S → U) (l : List S) (P : U → Type 0) → ((s : S) → Mem s l → P (f s)) → (u : U) → Mem u (map f l) → P u
mem_map f [] P g u m = none m
mem_map f (x ∷ l) P g u first = g x first
mem_map f (x ∷ l) P g u (later m) = mem_map f l P (λ s h. g s (later h)) u m

-- the same list in another order
pub perm_map : {A B : Type 0} (f : A → B) {l k : List A} → Perm l k → Perm (map f l) (map f k)
perm_map f p_nil = p_nil
perm_map f (p_skip r) = p_skip (perm_map f r)
perm_map f p_swap = p_swap
perm_map f (p_trans r q) = p_trans (perm_map f r) (perm_map f q)

pub perm_mem : {A : Type 0} {l k : List A} → Perm l k → (x : A) → Mem x k → Mem x l
perm_mem p_nil x i = i
perm_mem (p_skip r) x first = first
perm_mem (p_skip r) x (later i) = later (perm_mem r x i)
perm_mem p_swap x first = later first
perm_mem p_swap x (later first) = first
perm_mem p_swap x (later (later i)) = later (later i)
perm_mem (p_trans r q) x i = perm_mem r x (perm_mem q x i)

pub perm_sym : {A : Type 0} {l k : List A} → Perm l k → Perm k l
perm_sym p_nil = p_nil
perm_sym (p_skip r) = p_skip (perm_sym r)
perm_sym p_swap = p_swap
perm_sym (p_trans r q) = p_trans (perm_sym q) (perm_sym r)
