-- The places of a line, a plane and the cell from one place on, and the records that they give.
use mathlib.Core.Path.{◌≡◌, refl, sym, ◌∙◌, ap}
use mathlib.Core.Bool.{Bool, true, false, ◌&&◌, not, cond}
use mathlib.Core.Logic.{⊎_elim}
use mathlib.Core.List.{List, [], ◌∷◌, ◌++◌, append_assoc}
use Prim.Native.Nat.{ℕ, zero, suc, ◌+◌, ◌-◌, ◌*◌, ◌<◌, ◌≤◌}
use native.Mathlib.Nat.{zero-mul, eq-zero-or-pos}
use native.Mathlib.Omega.{arith}
use lib.ListN.{length, length-append}
use borrow.Author.Tests.{lt-ltb, le-ltb}
use Rattle.algebra.specs.orbits.Orbit.{Acts, Mem, first, later}
use Rattle.algebra.specs.cells.Cell.{J, line_from, plane_from, cell_from, lowest, records_of}
use Rattle.algebra.proofs.ring.Laws.{along}
use Rattle.slices.proofs.Pairs.{lt_or_ge}
use Rattle.factor_file.specs.Steps.{places_from}
use Rattle.cell.specs.declared.operations.UnitCell.{UnitCell}

-- ---- lists of lists: what is made of places one after another is made of all of them

pub record Spreads {A : Type 0} (R : List J → List A) : Type 0 where
  pub nil : R [] ≡ []
  pub append : (l m : List J) → R (l ++ m) ≡ R l ++ R m

-- no place with h beyond m gives anything
abbrev pub NoneBeyond : {A : Type 0} → (List J → List A) → (n1 m : ℕ) → Type 0
NoneBeyond R n1 m = (j : J) → m < j.0 → j.0 < n1 → R (j ∷ []) ≡ []

-- ---- the places from one on

module _ (cell : UnitCell) where
  abbrev rest : J → List J
  rest j = line_from j.0 j.1 j.2 (cell.n3 - j.2) ++ (plane_from cell.n3 j.0 (suc j.1) (cell.n2 - suc j.1) ++ cell_from cell.n3 cell.n2 (suc j.0) (cell.n1 - suc j.0))

  from_inside : (j : J) → j.0 < cell.n1 → places_from cell j ≡ rest j
  unfolding places_from
  from_inside j h = ap (λ b. cond b (rest j) []) (lt-ltb j.0 cell.n1 h)

  pub from_beyond : (j : J) → cell.n1 ≤ j.0 → places_from cell j ≡ []
  unfolding places_from
  from_beyond j h = ap (λ b. cond b (rest j) []) (le-ltb j.0 cell.n1 h)

  -- a plane begins with its first line
  plane_first : (h k : ℕ) → k < cell.n2 → plane_from cell.n3 h k (cell.n2 - k) ≡ line_from h k 0 cell.n3 ++ plane_from cell.n3 h (suc k) (cell.n2 - suc k)
  unfolding plane_from
  plane_first h k l = along (plane_from cell.n3 h k) (cell.n2 - k) (suc (cell.n2 - suc k)) (omega arith)

  -- from the first place of a line on
  line_start : (h k : ℕ) → h < cell.n1 → k < cell.n2 → places_from cell (h, k, 0) ≡ plane_from cell.n3 h k (cell.n2 - k) ++ cell_from cell.n3 cell.n2 (suc h) (cell.n1 - suc h)
  line_start h k a b =
      let below = plane_from cell.n3 h (suc k) (cell.n2 - suc k) in
      let behind = cell_from cell.n3 cell.n2 (suc h) (cell.n1 - suc h) in
      from_inside (h, k, 0) a
      ∙ along (λ n. line_from h k 0 n ++ (below ++ behind)) (cell.n3 - 0) cell.n3 (omega arith)
      ∙ sym (append_assoc (line_from h k 0 cell.n3) below behind)
      ∙ ap (λ t. t ++ behind) (sym (plane_first h k b))

  -- from the first place of a plane on
  pub plane_start : (h : ℕ) → 0 < cell.n2 → places_from cell (h, 0, 0) ≡ cell_from cell.n3 cell.n2 h (cell.n1 - h)
  unfolding cell_from
  plane_start h b = ⊎_elim
      (λ (e : cell.n1 - h ≡ 0). from_beyond (h, 0, 0) (omega arith) ∙ sym (ap (cell_from cell.n3 cell.n2 h) e))
      (λ (l : 0 < cell.n1 - h). line_start h 0 (omega arith) b ∙ along (λ n. plane_from cell.n3 h 0 n ++ cell_from cell.n3 cell.n2 (suc h) (cell.n1 - suc h)) (cell.n2 - 0) cell.n2 (omega arith) ∙ sym (along (cell_from cell.n3 cell.n2 h) (cell.n1 - h) (suc (cell.n1 - suc h)) (omega arith)))
      (eq-zero-or-pos (cell.n1 - h))

  -- the place after one: on its line, on the next line, on the next plane
  module _ (h k l : ℕ) (a : h < cell.n1) (b : k < cell.n2) (c : l < cell.n3) where
    abbrev behind : List J
    behind = plane_from cell.n3 h (suc k) (cell.n2 - suc k) ++ cell_from cell.n3 cell.n2 (suc h) (cell.n1 - suc h)

    -- the places from one on begin with it
    pub here : places_from cell (h, k, l) ≡ (h, k, l) ∷ (line_from h k (suc l) (cell.n3 - suc l) ++ behind)
    unfolding line_from
    here = from_inside (h, k, l) a ∙ along (λ n. line_from h k l n ++ behind) (cell.n3 - l) (suc (cell.n3 - suc l)) (omega arith)

    pub on_line : suc l < cell.n3 → places_from cell (h, k, l) ≡ (h, k, l) ∷ places_from cell (h, k, suc l)
    on_line d = here ∙ ap (λ t. (h, k, l) ∷ t) (sym (from_inside (h, k, suc l) a))

    last_on_line : cell.n3 ≤ suc l → places_from cell (h, k, l) ≡ (h, k, l) ∷ behind
    unfolding line_from
    last_on_line d = from_inside (h, k, l) a ∙ along (λ n. line_from h k l n ++ behind) (cell.n3 - l) 1 (omega arith)

    pub on_plane : cell.n3 ≤ suc l → suc k < cell.n2 → places_from cell (h, k, l) ≡ (h, k, l) ∷ places_from cell (h, suc k, 0)
    on_plane d e = last_on_line d ∙ ap (λ t. (h, k, l) ∷ t) (sym (line_start h (suc k) a e))

    pub in_cell : cell.n3 ≤ suc l → cell.n2 ≤ suc k → places_from cell (h, k, l) ≡ (h, k, l) ∷ places_from cell (suc h, 0, 0)
    unfolding plane_from
    in_cell d e = last_on_line d
        ∙ along (λ n. (h, k, l) ∷ (plane_from cell.n3 h (suc k) n ++ cell_from cell.n3 cell.n2 (suc h) (cell.n1 - suc h))) (cell.n2 - suc k) 0 (omega arith)
        ∙ ap (λ t. (h, k, l) ∷ t) (sym (plane_start (suc h) (omega arith)))

-- ---- places that give nothing

module _ {A : Type 0} {R : List J → List A} (s : Spreads R) (cell : UnitCell) {m : ℕ} (none : NoneBeyond R cell.n1 m) where
  both_none : (l l' : List J) → R l ≡ [] → R l' ≡ [] → R (l ++ l') ≡ []
  both_none l l' e f = s.append l l' ∙ (λ i. e i ++ f i)

  line_none : (h k l n : ℕ) → m < h → h < cell.n1 → R (line_from h k l n) ≡ []
  unfolding line_from
  line_none h k l zero u v = s.nil
  line_none h k l (suc n) u v = both_none ((h, k, l) ∷ []) (line_from h k (suc l) n) (none (h, k, l) u v) (line_none h k (suc l) n u v)

  plane_none : (h k n : ℕ) → m < h → h < cell.n1 → R (plane_from cell.n3 h k n) ≡ []
  unfolding plane_from
  plane_none h k zero u v = s.nil
  plane_none h k (suc n) u v = both_none (line_from h k 0 cell.n3) (plane_from cell.n3 h (suc k) n) (line_none h k 0 cell.n3 u v) (plane_none h (suc k) n u v)

  cell_none : (h n : ℕ) → m < h → h + n ≤ cell.n1 → R (cell_from cell.n3 cell.n2 h n) ≡ []
  unfolding cell_from
  cell_none h zero u v = s.nil
  cell_none h (suc n) u v = both_none (plane_from cell.n3 h 0 cell.n2) (cell_from cell.n3 cell.n2 (suc h) n) (plane_none h 0 cell.n2 u (inside h n v)) (cell_none (suc h) n (above h u) (within h n v))
    where
      inside : (h n : ℕ) → h + suc n ≤ cell.n1 → h < cell.n1
      inside h n v = omega arith

      above : (h : ℕ) → m < h → m < suc h
      above h u = omega arith

      within : (h n : ℕ) → h + suc n ≤ cell.n1 → suc h + n ≤ cell.n1
      within h n v = omega arith

  pub from_none : (j : J) → m < j.0 → R (places_from cell j) ≡ []
  from_none j u = ⊎_elim
      (λ (l : j.0 < cell.n1).
      ap R (from_inside cell j l)
      ∙ both_none (line_from j.0 j.1 j.2 (cell.n3 - j.2)) _ (line_none j.0 j.1 j.2 (cell.n3 - j.2) u l)
      (both_none (plane_from cell.n3 j.0 (suc j.1) (cell.n2 - suc j.1)) _ (plane_none j.0 (suc j.1) (cell.n2 - suc j.1) u l) (cell_none (suc j.0) (cell.n1 - suc j.0) (omega arith) (omega arith))))
      (λ (l : cell.n1 ≤ j.0). ap R (from_beyond cell j l) ∙ s.nil)
      (lt_or_ge j.0 cell.n1)

-- ---- how many places

length_line : (h k l n : ℕ) → length (line_from h k l n) ≡ n
unfolding line_from
length_line h k l zero = refl
length_line h k l (suc n) = ap suc (length_line h k (suc l) n)

add_row : (l m : List J) (q n : ℕ) → length l ≡ q → length m ≡ n * q → length (l ++ m) ≡ suc n * q
add_row l m q n e f = omega (arith, length-append l m, e, f)

length_plane : (q h k n : ℕ) → length (plane_from q h k n) ≡ n * q
unfolding plane_from
length_plane q h k zero = sym (zero-mul q)
length_plane q h k (suc n) = add_row (line_from h k 0 q) (plane_from q h (suc k) n) q n (length_line h k 0 q) (length_plane q h (suc k) n)

pub length_cell : (q m h n : ℕ) → length (cell_from q m h n) ≡ n * (m * q)
unfolding cell_from
length_cell q m h zero = sym (zero-mul (m * q))
length_cell q m h (suc n) = add_row (plane_from q h 0 m) (cell_from q m (suc h) n) (m * q) n (length_plane q h 0 m) (length_cell q m (suc h) n)

-- ---- the records of places, one after another

cond_append : {A : Type 0} (b : Bool) (x : A) (l m : List A) → cond b (x ∷ (l ++ m)) (l ++ m) ≡ cond b (x ∷ l) l ++ m
cond_append true x l m = refl
cond_append false x l m = refl

cond_most : {A : Type 0} (b : Bool) (x : A) (l : List A) (n : ℕ) → length l ≤ n → length (cond b (x ∷ l) l) ≤ suc n
cond_most true x l n h = omega arith
cond_most false x l n h = omega arith

module _ {S R : Type 0} (𝓐 : Acts S J R) (le : J → J → Bool) (eq : R → R → Bool) (G : List S) (F : J → R) where
  abbrev records : List J → List (J × R)
  records l = records_of 𝓐 le eq G F l

  abbrev given : J → Bool
  given j = lowest 𝓐 le eq G j && not (eq (F j) 𝓐.zer)

  records_append : (l m : List J) → records (l ++ m) ≡ records l ++ records m
  unfolding records_of
  records_append [] m = refl
  records_append (j ∷ l) m = ap (λ t. cond (given j) ((j, F j) ∷ t) t) (records_append l m) ∙ cond_append (given j) (j, F j) (records l) (records m)

  pub records_most : (l : List J) → length (records l) ≤ length l
  unfolding records_of
  records_most [] = omega arith
  records_most (j ∷ l) = cond_most (given j) (j, F j) (records l) (length l) (records_most l)

  -- where every value is zero there are none
  pub records_none : (l : List J) → ((j : J) → Mem j l → eq (F j) 𝓐.zer ≡ true) → records l ≡ []
  unfolding records_of
  records_none [] z = refl
  records_none (j ∷ l) z = ap (λ b. cond (lowest 𝓐 le eq G j && not b) ((j, F j) ∷ records l) (records l)) (z j first) ∙ kept (lowest 𝓐 le eq G j) ∙ records_none l (λ j m. z j (later m))
    where
      kept : (b : Bool) → cond (b && false) ((j, F j) ∷ records l) (records l) ≡ records l
      kept true = refl
      kept false = refl

  pub records_spread : Spreads records
  unfolding records_of
  records_spread = record { nil = refl; append = records_append }
