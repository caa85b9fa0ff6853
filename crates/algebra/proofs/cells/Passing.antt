-- Loops of tests: a loop that tests the numbers below n in turn and stops at the first that fails decides the test of them all;
-- so does a loop over the members of a list, and one over the places of a volume as they lie in it.
use mathlib.Core.Path.{◌≡◌, refl, sym, ◌∙◌, ap, subst}
use mathlib.Core.Logic.{⊎_elim}
use mathlib.Core.Bool.{Bool, true, false, ◌&&◌}
use mathlib.Core.List.{List, [], ◌∷◌}
use Prim.Native.Nat.{ℕ, zero, suc, ◌+◌, ◌<◌, ◌≤◌}
use native.Mathlib.Nat.{eq-or-lt_of_le}
use native.Mathlib.Numerals.{add-one}
use native.Mathlib.Omega.{arith}
use lib.Dec.{T}
use lib.ListN.{length, get_or}
use Rattle.algebra.specs.cells.Cell.{J, below, every, every_place}
use Rattle.algebra.proofs.ring.Bool.{and_l, and_r, and_i, same_test, below_at, below_by}
use Rattle.algebra.proofs.cells.CellTests.{every_place_at, every_place_by}

-- ---- one more number, the first that fails, and one of those that passed

pub below_step : (P : ℕ → Bool) (k : ℕ) → below k P ≡ true → P k ≡ true → below (k + 1) P ≡ true
unfolding below
below_step P k e f = rw (add-one, e, f) refl

pub below_stop : (P : ℕ → Bool) (n k : ℕ) → k < n → P k ≡ false → below n P ≡ false
below_stop P n k l e = same_test (below n P) false (λ t. subst T e (below_at n P k t l)) (λ t. absurd t)

pub passed_at : (P : ℕ → Bool) (n k : ℕ) → below n P ≡ true → k < n → P k ≡ true
passed_at P n k e l = same_test (P k) true (λ t. tt) (λ t. below_at n P k (subst T (sym e) tt) l)

-- a test that every number passes, and one that those between the ends 0 and b pass
pub below_all : (P : ℕ → Bool) (n : ℕ) → ((k : ℕ) → P k ≡ true) → below n P ≡ true
below_all P n h = same_test (below n P) true (λ t. tt) (λ t. below_by n P (λ k l. subst T (sym (h k)) tt))

pub below_ends : (P : ℕ → Bool) (b : ℕ) → ((k : ℕ) → 0 < k → k < b → P k ≡ true) → {r : Bool} → r ≡ (P 0 && P b) → r ≡ below (suc b) P
below_ends P b inner e = e ∙ same_test (P 0 && P b) (below (suc b) P)
    (λ t. below_by (suc b) P (λ k l. each t k l))
    (λ t. and_i (P 0) (P b) (below_at (suc b) P 0 t (omega arith)) (below_at (suc b) P b t (omega arith)))
  where
    each : T (P 0 && P b) → (k : ℕ) → k < suc b → T (P k)
    each t zero l = and_l (P 0) (P b) t
    each t (suc k) l = ⊎_elim (λ (e : suc k ≡ b). subst (λ q. T (P q)) (sym e) (and_r (P 0) (P b) t)) (λ (h : suc k < b). subst T (sym (inner (suc k) (omega arith) h)) tt) (eq-or-lt_of_le (omega arith))

-- ---- a `for` over the numbers below n that returns false at the first that fails: `below k P ≡ true` is its invariant, b what the code
-- found of k

pub tested_none : (P : ℕ → Bool) → below 0 P ≡ true
unfolding below
tested_none P = refl

pub tested_all : (P : ℕ → Bool) (k n : ℕ) → below k P ≡ true → n ≡ k → true ≡ below n P
tested_all P k n s e = sym (ap (λ q. below q P) e ∙ s)

module _ (P : ℕ → Bool) (k : ℕ) {b : Bool} (passed : below k P ≡ true) where
  pub tested_next : b ≡ P k → b ≡ true → below (k + 1) P ≡ true
  tested_next e t = below_step P k passed (sym e ∙ t)

  -- k is the last, in a loop that goes on through its end
  pub tested_last : (n : ℕ) → n ≡ k + 1 → b ≡ P k → b ≡ true → true ≡ below n P
  tested_last n l e t = sym (ap (λ q. below q P) l ∙ tested_next e t)

  pub tested_stop : (n : ℕ) → k < n → b ≡ P k → b ≡ false → false ≡ below n P
  tested_stop n l e t = sym (below_stop P n k l (sym e ∙ t))

pub ruleset tested = (tested_none, tested_all, tested_next, tested_last, tested_stop)

-- The invariant of a loop over the numbers below n: those below k have passed.
pub record Passing (P : ℕ → Bool) (n k : ℕ) : Type 0 where
  pub le : k ≤ n
  pub passed : below k P ≡ true

pub passing_start : (P : ℕ → Bool) (n : ℕ) → Passing P n 0
unfolding below
passing_start P n = record { le = omega arith; passed = refl }

module _ {P : ℕ → Bool} {n k : ℕ} where
  -- the loop goes on, stops, or has come to the end; b is what the code found of k
  pub passing_next : {b : Bool} → Passing P n k → k < n → b ≡ P k → b ≡ true → Passing P n (k + 1)
  passing_next s l e t = record { le = omega arith; passed = below_step P k s.passed (sym e ∙ t) }

  pub passing_stop : {b : Bool} → Passing P n k → k < n → b ≡ P k → b ≡ false → false ≡ below n P
  passing_stop s l e t = sym (below_stop P n k l (sym e ∙ t))

  pub passing_done : Passing P n k → n ≤ k → true ≡ below n P
  passing_done s l = let e : k ≡ n = omega arith in sym (ap (λ q. below q P) (sym e) ∙ s.passed)

-- ---- two tests, the second made only if the first is passed; x is what the code found of it

pub both_passed : {x r a b : Bool} → x ≡ a → x ≡ true → r ≡ b → r ≡ (a && b)
both_passed {b = b} e t f = f ∙ ap (λ c. c && b) (sym (sym e ∙ t))

pub first_failed : {x a : Bool} (b : Bool) → x ≡ a → x ≡ false → false ≡ (a && b)
first_failed b e t = ap (λ c. c && b) (sym (sym e ∙ t))

-- ---- members of a list

and_assoc : (a b c : Bool) → ((a && b) && c) ≡ (a && (b && c))
and_assoc true b c = refl
and_assoc false b c = refl

below_front : (n : ℕ) (P : ℕ → Bool) → below (suc n) P ≡ (P 0 && below n (λ k. P (suc k)))
unfolding below
below_front zero P = same_test _ _ (λ t. and_i (P 0) true t tt) (λ t. and_l (P 0) true t)
below_front (suc n) P = ap (λ b. b && P (suc n)) (below_front n P) ∙ and_assoc (P 0) (below n (λ k. P (suc k))) (P (suc n))

every_below : {S : Type 0} (l : List S) (d : S) (P : S → Bool) → below (length l) (λ k. P (get_or l k d)) ≡ every l P
unfolding every below
every_below [] d P = refl
every_below (s ∷ l) d P = below_front (length l) (λ k. P (get_or (s ∷ l) k d)) ∙ ap (λ b. P s && b) (every_below l d P)

-- The invariant of a loop over the members of l: those before number k have passed. (Past its end l has d.)
pub record PassingMembers {S : Type 0} (l : List S) (d : S) (P : S → Bool) (k : ℕ) : Type 0 where
  pub members : Passing (λ n. P (get_or l n d)) (length l) k

module _ {S : Type 0} {l : List S} {d : S} {P : S → Bool} where
  -- a loop that starts at the second: the first is known to pass
  pub members_second : {s : S} → 1 ≤ length l → s ≡ get_or l 0 d → P s ≡ true → PassingMembers l d P 1
  unfolding below
  members_second h e t = record { members = record { le = h; passed = ap P (sym e) ∙ t } }

  -- s is member k as the code holds it, b what it found of s
  module _ {k : ℕ} (passing : PassingMembers l d P k) where
    pub members_next : {s : S} {b : Bool} → k < length l → s ≡ get_or l k d → b ≡ P s → b ≡ true → PassingMembers l d P (k + 1)
    members_next h e f t = record { members = passing_next passing.members h (f ∙ ap P e) t }

    pub members_stop : {s : S} {b : Bool} → k < length l → s ≡ get_or l k d → b ≡ P s → b ≡ false → false ≡ every l P
    members_stop h e f t = passing_stop passing.members h (f ∙ ap P e) t ∙ every_below l d P

    pub members_done : length l ≤ k → true ≡ every l P
    members_done h = passing_done passing.members h ∙ every_below l d P

pub ruleset tested_members = (members_next, members_stop, members_done)

-- ---- the places of a volume, layer by layer and row by row

pub below_one : (P : ℕ → Bool) → below 1 P ≡ P 0
unfolding below
below_one P = refl

pub below_cong : (n : ℕ) (P Q : ℕ → Bool) → ((k : ℕ) → k < n → P k ≡ Q k) → below n P ≡ below n Q
unfolding below
below_cong zero P Q f = refl
below_cong (suc n) P Q f = λ i. below_cong n P Q (λ k l. f k (omega arith)) i && f n (omega arith) i

pub by_layers : (n m q : ℕ) (P : J → Bool) → below q (λ l. below n (λ h. below m (λ k. P (h, k, l)))) ≡ every_place n m q P
by_layers n m q P = same_test _ _
    (λ t. every_place_by n m q P (λ j hn hm hq. below_at m _ j.1 (below_at n _ j.0 (below_at q _ j.2 t hq) hn) hm))
    (λ t. below_by q _ (λ l hq. below_by n _ (λ h hn. below_by m _ (λ k hm. every_place_at n m q P (h, k, l) t hn hm hq))))

-- the same with a test of each row at its end
pub by_rows : (n m q : ℕ) (P : J → Bool) (E : ℕ → ℕ → Bool) → below q (λ z. below n (λ x. below m (λ y. P (x, y, z)) && E z x)) ≡ (every_place n m q P && every_place n 1 q (λ j. E j.2 j.0))
by_rows n m q P E = same_test _ _
    (λ t. and_i (every_place n m q P) _
    (every_place_by n m q P (λ j hn hm hq. below_at m _ j.1 (and_l (below m (λ y. P (j.0, y, j.2))) _ (below_at n _ j.0 (below_at q _ j.2 t hq) hn)) hm))
    (every_place_by n 1 q (λ j. E j.2 j.0) (λ j hn hm hq. and_r (below m (λ y. P (j.0, y, j.2))) _ (below_at n _ j.0 (below_at q _ j.2 t hq) hn))))
    (λ t. below_by q _ (λ z hz. below_by n _ (λ x hx. and_i (below m (λ y. P (x, y, z))) _
    (below_by m _ (λ y hy. every_place_at n m q P (x, y, z) (and_l (every_place n m q P) _ t) hx hy hz))
    (every_place_at n 1 q (λ j. E j.2 j.0) (x, 0, z) (and_r (every_place n m q P) _ t) hx (omega arith) hz))))
