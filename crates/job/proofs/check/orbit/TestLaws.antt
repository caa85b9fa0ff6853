-- What one operation of an orbit asks of a record and of the volume, as the code asks it.
use mathlib.Core.Path.{◌≡◌, refl, sym, ◌∙◌, ap, ap₂}
use mathlib.Core.Bool.{Bool, true, false, ◌&&◌}
use mathlib.Core.List.{List, [], ◌∷◌, ◌++◌}
use Prim.Native.Nat.{ℕ, zero, suc}
use native.Mathlib.Omega.{arith}
use lib.Dec.{eqb, ltb}
use lib.ListN.{get_or, drop}
use borrow.Author.Tests.{eq-eqb, ne_eqb, lt-ltb, le-ltb}
use Rattle.algebra.specs.cells.Cell.{J, Sym, Group, full, same_j, image_of, implied_value, every, agrees_t}
use Rattle.numbers.specs.declared.Pair.{Pair}
use Rattle.numbers.specs.Value.{prime, Value, field, conj, value_of, pair_of}
use Rattle.numbers.specs.Bounds.{Small}
use Rattle.numbers.proofs.Values.{pair_value}
use Rattle.cell.specs.Volume.{numbers_read}
use Rattle.cell.specs.Consistency.{same_value, agrees_with_itself, orbit_numbers, orbit_free}
use Rattle.cell.specs.Places.{all_below_at}
pub use Rattle.job.specs.TestSteps.{agrees_under}

-- ---- a record that agrees with itself

pub agrees_start : (g : Group) (a : J) (m : ℕ) (j : J) (x : Value m) → agrees_with_itself g a m j x ≡ every (drop 0 (full g)) (agrees_under a m j x)
unfolding agrees_with_itself agrees_t
agrees_start g a m j x = refl

-- two pairs that the code holds have the same numbers
pub same_pair_lem : (m : ℕ) (z : Value m) {x y : Pair} → Small (prime m) x → y ≡ pair_of z → (eqb y.re x.re && eqb y.im x.im) ≡ same_value z (value_of m x)
unfolding pair_of
same_pair_lem m z {x} {y} s e = ap₂ (λ (y x : Pair). eqb y.re x.re && eqb y.im x.im) e (sym (pair_value m s))

module _ (a : J) (m : ℕ) (j : J) (s : Sym) {i : J} (e : i ≡ image_of a s j) {t : Bool} (f : t ≡ same_j i j) where
  own_index : (b : Bool) → t ≡ b → same_j (image_of a s j) j ≡ b
  own_index b q = sym (f ∙ ap (λ i. same_j i j) e) ∙ q

  pub same_agrees : (x : Pair) → Small (prime m) x → t ≡ true → {y : Pair} → y ≡ pair_of (implied_value (field m) (conj m) s j (value_of m x)) → {r : Bool} → r ≡ (eqb y.re x.re && eqb y.im x.im) → r ≡ agrees_under a m j (value_of m x) s
  same_agrees x l q p r = rw (own_index true q) (r ∙ same_pair_lem m (implied_value (field m) (conj m) s j (value_of m x)) l p)

-- ---- an orbit that is free

-- the test of one operation: the numbers of the image are below 1
abbrev pub free_under : (g : Group) (a : J) (v : List ℕ) (j : J) → Sym → Bool
free_under g a v j s = all_below_at 1 v (numbers_read g a (image_of a s j))

zero_below : (x : ℕ) → eqb x 0 ≡ ltb x 1
zero_below zero = eq-eqb 0 0 refl ∙ sym (lt-ltb 0 1 (omega arith))
zero_below (suc x) = ne_eqb (suc x) 0 (λ e. omega arith) ∙ sym (le-ltb (suc x) 1 (omega arith))

zeros_below : (v l : List ℕ) → every l (λ q. eqb (get_or v q 0) 0) ≡ all_below_at 1 v l
unfolding every
zeros_below v [] = refl
zeros_below v (q ∷ l) = ap₂ ◌&&◌ (zero_below (get_or v q 0)) (zeros_below v l)

all_append : (P : ℕ → Bool) (l k : List ℕ) → every (l ++ k) P ≡ (every l P && every k P)
unfolding every
all_append P [] k = refl
all_append P (q ∷ l) k = ap (λ b. P q && b) (all_append P l k) ∙ sym (and_assoc (P q) (every l P) (every k P))
  where
    and_assoc : (a b c : Bool) → ((a && b) && c) ≡ (a && (b && c))
    and_assoc true b c = refl
    and_assoc false b c = refl

module _ (g : Group) (a : J) (v : List ℕ) (j : J) where
  orbit_every : (l : List Sym) → all_below_at 1 v (orbit_numbers g a l j) ≡ every l (free_under g a v j)
  unfolding orbit_numbers every
  orbit_every [] = refl
  orbit_every (s ∷ l) = all_append (λ q. ltb (get_or v q 0) 1) (numbers_read g a (image_of a s j)) (orbit_numbers g a l j) ∙ ap (λ b. free_under g a v j s && b) (orbit_every l)

  pub orbit_start : orbit_free g a v j ≡ every (drop 0 (full g)) (free_under g a v j)
  unfolding orbit_free
  orbit_start = zeros_below v (orbit_numbers g a (full g) j) ∙ orbit_every (full g)

  -- the code's test, made of the image
  pub image_free : (s : Sym) {i : J} {t : Bool} → i ≡ image_of a s j → t ≡ all_below_at 1 v (numbers_read g a i) → t ≡ free_under g a v j s
  image_free s e f = f ∙ ap (λ i. all_below_at 1 v (numbers_read g a i)) e
