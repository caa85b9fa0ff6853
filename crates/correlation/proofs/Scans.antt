-- Numbers taken together by an operation, one after the other: a scan's next step, the larger of two, bounds; and the column of the next place.
use mathlib.Core.Path.{◌≡◌, refl, sym, ◌∙◌, ap, subst}
use mathlib.Core.Logic.{⊎_elim}
use mathlib.Core.Bool.{cond}
use Prim.Native.Nat.{ℕ, zero, suc, max, ◌+◌, ◌-◌, ◌*◌, ◌%◌, ◌<◌, ◌≤◌}
use native.Mathlib.Nat.{mod-add-mod, mod-lt, mod-eq_of_lt, eq-or-lt_of_le, le_of_suc-le-suc}
use native.Mathlib.Numerals.{add-one}
use native.Mathlib.Omega.{arith}
use lib.Dec.{ltb}
use borrow.Author.Tests.{lt-ltb, le-ltb}
use Rattle.slices.proofs.Pairs.{lt_or_ge}
use Rattle.correlation.specs.Correlation.{larger, over}

pub over_next : (op : ℕ → ℕ → ℕ) (n : ℕ) (f : ℕ → ℕ) → op (over op n f) (f n) ≡ over op (n + 1) f
unfolding over
over_next op n f = rw add-one refl

pub over_none : (op : ℕ → ℕ → ℕ) (f : ℕ → ℕ) → 0 ≡ over op 0 f
unfolding over
over_none op f = refl

-- ---- the larger of two

pub larger_is : (a b : ℕ) → larger a b ≡ a + (b - a)
larger_is a b = ⊎_elim
    (λ (l : a < b). ap (λ t. cond t b a) (lt-ltb a b l) ∙ omega arith)
    (λ (g : b ≤ a). ap (λ t. cond t b a) (le-ltb a b g) ∙ omega arith)
    (lt_or_ge a b)

-- which is the library's
pub max_larger : (a b : ℕ) → max a b ≡ larger a b
max_larger a b = omega (arith, larger_is a b)

pub below_largest : (n k : ℕ) (f : ℕ → ℕ) → k < n → f k ≤ over larger n f
unfolding over
below_largest zero k f l = absurd (omega arith)
below_largest (suc n) k f l = ⊎_elim
    (λ (e : k ≡ n). rw e (omega (arith, larger_is (over larger n f) (f n))))
    (λ (m : k < n). omega (arith, larger_is (over larger n f) (f n), below_largest n k f m))
    (eq-or-lt_of_le (le_of_suc-le-suc l))

-- n numbers that are at most L
pub sum_most : (n L : ℕ) (f : ℕ → ℕ) → ((k : ℕ) → k < n → f k ≤ L) → over ◌+◌ n f ≤ n * L
unfolding over
sum_most zero L f h = omega arith
sum_most (suc n) L f h = omega (arith, sum_most n L f (λ k l. h k (omega arith)), h n (omega arith))

-- ---- columns

pub column_next : (n width : ℕ) {column : ℕ} → column ≡ n % width → (column + 1) % width ≡ (n + 1) % width
column_next n width e = ap (λ k. (k + 1) % width) e ∙ mod-add-mod n width 1

-- ---- a scan in rows of a width: the first n of count places are done, and the next one's column is known

pub record Scanned (op : ℕ → ℕ → ℕ) (f : ℕ → ℕ) (count width n column done : ℕ) : Type 0 where
  pub le : n ≤ count
  pub column_is : column ≡ n % width
  pub column_low : column < width
  pub is : done ≡ over op n f

module _ {op : ℕ → ℕ → ℕ} {f : ℕ → ℕ} {count width : ℕ} where
  pub scan_start : 0 < width → Scanned op f count width 0 0 0
  scan_start w = record { le = omega arith; column_is = sym (mod-eq_of_lt w); column_low = w; is = over_none op f }

  pub scan_next : {n column done column' done' : ℕ} → Scanned op f count width n column done → n < count → done' ≡ op done (f n) → column' ≡ (column + 1) % width
      → Scanned op f count width (n + 1) column' done'
  scan_next {n} {column} {done} s l d k =
      let w : 0 < width = omega (arith, s.column_low) in
      record {
        le = omega arith;
        column_is = k ∙ column_next n width s.column_is;
        column_low = subst (λ (j : ℕ). j < width) (sym k) (mod-lt (column + 1) w);
        is = d ∙ ap (λ j. op j (f n)) s.is ∙ over_next op n f;
      }

  pub scan_done : {n column done : ℕ} → Scanned op f count width n column done → count ≤ n → done ≡ over op count f
  scan_done {n} {column} {done} s l = subst (λ (k : ℕ). done ≡ over op k f) (omega (arith, s.le)) s.is
