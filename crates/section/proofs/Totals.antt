-- Sums of whole numbers: how large they are, and the machine's sum of two.
use mathlib.Core.Path.{◌≡◌, refl, sym, ◌∙◌, ap, subst}
use mathlib.Core.Bool.{Bool, true, false, cond}
use Prim.Native.Nat.{ℕ, zero, suc, ◌+◌, ◌*◌, ◌-◌, ◌<◌, ◌≤◌}
use native.Mathlib.Nat.{le_antisymm}
use native.Mathlib.Numerals.{add-one}
use native.Mathlib.Omega.{arith}
use lib.Dec.{ltb}
use lib.IntN.{ℤ, pos, negsuc, nat_abs, ◌+ℤ◌}
use mir.Syntax.{w64}
use mir.Val.{SFits}
use Rattle.algebra.specs.ring.Ring.{sum}
use Rattle.signed.specs.IntegerRing.{integers}
use Rattle.slices.proofs.Rows.{row_end}

-- the magnitude of a difference
abs_difference : (a b : ℕ) (t : Bool) → nat_abs (cond t (negsuc (suc b - suc a)) (pos (a - suc b))) ≤ a + suc b
abs_difference a b true = omega arith
abs_difference a b false = omega arith

pub abs_add : (x y : ℤ) → nat_abs (x +ℤ y) ≤ nat_abs x + nat_abs y
abs_add (pos a) (pos b) = omega arith
abs_add (pos a) (negsuc b) = abs_difference a b (ltb a (suc b))
abs_add (negsuc a) (pos b) = omega (arith, abs_difference b a (ltb b (suc a)))
abs_add (negsuc a) (negsuc b) = omega arith

-- a sum of n numbers, each of a magnitude of at most b
pub abs_sum : (f : ℕ → ℤ) (b n : ℕ) → ((k : ℕ) → k < n → nat_abs (f k) ≤ b) → nat_abs (sum integers n f) ≤ n * b
unfolding sum integers
abs_sum f b zero h = omega arith
abs_sum f b (suc n) h = omega (arith, abs_add (sum integers n f) (f n), abs_sum f b n (λ k l. h k (omega arith)), h n (omega arith))

pub small_fits : (z : ℤ) → nat_abs z < 9223372036854775808 → SFits w64 z
small_fits (pos n) l = record { sfits = omega (arith, l) }
small_fits (negsuc n) l = record { sfits = omega (arith, l) }

-- The invariant of a loop that adds f 0, f 1, .., up to f (n - 1).
pub record Summing (f : ℕ → ℤ) (n k : ℕ) (s : ℤ) : Type 0 where
  pub le : k ≤ n
  pub is : s ≡ sum integers k f

pub summing_start : (f : ℕ → ℤ) (n : ℕ) → Summing f n 0 (pos 0)
unfolding sum integers
summing_start f n = record { le = omega arith; is = refl }

module _ {f : ℕ → ℤ} {n k : ℕ} {s : ℤ} (w : Summing f n k s) where
  pub summing_next : {t r : ℤ} → k < n → t ≡ f k → r ≡ s +ℤ t → Summing f n (k + 1) r
  unfolding sum integers
  summing_next l e q = record { le = omega arith; is = q ∙ (λ i. w.is i +ℤ e i) ∙ ap (λ j. sum integers j f) (sym (add-one k)) }

  pub summing_done : n ≤ k → s ≡ sum integers n f
  summing_done l = w.is ∙ ap (λ j. sum integers j f) (le_antisymm w.le l)

  -- the next sum is in range, if all are
  pub summing_fits : (b : ℕ) {t : ℤ} → ((j : ℕ) → j < n → nat_abs (f j) ≤ b) → n * b < 9223372036854775808 → k < n → t ≡ f k → SFits w64 (s +ℤ t)
  summing_fits b {t} h m l e = small_fits (s +ℤ t) (omega (arith, abs_add s t, so_far, h k l, ap nat_abs e, row_end b l, m))
    where
      so_far : nat_abs s ≤ k * b
      so_far = subst (λ z. nat_abs z ≤ k * b) (sym w.is) (abs_sum f b k (λ j i. h j (omega arith)))
