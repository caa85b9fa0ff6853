-- The correlation is within the limit where refusal 28 does not hold.
use mathlib.Core.Path.{◌≡◌, refl, ◌∙◌, ap, subst}
use mathlib.Core.List.{List}
use Prim.Native.Nat.{ℕ, zero, suc, ◌+◌, ◌*◌, ◌<◌, ◌≤◌}
use native.Mathlib.Nat.{mod-lt, mul-le-mul_left}
use native.Mathlib.Omega.{arith}
use lib.IntN.{ℤ, pos, nat_abs, ◌+ℤ◌, ◌*ℤ◌}
use Rattle.algebra.specs.ring.Ring.{sum}
use Rattle.algebra.specs.cells.Cell.{J, Inside, P1}
use Rattle.signed.specs.IntegerRing.{integers}
use Rattle.combined.specs.CombinedMap.{count_of}
use Rattle.correlation.specs.Correlation.{shifted_by, total_of, correlation_at, larger, over, magnitudes, largest}
use Rattle.signed.proofs.Magnitudes.{abs_add, abs_mul}
use Rattle.correlation.proofs.Scans.{below_largest}
use Rattle.correlation.proofs.Folding.{over_cong, over_swap, over_mul, over_most}

-- the magnitude of a sum is at most the sum of the magnitudes
pub abs_sum : (n : ℕ) (f : ℕ → ℤ) → nat_abs (sum integers n f) ≤ over ◌+◌ n (λ i. nat_abs (f i))
unfolding sum integers over
abs_sum zero f = omega arith
abs_sum (suc n) f = omega (arith, abs_add (sum integers n f) (f n), abs_sum n f)

-- the sum of numbers that are not below zero
pub sum_positive : (n : ℕ) (f : ℕ → ℕ) → sum integers n (λ i. pos (f i)) ≡ pos (over ◌+◌ n f)
unfolding sum integers over
sum_positive zero f = refl
sum_positive (suc n) f = ap (λ k. k +ℤ pos (f n)) (sum_positive n f)

pub abs_below : (n : ℕ) (f : ℕ → ℤ) (g : ℕ → ℕ) → ((i : ℕ) → i < n → nat_abs (f i) ≤ g i) → nat_abs (sum integers n f) ≤ over ◌+◌ n g
abs_below n f g e = omega (arith, abs_sum n f, over_most n (λ i. nat_abs (f i)) g e)

module _ (h : J) (v : List ℤ) where
  -- a magnitude is at most the largest
  pub count_most : (u : J) → Inside h u → nat_abs (count_of P1 h v u) ≤ largest h v
  count_most u n =
      let line : ℕ → ℕ → ℕ = λ x z. over larger (2 * h.1) (λ y. nat_abs (count_of P1 h v (x, y, z))) in
      let plane : ℕ → ℕ = λ z. over larger (2 * h.0) (λ x. line x z) in
      omega (arith, below_largest (2 * h.1) u.1 (λ y. nat_abs (count_of P1 h v (u.0, y, u.2))) n.1, below_largest (2 * h.0) u.0 (λ x. line x u.2) n.0, below_largest (2 * h.2) u.2 plane n.2)

pub shifted_inside : (h u s : J) → Inside h u → Inside h (shifted_by h u s)
shifted_inside h u s n = (mod-lt (u.0 + s.0) (omega (arith, n.0)), mod-lt (u.1 + s.1) (omega (arith, n.1)), mod-lt (u.2 + s.2) (omega (arith, n.2)))

module _ (h : J) (a b : List ℤ) (s : J) where
  abbrev part : J → ℕ
  part u = nat_abs (count_of P1 h a u)

  term_most : (u : J) → Inside h u → nat_abs (count_of P1 h a u *ℤ count_of P1 h b (shifted_by h u s)) ≤ part u * largest h b
  term_most u n = omega (arith, abs_mul (count_of P1 h a u) (count_of P1 h b (shifted_by h u s)), mul-le-mul_left (part u) (count_most h b (shifted_by h u s) (shifted_inside h u s n)))

  -- x, y, z as z, x, y
  reordered : over ◌+◌ (2 * h.0) (λ x. over ◌+◌ (2 * h.1) (λ y. over ◌+◌ (2 * h.2) (λ z. part (x, y, z) * largest h b))) ≡ magnitudes h a * largest h b
  reordered =
      over_cong ◌+◌ (2 * h.0) _ _ (λ x lx. over_swap (2 * h.1) (2 * h.2) (λ y z. part (x, y, z) * largest h b))
      ∙ over_swap (2 * h.0) (2 * h.2) (λ x z. over ◌+◌ (2 * h.1) (λ y. part (x, y, z) * largest h b))
      ∙ over_cong ◌+◌ (2 * h.2) _ _ (λ z lz. over_cong ◌+◌ (2 * h.0) _ _ (λ x lx. over_mul (2 * h.1) (largest h b) (λ y. part (x, y, z))) ∙ over_mul (2 * h.0) (largest h b) (λ x. over ◌+◌ (2 * h.1) (λ y. part (x, y, z))))
      ∙ over_mul (2 * h.2) (largest h b) (λ z. over ◌+◌ (2 * h.0) (λ x. over ◌+◌ (2 * h.1) (λ y. part (x, y, z))))

  pub correlation_most : nat_abs (correlation_at h a b s) ≤ magnitudes h a * largest h b
  unfolding correlation_at total_of
  correlation_most = subst (λ (k : ℕ). nat_abs (sum integers (2 * h.0) line) ≤ k) reordered
      (abs_below (2 * h.0) line _ (λ x lx. abs_below (2 * h.1) _ _ (λ y ly. abs_below (2 * h.2) _ _ (λ z lz. term_most (x, y, z) (lx, ly, lz)))))
    where
      line : ℕ → ℤ
      line x = sum integers (2 * h.1) (λ y. sum integers (2 * h.2) (λ z. count_of P1 h a (x, y, z) *ℤ count_of P1 h b (shifted_by h (x, y, z) s)))
