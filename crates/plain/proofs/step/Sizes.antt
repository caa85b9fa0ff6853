-- The sizes of a step's numbers: the quotients of 2,880 that are exponents, and bounds on what a step computes with.
use mathlib.Core.Path.{◌≡◌, sym, ◌∙◌, ap, subst}
use Prim.Native.Nat.{ℕ, ◌*◌, ◌/◌, ◌≤◌, ◌<◌}
use native.Mathlib.Nat as N
use native.Mathlib.Omega.{arith}
use Rattle.lengths.proofs.stage.Divisors.{divisor_pos, quotient, divides, quotient_pos, divisor_le}
use Rattle.slices.proofs.Rows.{rows_wide}
use Rattle.plain.specs.Plain.{Splits}

-- the quotients of 2,880 that a step meets
module _ {A B M : ℕ} (h : Splits A B M) where
  abbrev share : ℕ
  share = 2880 / (A * B * M)

  pub whole_le : A * B * M ≤ 2880
  whole_le = divisor_le (A * B * M) share h.divides

  product_share : A * B * (M * share) ≡ 2880
  product_share = omega (arith, h.divides)

  by_product : 2880 / (A * B) ≡ M * share
  by_product = quotient (A * B) (M * share) product_share

  by_outer : 2880 / B ≡ A * (M * share)
  by_outer = quotient B (A * (M * share)) (omega (arith, h.divides))

  -- the step from one root to the next
  pub outer_share : 2880 / B ≡ 2880 / (A * B) * A
  outer_share = by_outer ∙ N.mul_comm A (M * share) ∙ ap (λ (k : ℕ). k * A) (sym by_product)

  outer_product : B * (A * (M * share)) ≡ 2880
  outer_product = omega (arith, h.divides)

  outer_whole : B * (2880 / B) ≡ 2880
  outer_whole = divides B (A * (M * share)) outer_product

  pub product_divides : A * B * (2880 / (A * B)) ≡ 2880
  product_divides = divides (A * B) (M * share) product_share

  pub product_pos : 0 < A * B
  product_pos = divisor_pos (A * B) (M * share) product_share

  pub outer_pos : 0 < B
  outer_pos = omega (arith, h.low)

  pub product_le : A * B ≤ 2880
  product_le = divisor_le (A * B) (M * share) product_share

  -- the places of one b
  pub stride_le : M * A ≤ 2880
  stride_le = omega (arith, rows_wide (M * A) outer_pos, whole_le)

  -- the exponents of the outer sums and of the factors stay below 2,880
  outer_exponent : {c : ℕ} → c < B → c * (2880 / B) < 2880
  outer_exponent {c} l = subst (λ k. c * (2880 / B) < k) outer_whole (N.mul-lt-mul_of_pos_right l (quotient_pos B (A * (M * share)) outer_product))

  pub twiddle_exponent : {b : ℕ} → b < B → b * (2880 / (A * B)) * A < 2880
  twiddle_exponent {b} l = subst (λ k. k < 2880) (ap (λ k. b * k) outer_share ∙ sym (N.mul_assoc b (2880 / (A * B)) A)) (outer_exponent l)
