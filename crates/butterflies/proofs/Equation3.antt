-- Equation (3) of document 001: the inner sum, the factor and the outer sum together are the direct sum.
use mathlib.Core.Path.{◌≡◌, sym, ◌∙◌, ap, ap₂}
use Prim.Native.Nat.{ℕ, ◌+◌, ◌*◌, ◌/◌}
use native.Mathlib.Nat as N
use native.Mathlib.Omega.{arith}
use Rattle.algebra.specs.ring.Ring.{Ops, pow, dft}
use Rattle.algebra.specs.ring.RingLaws.{CRing}
use Rattle.algebra.specs.fourier.Split.{T}
use Rattle.algebra.proofs.ring.Laws.{along, pow_add}
use Rattle.algebra.proofs.fourier.Sums.{sum_cong}
use Rattle.algebra.proofs.fourier.Transform.{pow_mul, cooley_tukey}
use Rattle.numbers.proofs.Values.{field_ring}
use Rattle.lengths.proofs.stage.Divisors.{quotient}
use Rattle.butterflies.specs.Equation3.{e, direct, inner, factor, outer, EquationThree}

-- the quotients of 2,880
module _ (A B : ℕ) (h : A * B * (2880 / (A * B)) ≡ 2880) where
  by_inner : 2880 / A ≡ 2880 / (A * B) * B
  by_inner = quotient A (2880 / (A * B) * B) (omega (arith, h))

  by_outer : 2880 / B ≡ 2880 / (A * B) * A
  by_outer = quotient B (2880 / (A * B) * A) (omega (arith, h))

module _ {R : Type 0} {𝓞 : Ops R} (𝓡 : CRing 𝓞) (W : R) where
  open 𝓞 use {mul as ◌⊗◌, one as 𝟙}
  open 𝓡 use {mul_assoc}

  infixl 70 ◌⊗◌
  -- the direct sum as a transform by e(1/N)
  pub direct_dft : (N : ℕ) (X : ℕ → R) (𝐭 : ℕ) → direct 𝓞 W N X 𝐭 ≡ dft 𝓞 N (pow 𝓞 W (2880 / N)) X 𝐭
  unfolding direct dft e
  direct_dft N X 𝐭 = sum_cong 𝓡 N _ _ (λ t l. ap (λ y. X t ⊗ y) (pow_mul 𝓡 W (2880 / N) (t * 𝐭)))

  module _ (A B : ℕ) (h : A * B * (2880 / (A * B)) ≡ 2880) (cycle : pow 𝓞 W 2880 ≡ 𝟙) (X : ℕ → R) where
    -- the root of the whole line, and that of the inner sums
    abbrev v : R
    v = pow 𝓞 W (2880 / (A * B))

    inner_root : pow 𝓞 W (2880 / A) ≡ pow 𝓞 v B
    inner_root = ap (pow 𝓞 W) (by_inner A B h) ∙ pow_mul 𝓡 W (2880 / (A * B)) B

    inner_cycle : pow 𝓞 (pow 𝓞 v B) A ≡ 𝟙
    inner_cycle =
        ap (λ y. pow 𝓞 y A) (sym (pow_mul 𝓡 W (2880 / (A * B)) B)) ∙ sym (pow_mul 𝓡 W (2880 / (A * B) * B) A)
        ∙ ap (pow 𝓞 W) (N.mul_comm (2880 / (A * B) * B) A ∙ regrouped) ∙ cycle
      where
        regrouped : A * (2880 / (A * B) * B) ≡ 2880
        regrouped = omega (arith, h)

    -- the factors of the two passes are one power
    factors : (b 𝐚 𝐛 : ℕ) → e 𝓞 W B (b * 𝐛) ⊗ e 𝓞 W (A * B) (b * 𝐚) ≡ pow 𝓞 v (b * (𝐚 + A * 𝐛))
    unfolding e
    factors b 𝐚 𝐛 =
        sym (pow_add 𝓡 W (2880 / B * (b * 𝐛)) (2880 / (A * B) * (b * 𝐚)))
        ∙ along (pow 𝓞 W) (2880 / B * (b * 𝐛) + 2880 / (A * B) * (b * 𝐚)) (2880 / (A * B) * (b * (𝐚 + A * 𝐛))) (rw (by_outer A B h) (omega arith))
        ∙ pow_mul 𝓡 W (2880 / (A * B)) (b * (𝐚 + A * 𝐛))

    -- the inner sum is the transform of the points b, b + B, ..
    inner_T : (b 𝐚 : ℕ) → inner 𝓞 W A B X b 𝐚 ≡ T 𝓞 X (1 * B) A (pow 𝓞 v B) (0 + 1 * b) 𝐚
    unfolding inner T e
    inner_T b 𝐚 = sum_cong 𝓡 A _ _ (λ a l.
        ap₂ ◌⊗◌ (along X (a * B + b) (0 + 1 * b + 1 * B * a) (omega arith)) (pow_mul 𝓡 W (2880 / A) (a * 𝐚) ∙ ap (λ y. pow 𝓞 y (a * 𝐚)) inner_root))

    direct_T : (𝐭 : ℕ) → direct 𝓞 W (A * B) X 𝐭 ≡ T 𝓞 X 1 (B * A) v 0 𝐭
    unfolding direct T e
    direct_T 𝐭 =
        sum_cong 𝓡 (A * B) _ _ (λ t l. ap₂ ◌⊗◌ (along X t (0 + 1 * t) (omega arith)) (pow_mul 𝓡 W (2880 / (A * B)) (t * 𝐭)))
        ∙ ap (λ n. T 𝓞 X 1 n v 0 𝐭) (N.mul_comm A B)

    pub equation_three : (𝐚 𝐛 : ℕ) → direct 𝓞 W (A * B) X (𝐚 + 𝐛 * A) ≡ outer 𝓞 W B (λ b. factor 𝓞 W A B b 𝐚 (inner 𝓞 W A B X b 𝐚)) 𝐛
    unfolding outer factor
    equation_three 𝐚 𝐛 =
        direct_T (𝐚 + 𝐛 * A) ∙ ap (λ k. T 𝓞 X 1 (B * A) v 0 (𝐚 + k)) (N.mul_comm 𝐛 A)
        ∙ cooley_tukey 𝓡 X 1 A B v inner_cycle 0 𝐚 𝐛
        ∙ sum_cong 𝓡 B _ _ (λ b l.
        ap₂ ◌⊗◌ (sym (factors b 𝐚 𝐛)) (sym (inner_T b 𝐚)) ∙ mul_assoc _ _ _)

pub equation_three_holds : EquationThree
equation_three_holds = record { splits = λ m W cycle A B h X 𝐚 𝐛 la lb. equation_three (field_ring m) W A B h cycle X 𝐚 𝐛 }
