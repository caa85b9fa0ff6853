-- Equation (3) of document 001, as it is printed and in its letters.
--
-- A line X of N = A B points has the transform 𝐗(𝐭), the sum over t of X(t) e(t𝐭/N). Let t = a B + b and 𝐭
-- = 𝐚 + 𝐛 A, where a and 𝐚 are below A, b and 𝐛 below B. As in the paper, the bold letters are those of the
-- transform. Then
--
--     𝐗(𝐚 + 𝐛A) = Σ_b e(b𝐛/B) [ e(b𝐚/AB) Σ_a X(aB + b) e(a𝐚/A) ].        (3)
--
-- The inner sum over a is a transform of length A. It is multiplied by the factor, which has the transform's 𝐚. The
-- outer sum over b is a transform of length B. W is a root of order 2,880: r in one direction, and its conjugate in the
-- other. So e(x/k) is a power of W for every k that divides 2,880.
use Rattle.std.specs.Prelude.{◌≡◌, ℕ, ◌+◌, ◌*◌, ◌/◌, ◌<◌}
use Rattle.algebra.specs.ring.Ring.{Ops, pow, sum}
use Rattle.numbers.specs.Value.{Value, field}

module _ {R : Type 0} (𝓞 : Ops R) (W : R) where
  open 𝓞 use {mul as ◌⊗◌}

  infixl 70 ◌⊗◌
  -- e(x/k)
  unfoldable pub e : (k x : ℕ) → R
  e k x = pow 𝓞 W (2880 / k * x)

  -- the transform of N points, by the direct sum
  unfoldable pub direct : (N : ℕ) (X : ℕ → R) (𝐭 : ℕ) → R
  direct N X 𝐭 = sum 𝓞 N (λ t. X t ⊗ e N (t * 𝐭))

  -- the inner sum
  unfoldable pub inner : (A B : ℕ) (X : ℕ → R) (b 𝐚 : ℕ) → R
  inner A B X b 𝐚 = sum 𝓞 A (λ a. X (a * B + b) ⊗ e A (a * 𝐚))

  -- a value times the factor
  unfoldable pub factor : (A B b 𝐚 : ℕ) → R → R
  factor A B b 𝐚 x = e (A * B) (b * 𝐚) ⊗ x

  -- the outer sum of the values Y(b)
  unfoldable pub outer : (B : ℕ) (Y : ℕ → R) (𝐛 : ℕ) → R
  outer B Y 𝐛 = sum 𝓞 B (λ b. e B (b * 𝐛) ⊗ Y b)

-- Equation (3): the three parts together are the direct sum, for every split of a length N = A B that divides 2,880.
pub record EquationThree : Type 0 where
  pub splits : (m : ℕ) (W : Value m) →
      pow (field m) W 2880 ≡ (field m).one →
      (A B : ℕ) →
      A * B * (2880 / (A * B)) ≡ 2880 →
      (X : ℕ → Value m) (𝐚 𝐛 : ℕ) → 𝐚 < A → 𝐛 < B →
      direct (field m) W (A * B) X (𝐚 + 𝐛 * A)
      ≡ outer (field m) W B (λ b. factor (field m) W A B b 𝐚 (inner (field m) W A B X b 𝐚)) 𝐛
