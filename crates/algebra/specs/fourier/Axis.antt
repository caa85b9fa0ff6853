-- An axis of even length: its data, which is all that a contract cites, and its laws, which folds and cells ask for.
use Rattle.std.specs.Prelude.{◌≡◌, ℕ, zero, suc, ◌*◌, ◌<◌}
use Rattle.algebra.specs.ring.Ring.{Ops, pow}

-- half the length N = 2 * half, the root w = e(1/N), and 1/N; the other root is the conjugate of w
pub record Axis (R : Type 0) : Type 0 where
  pub half : ℕ
  pub w : R
  pub part : R

module _ {R : Type 0} (𝓞 : Ops R) where
  open 𝓞 use {add as ◌⊕◌, mul as ◌⊗◌, neg as ⊖◌, zer as 𝟘, one as 𝟙}

  infixl 65 ◌⊕◌
  infixl 70 ◌⊗◌
  infix 75 ⊖◌
  -- numerals
  unfoldable pub cast : ℕ → R
  cast zero = 𝟘
  cast (suc n) = 𝟙 ⊕ cast n

  -- a root of unity of order n, with its inverse, the inverse of n, and that of w^k - 1
  pub record Root (n : ℕ) (w w' part : R) : Type 0 where
    pub inverse : w ⊗ w' ≡ 𝟙
    pub cycle : pow 𝓞 w n ≡ 𝟙
    pub apart : (k : ℕ) → 0 < k → k < n → (v : R) × (v ⊗ (pow 𝓞 w k ⊕ ⊖ 𝟙) ≡ 𝟙)
    pub part_of : part ⊗ cast n ≡ 𝟙

  -- half is 1/2; tau s is the tangent of half the angle of w^s
  pub record AxisLaws (conj : R → R) (i half : R) (axis : Axis R) (tau : ℕ → R) : Type 0 where
    pub positive : 0 < axis.half
    pub root : Root (2 * axis.half) axis.w (conj axis.w) axis.part
    pub turn : pow 𝓞 axis.w axis.half ≡ ⊖ 𝟙
    pub halves : half ⊗ (𝟙 ⊕ 𝟙) ≡ 𝟙
    pub tan : (s : ℕ) → 0 < s → s < axis.half →
        (𝟙 ⊕ ⊖ (i ⊗ tau s)) ⊗ (𝟙 ⊕ pow 𝓞 axis.w s) ≡ 𝟙 ⊕ 𝟙
