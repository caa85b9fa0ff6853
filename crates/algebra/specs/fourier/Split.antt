-- The part of a line at q, q + m, .., transformed by itself.
use Rattle.std.specs.Prelude.{◌+◌, ◌*◌}
use Rattle.algebra.specs.Prelude.{ℕ}
use Rattle.algebra.specs.ring.Ring.{Ops, pow, sum}

module _ {R : Type 0} (𝓞 : Ops R) where
  open 𝓞 use {mul as ◌⊗◌}

  infixl 70 ◌⊗◌
  -- T m l v q s: the transform of length l of the values at q, q + m, ..
  unfoldable pub T : (X : ℕ → R) (m l : ℕ) (v : R) (q s : ℕ) → R
  T X m l v q s = sum 𝓞 l (λ a. X (q + m * a) ⊗ pow 𝓞 v (a * s))
