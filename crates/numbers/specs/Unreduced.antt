-- Sums of products that are not reduced yet: what they stand for, and how large they can be.
use Rattle.std.specs.Prelude.{◌≡◌, ℕ, ◌*◌, ◌≤◌}
use Rattle.numbers.specs.declared.Accumulator.{Accumulator}
use Rattle.numbers.specs.Value.{Value, value}

-- a stands for z and has taken at most n products; each adds less than 2 * 302,399^2 to either number
pub record Accumulated (m n : ℕ) (a : Accumulator) (z : Value m) : Type 0 where
  pub re : a.re ≤ 182890310402 * n
  pub im : a.im ≤ 182890310402 * n
  pub value_is : value m a.re a.im ≡ z

-- ---- Sums that are not reduced: what they stand for, and how large they are.

-- what a sum that is not reduced stands for
unfoldable pub meant : (m : ℕ) → Accumulator → Value m
meant m a = value m a.re a.im

pub record Room (most : ℕ) (a : Accumulator) : Type 0 where
  pub re : a.re ≤ most
  pub im : a.im ≤ most
