-- The root r of order 2,880 for the prime that m chooses, e(k/N), and the constant table of the powers of r.
use Rattle.std.specs.Prelude.{◌*◌, ◌/◌}
use Rattle.algebra.specs.Prelude.{cond, eqb, ℕ}
use Rattle.algebra.specs.ring.Ring.{pow}
use Rattle.algebra.specs.fourier.Axis.{Axis}
use Rattle.prime_shape.specs.Shape.{LeastChoice}
use Rattle.numbers.specs.Value.{prime, exponent, Value, value, field, real, part}

-- The paper's a in r = ((a + i)/(a - i))^c, and r as a value.
unfoldable pub choice : ℕ → ℕ
choice m = cond (eqb m 1) 14 4

unfoldable pub root : (m : ℕ) → Value m
root m = value m (cond (eqb m 1) 125 296865) (cond (eqb m 1) 48584 64524)

-- The paper's rule: a is the least from 1 upward for which r has order exactly 2,880 and r^720 = -i.
abbrev pub RootRule : ℕ → Type 0
RootRule m = LeastChoice (prime m) (exponent m) (choice m) (root m)

-- e(1/N), so that e(k/N) is its k-th power
abbrev pub root_of : (m N : ℕ) → Value m
root_of m N = pow (field m) (root m) (2880 / N)

-- the axis of N = 2 A points: e(1/N) and 1/N
abbrev pub axis : (m A : ℕ) → Axis (Value m)
axis m A = record { half = A; w = root_of m (2 * A); part = real m (part m (2 * A)) }
