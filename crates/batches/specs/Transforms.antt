-- The transforms of sixteen lines by a factor list.
use Rattle.std.specs.Prelude.{◌≡◌, List, ℕ, ◌+◌, ◌*◌, ◌/◌, ◌<◌, ◌≤◌, length}
use Rattle.algebra.specs.ring.Ring.{pow, dft}
use Rattle.numbers.specs.Value.{prime, Value, field}
use Rattle.slices.specs.Pairs.{values_of, list_of}
use Rattle.lengths.specs.Lengths.{octal_digits}
use Rattle.plain.specs.Plain.{after_steps}
use Rattle.batches.specs.Lanes.{UpTo, line_in}

-- The line of each lane has become its transform, by the steps of one line, and the numbers have grown by no more
-- than 32 p with each of at most 11 steps.
pub record TransformedLanes (m : ℕ) (W : Value m) (factors n : ℕ) (before after : List ℕ) : Type 0 where
  pub long : length after ≡ 32 * n
  pub few : length (octal_digits factors) ≤ 11
  pub low : (X : ℕ) → UpTo X before → UpTo (X + 32 * prime m * length (octal_digits factors)) after
  pub steps : (v : ℕ) → v < 16
      → line_in m n v after
      ≡ after_steps m W (octal_digits factors) (length (octal_digits factors)) (line_in m n v before)
  pub is : (v : ℕ) → v < 16
      → line_in m n v after
      ≡ list_of n (dft (field m) n (pow (field m) W (2880 / n)) (values_of m (line_in m n v before)))
