-- Neighbouring rows of B + 1 pairs into the lanes of a batch and back: place j of a lane is pair j of the packed line.
--
-- A row has 2 B + 2 numbers. Those of place j are the numbers 2 j and 2 j + 1 of the row, but for the second number of
-- place 0, which is the number 1 or, in the packing of the stored factors, the number 2 B.
use Rattle.std.specs.Prelude.{◌≡◌, ◌≢◌, ◌⊎◌, cond, List, ℕ, zero, suc, ◌+◌, ◌*◌, ◌-◌, ◌<◌, ltb, get_or, length}
use Rattle.algebra.specs.ring.Ring.{Ops}
use Rattle.numbers.specs.declared.Pair.{Pair}
use Rattle.numbers.specs.Value.{Residue, field, real, value_of, pair_of}
use Rattle.numbers.specs.Bounds.{zero_pair}
use Rattle.batches.specs.Reduction.{Holds}
use Rattle.batches.specs.Lanes.{lane_at}

-- the second number of place j of a row
unfoldable pub second_of : (second j : ℕ) → ℕ
second_of second zero = second
second_of second (suc j) = 2 * suc j + 1

pub record SecondIn (b second : ℕ) : Type 0 where
  pub is : (second ≡ 1) ⊎ (second ≡ 2 * b)

-- the two numbers of row v, of rows of `width` numbers
unfoldable pub row_pair : (rows : List ℕ) (width first second v : ℕ) → Pair
row_pair rows width first second v =
    record { re = get_or rows (v * width + first) 0; im = get_or rows (v * width + second) 0 }

-- where `lanes` lanes are used, every other lane is zero
unfoldable pub used_pair : (lanes : ℕ) (f : ℕ → Pair) (v : ℕ) → Pair
used_pair lanes f v = cond (ltb v lanes) (f v) zero_pair

-- the first n places of the batch are those of the rows
pub record GatheredRows (rows : List ℕ) (second b lanes n : ℕ) (d : List ℕ) : Type 0 where
  pub long : length d ≡ 32 * b
  pub each : (j v : ℕ) → j < n → v < 16
      → lane_at d j v ≡ used_pair lanes (row_pair rows (2 * b + 2) (2 * j) (second_of second j)) v

-- the numbers `first` and `second` of the first n rows are f 0, f 1, .., and every other number is as it was
pub record PutRows (f : ℕ → Pair) (width first second n : ℕ) (before after : List ℕ) : Type 0 where
  pub long : length after ≡ length before
  pub new : (v : ℕ) → v < n → row_pair after width first second v ≡ f v
  pub kept : (k : ℕ) →
      ((v : ℕ) → v < n → (v * width + first ≢ k) × (v * width + second ≢ k)) →
      get_or after k 0 ≡ get_or before k 0

-- the first n places of row v are lane v of the batch, times what c stands for over 2^32
pub record ScatteredRows (m c : ℕ) (s : List ℕ) (second b lanes n : ℕ) (before after : List ℕ) : Type 0 where
  pub long : length after ≡ length before
  pub new : (c₀ : Residue m) → Holds m c c₀ → (j v : ℕ) → j < n → v < lanes
      → row_pair after (2 * b + 2) (2 * j) (second_of second j) v
      ≡ pair_of ((field m).mul (real m c₀) (value_of m (lane_at s j v)))

-- and the two numbers of a row that no place has are zero
pub record ClosedRows (m c : ℕ) (s : List ℕ) (second b lanes : ℕ) (before after : List ℕ) : Type 0 where
  pub places : ScatteredRows m c s second b lanes b before after
  pub rest : (v : ℕ) → v < lanes → row_pair after (2 * b + 2) (2 * b + 1 - second) (2 * b + 1) v ≡ zero_pair
