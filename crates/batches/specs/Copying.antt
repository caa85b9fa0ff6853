-- Blocks of sums, copied to their places in a batch.
use Rattle.std.specs.Prelude.{◌≡◌, ◌≢◌, List, ℕ, ◌+◌, ◌*◌, ◌<◌, length}
use Rattle.numbers.specs.Value.{prime, Value, field}
use Rattle.butterflies.specs.Equation3.{outer}
use Rattle.butterflies.specs.declared.twiddle.Places.{Places}
use Rattle.batches.specs.Lanes.{lane_at, UpTo, Good, turned_value}

-- block c of y stands at place j, and every other place is as it was
pub record PutBlock (y : List ℕ) (c j : ℕ) (before after : List ℕ) : Type 0 where
  pub long : length after ≡ length before
  pub new : (v : ℕ) → v < 16 → lane_at after j v ≡ lane_at y c v
  pub kept : (i v : ℕ) → v < 16 → i ≢ j → lane_at after i v ≡ lane_at before i v

-- the first n blocks of y stand at the places base, base + gap, ..
pub record PutBlocks (y : List ℕ) (base gap n : ℕ) (before after : List ℕ) : Type 0 where
  pub long : length after ≡ length before
  pub new : (c v : ℕ) → c < n → v < 16 → lane_at after (base + c * gap) v ≡ lane_at y c v
  pub kept : (i v : ℕ) → v < 16 →
      ((c : ℕ) → c < n → base + c * gap ≢ i) →
      lane_at after i v ≡ lane_at before i v

-- the B outer sums of each lane stand at their places, and every other place is as it was
pub record PlacedSums (m : ℕ) (W : Value m) (B : ℕ) (p : Places) (l before after : List ℕ) : Type 0 where
  pub long : length after ≡ length before
  pub new : (X : ℕ) → UpTo X l → (v c : ℕ) → v < 16 → c < B
      → Good m (X + 32 * prime m) (lane_at after (p.base + c * p.gap) v)
      (outer (field m) W B (turned_value m W p l v) c)
  pub kept : (i v : ℕ) → v < 16 →
      ((c : ℕ) → c < B → p.base + c * p.gap ≢ i) →
      lane_at after i v ≡ lane_at before i v
