-- Lines of a volume into the lanes of a batch and back, and a group of up to sixteen neighbouring lines.
use Rattle.std.specs.Prelude.{◌≡◌, ◌≢◌, cond, List, ℕ, ◌+◌, ◌*◌, ◌/◌, ◌<◌, ◌≤◌, ltb, get_or, length}
use Rattle.algebra.specs.ring.Ring.{pow, dft}
use Rattle.numbers.specs.declared.Pair.{Pair}
use Rattle.numbers.specs.Value.{prime, Value, Residue, ring, field, real, value_of, pair_of}
use Rattle.numbers.specs.Bounds.{res, zero_pair, Small}
use Rattle.slices.specs.Pairs.{at, values_of, list_of}
use Rattle.slices.specs.Sweep.{Layout, sweep, on_lists}
use Rattle.batches.specs.Reduction.{Holds}
use Rattle.batches.specs.Lanes.{lane_at}

-- what lane v has where `lanes` lanes are used: the pair first + v of the volume, or zero
unfoldable pub lane_pair : (volume : List ℕ) (first lanes v : ℕ) → Pair
lane_pair volume first lanes v = cond (ltb v lanes) (at volume (first + v)) zero_pair

-- the first n lanes of place j are f 0, f 1, .., and every other lane of any place is as it was
pub record PutLanes (f : ℕ → Pair) (j n : ℕ) (before after : List ℕ) : Type 0 where
  pub long : length after ≡ length before
  pub new : (v : ℕ) → v < n → lane_at after j v ≡ f v
  pub kept : (i v : ℕ) → v < 16 → (i ≡ j → n ≤ v) → lane_at after i v ≡ lane_at before i v

-- lane v of the batch is line v of the volume, and the lanes that are not used are zero
pub record Gathered (volume : List ℕ) (start stride lanes n : ℕ) (d : List ℕ) : Type 0 where
  pub each : (j v : ℕ) → j < n → v < 16 → lane_at d j v ≡ lane_pair volume (start + j * stride) lanes v

-- the first n numbers of y are those of place j, times what c stands for, over 2^32
pub record ReducedPlace (m c : ℕ) (s : List ℕ) (j n : ℕ) (y : List ℕ) : Type 0 where
  pub long : length y ≡ 32
  pub is : (c₀ : Residue m) → Holds m c c₀ → (u : ℕ) → u < n
      → get_or y u 0 ≡ ((ring m).mul c₀ (res m (get_or s (32 * j + u) 0))).val

-- line v of the volume is lane v of the batch, times what c stands for over 2^32, and every other pair is as it was
pub record Scattered (m c : ℕ) (s : List ℕ) (start stride lanes n : ℕ) (before after : List ℕ) : Type 0 where
  pub long : length after ≡ length before
  pub new : (c₀ : Residue m) → Holds m c c₀ → (j v : ℕ) → j < n → v < lanes
      → at after (start + j * stride + v) ≡ pair_of ((field m).mul (real m c₀) (value_of m (lane_at s j v)))
  pub kept : (k : ℕ) →
      ((j v : ℕ) → j < n → v < lanes → start + j * stride + v ≢ k) →
      at after k ≡ at before k

-- ---- a group of neighbouring lines

-- line v has the pairs start + v, start + v + stride, ..
abbrev pub neighbours : (start stride n lanes : ℕ) → Layout
neighbours start stride n lanes = record { count = lanes; size = λ v. n; place = λ v j. start + v + j * stride }

-- their numbers are residues
pub record LinesBelow (m : ℕ) (start stride n lanes : ℕ) (volume : List ℕ) : Type 0 where
  pub each : (v j : ℕ) → v < lanes → j < n → Small (prime m) (at volume (start + v + j * stride))

-- the transform of a line of n pairs, times z: with 1 the transform, with 1/n and the conjugate root the inverse
abbrev pub scaled_transform : (m : ℕ) (W : Value m) (z : Residue m) (n : ℕ) → List ℕ → List ℕ
scaled_transform m W z n l =
    list_of n (λ t. (field m).mul (real m z) (dft (field m) n (pow (field m) W (2880 / n)) (values_of m l) t))

-- the lines one after the other
abbrev pub turned_lines : (m : ℕ) (W : Value m) (z : Residue m) (start stride n lanes : ℕ) → List ℕ → List ℕ
turned_lines m W z start stride n lanes d =
    sweep (neighbours start stride n lanes)
    (on_lists (neighbours start stride n lanes) (λ v. scaled_transform m W z n)) lanes d
