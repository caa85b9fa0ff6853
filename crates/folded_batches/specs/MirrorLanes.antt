-- Symmetric and antisymmetric lines side by side (kinds 4 and 5), by the place `first` of the first value that is
-- stored: 0 for a symmetric line, 1 for an antisymmetric one.
use Rattle.std.specs.Prelude.{◌≡◌, ◌⊎◌, List, ℕ, zero, suc, ◌+◌, ◌*◌, ◌-◌, ◌<◌, ◌≤◌, get_or, length}
use Rattle.algebra.specs.ring.Ring.{Ops, sum}
use Rattle.numbers.specs.Value.{prime, Value, Residue, ring, field, i, real, half, part, value_of}
use Rattle.numbers.specs.Bounds.{res, zero_pair}
use Rattle.slices.specs.Pairs.{values_of}
use Rattle.batches.specs.Lanes.{lane_at, line_in, UpTo, Good}
use Rattle.batches.specs.Groups.{lane_pair}
use Rattle.fold_formulas.specs.FoldFormulas.{sigma, folded}
use Rattle.folded_batches.specs.declared.mixing.Mix.{Mix}
use Rattle.folded_batches.specs.Mixing.{HeldMix, Times}
use Rattle.folds.specs.FoldedLines.{mirror_kind, stored_count, whole_line, finished}

-- ---- places of a batch

-- the first n of the 32 numbers of a block
pub record Numbers (f : ℕ → ℕ) (n : ℕ) (y : List ℕ) : Type 0 where
  pub long : length y ≡ 32
  pub is : (u : ℕ) → u < n → get_or y u 0 ≡ f u

-- f is added to the first n numbers of a block
pub record Raised (f : ℕ → ℕ) (n : ℕ) (before after : List ℕ) : Type 0 where
  pub long : length after ≡ length before
  pub new : (u : ℕ) → u < n → get_or after u 0 ≡ get_or before u 0 + f u
  pub kept : (u : ℕ) → n ≤ u → get_or after u 0 ≡ get_or before u 0

-- the block y stands for F v in lane v, by numbers of at most X
pub record BlockOf (m X : ℕ) (F : ℕ → Value m) (y : List ℕ) : Type 0 where
  pub long : length y ≡ 32
  pub each : (v : ℕ) → v < 16 → Good m X (lane_at y 0 v) (F v)

-- the places from b on and below e stand for F v j in lane v
pub record Places (m X : ℕ) (F : (v j : ℕ) → Value m) (b e : ℕ) (d : List ℕ) : Type 0 where
  pub each : (v j : ℕ) → v < 16 → b ≤ j → j < e → Good m X (lane_at d j v) (F v j)

-- ---- the lines

-- The places 0 to A of each lane are those of a whole line X v of 2 A values, which has the rule of its kind.
pub record WholeLines (m A first : ℕ) (line : List ℕ) (X : (v j : ℕ) → Value m) : Type 0 where
  pub near : (v j : ℕ) → v < 16 → j ≤ A → value_of m (lane_at line j v) ≡ X v j
  pub far : (v j : ℕ) → v < 16 → 0 < j → j ≤ A → X v (2 * A - j) ≡ (field m).mul (sigma (field m) first) (X v j)

-- which is that of a packed line
pub record PackedLines (m A first : ℕ) (line : List ℕ) : Type 0 where
  pub lines : ℕ → List ℕ
  pub whole : WholeLines m A first line (λ v. whole_line m A first (lines v))

-- the ends of antisymmetric lines are zero
pub record ClearedEnds (first A : ℕ) (before after : List ℕ) : Type 0 where
  pub long : length after ≡ length before
  pub ends : (v j : ℕ) → v < 16 → first ≡ 1 → (j ≡ 0) ⊎ (j ≡ A) → lane_at after j v ≡ zero_pair

-- The stored pairs of the lines of a volume are the places first, first + 1, .. of the batch; an antisymmetric line
-- stores neither end, and is zero there.
pub record Unpacked (volume : List ℕ) (first A start stride lanes : ℕ) (line : List ℕ) : Type 0 where
  pub long : length line ≡ 32 * (A + 1)
  pub stored : (v j : ℕ) → v < 16 → j < stored_count A first
      → lane_at line (first + j) v ≡ lane_pair volume (start + j * stride) lanes v
  pub ends : (v j : ℕ) → v < 16 → first ≡ 1 → (j ≡ 0) ⊎ (j ≡ A) → lane_at line j v ≡ zero_pair

-- the sums of the odd places of symmetric lines
pub record OddSums (m A first : ℕ) (line odds : List ℕ) : Type 0 where
  pub long : length odds ≡ 32
  pub low : UpTo (1440 * prime m) odds
  pub is : first ≡ 0 → (X : (v j : ℕ) → Value m) → WholeLines m A first line X → (v : ℕ) → v < 16
      → value_of m (lane_at odds 0 v) ≡ sum (field m) A (λ t. X v (2 * t + 1))

-- the coefficients of a place between the ends: 1 + i tau, and sigma (1 - i tau)
pub record MirrorMix (m first tau : ℕ) (k : Mix) : Type 0 where
  pub held : HeldMix m k
  pub near : Times m k.a1 k.a2 k.a3 k.a4
      ((field m).add (field m).one ((field m).mul (i m) (real m (res m tau))))
  pub far : Times m k.b1 k.b2 k.b3 k.b4
      ((field m).mul (sigma (field m) first)
      ((field m).add (field m).one ((field m).neg ((field m).mul (i m) (real m (res m tau))))))

-- ---- after the transform: all is taken twice, and halved by the last factor

abbrev pub twice : (m : ℕ) → Value m → Value m
twice m z = (field m).add z z

-- twice the transform at the places 0 .. A, from the short transform that lane v holds and the sum of its odd places
abbrev pub twice_finished : (m A first : ℕ) (tan fold : List ℕ) (o : ℕ → Value m) (v s : ℕ) → Value m
twice_finished m A first tan fold o v s = twice m (finished m A first tan (line_in m A v fold) (o v) s)

-- in each lane twice the fold of the packed line L v, from the place `first` on
pub record TurnedBatch (m A first : ℕ) (re im tan : List ℕ) (L : ℕ → List ℕ) (line : List ℕ) : Type 0 where
  pub long : length line ≡ 32 * (A + 1)
  pub each : (v p : ℕ) → v < 16 → p < stored_count A first
      → Good m 2147483647 (lane_at line (first + p) v)
      (twice m (folded m 0 A re im tan (mirror_kind first) (values_of m (L v)) p))

-- what the numbers of a lane are multiplied by as they are reduced: 1/2, and in analysis over N as well
abbrev pub mirror_scale : (m direction A : ℕ) → Residue m
mirror_scale m zero A = half m
mirror_scale m (suc direction) A = (ring m).mul (half m) (part m (2 * A))
