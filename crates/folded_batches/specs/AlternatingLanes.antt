-- Alternating lines side by side, kind 3: what each pass over a batch leaves, lane by lane.
use Rattle.std.specs.Prelude.{◌≡◌, ◌≢◌, ◌+◌, ◌*◌, ◌-◌, ◌/◌, ◌%◌, ◌<◌, ◌≤◌}
use Rattle.std.specs.Prelude.{Bool, cond, List, ℕ, zero, suc, eqb, leb, get_or, length}
use Rattle.algebra.specs.ring.Ring.{sum}
use Rattle.algebra.specs.lines.Kinds.{unit, Kind.alternating}
use Rattle.algebra.specs.lines.Packings.{unfold_b3}
use Rattle.algebra.specs.lines.Folds.{mate, finish3}
use Rattle.numbers.specs.declared.Pair.{Pair}
use Rattle.numbers.specs.Value.{prime, Value, Residue, ring, field, real, half, part, value_of, pair_of, on_values}
use Rattle.numbers.specs.Bounds.{res, Small}
use Rattle.fold_formulas.specs.FoldFormulas.{stride, tangent, folded}
use Rattle.cell.specs.Volume.{times_i, over_i}
use Rattle.batches.specs.Reduction.{Holds}
use Rattle.batches.specs.Lanes.{lane_at, UpTo, Good}
use Rattle.folded_batches.specs.declared.mixing.Mix.{Mix}
use Rattle.folded_batches.specs.Mixing.{HeldMix, MixedAlone}

-- lane v of a block of its own is f v, for the first n lanes
pub record BlockOf (f : ℕ → Pair) (n : ℕ) (y : List ℕ) : Type 0 where
  pub long : length y ≡ 32
  pub each : (v : ℕ) → v < n → lane_at y 0 v ≡ f v

-- lane v of place j of a batch is as P says, for the places below n
pub record Filled (P : (j v : ℕ) → Pair → Type 0) (n : ℕ) (d : List ℕ) : Type 0 where
  pub each : (j v : ℕ) → j < n → v < 16 → P j v (lane_at d j v)

-- lane v holds the values f 0, f 1, .. at the places below n, reduced whole
pub record LaneIs (m n : ℕ) (d : List ℕ) (v : ℕ) (f : ℕ → Value m) : Type 0 where
  pub each : (j : ℕ) → j < n → lane_at d j v ≡ pair_of (f j)

-- pair 0 is taken apart: the places 0 .. A of each lane are X(0) .. X(A) of the packed line that it held
pub record Unpacked (A : ℕ) (before after : List ℕ) : Type 0 where
  pub long : length after ≡ length before
  pub is : (m v : ℕ) → v < 16 → (q : ℕ → Value m) → LaneIs m A before v q
      → LaneIs m (A + 1) after v (on_values m unfold_b3 A q)

-- the middles X(A) of the first n lanes, from the second number of their pairs 0
pub record MiddleBlock (A : ℕ) (line : List ℕ) (n : ℕ) (y : List ℕ) : Type 0 where
  pub long : length y ≡ 32
  pub each : (v : ℕ) → v < n → (m : ℕ) → (lane_at line 0 v).im < prime m
      → lane_at y 0 v ≡ pair_of ((field m).mul (on_values m unit A A) (real m (res m (lane_at line 0 v).im)))

-- ---- before the transform: o stands for 0, and no number is above it

-- x + i y
abbrev pub low_pair : (o : ℕ) (x y : Pair) → Pair
low_pair o x y = record { re = x.re + (o - y.im); im = x.im + y.re }

-- its conjugate
abbrev pub high_pair : (o : ℕ) (x y : Pair) → Pair
high_pair o x y = record { re = x.re + (o - y.im); im = (o - x.im) + (o - y.re) }

-- the place of X(2t + 1) or of its mate X(2A - 2t - 1), whichever is at most A
unfoldable pub odd_place : (A t : ℕ) → ℕ
odd_place A t = cond (leb (2 * t + 1) A) (2 * t + 1) (2 * (A - t) - 1)

-- X(2t) + i X(2t + 1), from the places 0 .. A
unfoldable pub short_pair : (o A : ℕ) (line : List ℕ) (t v : ℕ) → Pair
short_pair o A line t v =
    cond (leb (2 * t + 1) A)
    (low_pair o (lane_at line (2 * t) v) (lane_at line (2 * t + 1) v))
    (high_pair o (lane_at line (2 * (A - t)) v) (lane_at line (2 * (A - t) - 1) v))

-- number v of y is the sum of the imaginary parts of lane v at the first n odd places
pub record OddSums (m A : ℕ) (line : List ℕ) (n : ℕ) (y : List ℕ) : Type 0 where
  pub long : length y ≡ 32
  pub low : (v : ℕ) → v < 16 → get_or y v 0 ≤ n * prime m
  pub is : (v : ℕ) → v < 16 → real m (res m (get_or y v 0))
      ≡ sum (field m) n (λ t. real m (res m (lane_at line (odd_place A t) v).im))

-- ---- after it

-- X^(0) is taken apart: its real part is u + b, and its imaginary part b
unfoldable pub first_pair : (odd fold : List ℕ) (v : ℕ) → Pair
first_pair odd fold v = record { re = (lane_at fold 0 v).re + get_or odd v 0; im = get_or odd v 0 }

pub record FirstPut (odd before after : List ℕ) : Type 0 where
  pub long : length after ≡ length before
  pub new : (v : ℕ) → v < 16 → lane_at after 0 v ≡ first_pair odd before v
  pub kept : (j v : ℕ) → v < 16 → j ≢ 0 → lane_at after j v ≡ lane_at before j v

-- The cotangent and the cosecant of the angle of e(s/N), from half tangents. At s = 0 there is none, and 0 and 1 stand
-- for them.
unfoldable pub cotangent : (m A : ℕ) (tan : List ℕ) → ℕ → Residue m
cotangent m A tan zero = (ring m).zer
cotangent m A tan (suc s) =
    (ring m).mul (half m)
    ((ring m).add (res m (get_or tan (stride A * (A - suc s)) 0))
    ((ring m).neg (res m (get_or tan (stride A * suc s) 0))))

unfoldable pub cosecant : (m A : ℕ) (tan : List ℕ) → ℕ → Residue m
cosecant m A tan zero = (ring m).one
cosecant m A tan (suc s) =
    (ring m).mul (half m)
    ((ring m).add (res m (get_or tan (stride A * suc s) 0)) (res m (get_or tan (stride A * (A - suc s)) 0)))

-- both times 2^32
pub record Angle (m A : ℕ) (tan : List ℕ) (s : ℕ) (w : Pair) : Type 0 where
  pub low : Small (prime m) w
  pub cot : Holds m w.re (cotangent m A tan s)
  pub csc : Holds m w.im (cosecant m A tan s)

-- the parts u and v of a value as u + v cot and v csc; and as u and -(u cot + v csc)
abbrev pub apart_by : (m A : ℕ) (tan : List ℕ) (s : ℕ) → Value m → Value m
apart_by m A tan s z =
    ((ring m).add z.0 ((ring m).mul z.1 (cotangent m A tan s)), (ring m).mul z.1 (cosecant m A tan s))

abbrev pub together_by : (m A : ℕ) (tan : List ℕ) (s : ℕ) → Value m → Value m
together_by m A tan s z = (
  z.0,
  (ring m).neg
      ((ring m).add ((ring m).mul z.0 (cotangent m A tan s)) ((ring m).mul z.1 (cosecant m A tan s))),
)

-- by the direction, over i after the first or times i before the second if b says so
abbrev pub angled : (m direction : ℕ) (b : Bool) (A : ℕ) (tan : List ℕ) (s : ℕ) → Value m → Value m
angled m zero b A tan s z = over_i m b (apart_by m A tan s z)
angled m (suc direction) b A tan s z = together_by m A tan s (times_i m b z)

-- the coefficients of one place alone
abbrev pub of_one : (a1 a2 a3 a4 : ℕ) → Mix
of_one a1 a2 a3 a4 = record { a1 = a1; a2 = a2; a3 = a3; a4 = a4; b1 = 0; b2 = 0; b3 = 0; b4 = 0 }

-- the coefficients that make it
pub record Coefficients (m direction : ℕ) (b : Bool) (A : ℕ) (tan : List ℕ) (s : ℕ) (k : Mix) : Type 0 where
  pub held : HeldMix m k
  pub is : (l : List ℕ) (y : List ℕ) → MixedAlone m k l s 16 y → (v : ℕ) → v < 16
      → Good m (2 * prime m) (lane_at y 0 v) (angled m direction b A tan s (value_of m (lane_at l s v)))

-- lane v of place s of `before`, so turned
abbrev pub Angled : (m direction : ℕ) (b : Bool) (A : ℕ) (tan before : List ℕ) → (s v : ℕ) → Pair → Type 0
Angled m direction b A tan before s v x =
    Good m (2 * prime m) x (angled m direction b A tan s (value_of m (lane_at before s v)))

-- for each line y that a lane holds, the lane becomes what the fold makes of it
pub record FinishedLanes (m : ℕ) (b : Bool) (A : ℕ) (tan odd before after : List ℕ) : Type 0 where
  pub long : length after ≡ length before
  pub is : (v s : ℕ) → v < 16 → s < A → (y : ℕ → Value m) → y s ≡ value_of m (lane_at before s v)
      → Good m (2 * prime m) (lane_at after s v)
      (over_i m b (on_values m finish3 A (tangent m A tan) y (real m (res m (get_or odd v 0))) s))

-- ---- the way back: o stands for 0, and no number is above it

-- twice the difference of the parts at place 0
unfoldable pub twice_pair : (o : ℕ) (fold : List ℕ) (v : ℕ) → Pair
twice_pair o fold v =
    record {
      re = (lane_at fold 0 v).re + (o - (lane_at fold 0 v).im) + ((lane_at fold 0 v).re + (o - (lane_at fold 0 v).im));
      im = 0;
    }

-- it is kept, and the real part left
pub record FirstTaken (m : ℕ) (before after twice : List ℕ) : Type 0 where
  pub long : length after ≡ length before
  pub kept_twice : BlockOf (twice_pair (2 * prime m) before) 16 twice
  pub new : (v : ℕ) → v < 16 → lane_at after 0 v ≡ record { re = (lane_at before 0 v).re; im = 0 }
  pub kept : (j v : ℕ) → v < 16 → j ≢ 0 → lane_at after j v ≡ lane_at before j v

-- x + conj y, and i (t - (x + conj y))
abbrev pub even_pair : (o : ℕ) (x y : Pair) → Pair
even_pair o x y = record { re = x.re + y.re; im = x.im + (o - y.im) }

abbrev pub odd_pair : (o t : ℕ) (x y : Pair) → Pair
odd_pair o t x y = record { re = x.im + (o - y.im); im = t + ((o - x.re) + (o - y.re)) }

-- X(j), times N
unfoldable pub whole_pair : (o A : ℕ) (twice fold : List ℕ) (j v : ℕ) → Pair
whole_pair o A twice fold j v =
    cond (eqb (j % 2) 0)
    (even_pair o (lane_at fold (j / 2) v) (lane_at fold (mate A ((j + 1) / 2)) v))
    (odd_pair o (get_or twice v 0) (lane_at fold (j / 2) v) (lane_at fold (mate A ((j + 1) / 2)) v))

-- where the one part of X(A) begins
unfoldable pub end_place : ℕ → ℕ
end_place A = cond (eqb (A % 2) 0) (32 * A) (32 * A + 16)

-- it is the second number of pair 0
pub record EndPacked (A : ℕ) (before after : List ℕ) : Type 0 where
  pub long : length after ≡ length before
  pub new : (v : ℕ) → v < 16
      → lane_at after 0 v ≡ record { re = (lane_at before 0 v).re; im = get_or before (end_place A + v) 0 }
  pub kept : (j v : ℕ) → v < 16 → j ≢ 0 → lane_at after j v ≡ lane_at before j v

-- ---- a whole line in each lane

-- the places below A hold residues
pub record Packed (m A : ℕ) (line : List ℕ) : Type 0 where
  pub each : (v j : ℕ) → v < 16 → j < A → Small (prime m) (lane_at line j v)

-- for each packed line that a lane held, the lane becomes its synthesis, over i if b says so
pub record SynthesisLanes (m : ℕ) (b : Bool) (A : ℕ) (re im tan : List ℕ) (before after : List ℕ) : Type 0 where
  pub long : length after ≡ 32 * A
  pub low : UpTo (2 * prime m) after
  pub is : (v : ℕ) → v < 16 → (q : ℕ → Value m) → LaneIs m A before v q → (s : ℕ) → s < A
      → Good m (2 * prime m) (lane_at after s v) (over_i m b (folded m 0 A re im tan alternating q s))

-- for each packed line that a lane held, stored times i if b says so, the lane becomes N times its analysis
pub record AnalysisLanes (m : ℕ) (b : Bool) (A : ℕ) (re im tan : List ℕ) (before after : List ℕ) : Type 0 where
  pub long : length after ≡ 32 * (A + 1)
  pub low : UpTo 2147483647 after
  pub is : (v : ℕ) → v < 16 → (q : ℕ → Value m) → LaneIs m A before v q → (t : ℕ) → t < A
      → (field m).mul (real m (part m (2 * A))) (value_of m (lane_at after t v))
      ≡ folded m 1 A re im tan alternating (λ s. times_i m b (q s)) t
