-- Sixteen lines side by side. Place j of a batch is a block of 32 numbers: 16 real parts, then 16 imaginary ones.
-- Lane v, the line number v of the batch, has the numbers v and 16 + v. They are not reduced whole: each stands for
-- its residue.
use Rattle.std.specs.Prelude.{◌≡◌, List, ℕ, zero, suc, ◌+◌, ◌*◌, ◌-◌, ◌<◌, ◌≤◌, get_or, set, length}
use Rattle.algebra.specs.ring.Ring.{pow}
use Rattle.numbers.specs.declared.Pair.{Pair}
use Rattle.numbers.specs.Value.{prime, Value, field, value_of}
use Rattle.slices.specs.Pairs.{list_of}
use Rattle.butterflies.specs.Equation3.{outer}
use Rattle.plain.specs.Plain.{inner_sums, stepped, StepParts}
use Rattle.butterflies.specs.declared.twiddle.Places.{Places}
use Rattle.batches.specs.declared.lane.Three.{Three}
use Rattle.batches.specs.declared.lane.Four.{Four}
use Rattle.batches.specs.declared.lane.Five.{Five}

-- the pair of lane v at place j
unfoldable pub lane_at : List ℕ → (j v : ℕ) → Pair
lane_at l j v = record { re = get_or l (32 * j + v) 0; im = get_or l (32 * j + v + 16) 0 }

-- l with x there
unfoldable pub put_lane : List ℕ → (j v : ℕ) → Pair → List ℕ
put_lane l j v x = set (set l (32 * j + v) x.re) (32 * j + v + 16) x.im

-- l with f 0, f 1, .. as lane v of the places below n
unfoldable pub spread_lane : (f : ℕ → Pair) (n v : ℕ) → List ℕ → List ℕ
spread_lane f zero v l = l
spread_lane f (suc n) v l = put_lane (spread_lane f n v l) n v (f n)

-- every number is at most X
pub record UpTo (X : ℕ) (l : List ℕ) : Type 0 where
  pub each : (k : ℕ) → get_or l k 0 ≤ X

-- a pair stands for z, and neither number is above X
pub record Good (m X : ℕ) (x : Pair) (z : Value m) : Type 0 where
  pub re : x.re ≤ X
  pub im : x.im ≤ X
  pub is : value_of m x ≡ z

-- THE line of lane v: n pairs of residues. The laws of one line speak of it.
abbrev pub line_in : (m n v : ℕ) → List ℕ → List ℕ
line_in m n v l = list_of n (λ j. value_of m (lane_at l j v))

-- ---- one butterfly of sixteen lanes

-- the B blocks lie inside l, and their exponents in the tables
pub record Apart (B : ℕ) (p : Places) (l : List ℕ) : Type 0 where
  pub inside : (b : ℕ) → b < B → 32 * (b * p.stride + p.first) + 32 ≤ length l
  pub exponents : (b : ℕ) → b < B → b * p.k < 2880

-- in the first step every factor is 1, and the numbers are small
pub record FirstStep (m : ℕ) (p : Places) (l : List ℕ) : Type 0 where
  pub none : p.k ≡ 0
  pub low : UpTo (8 * prime m) l

-- the value for b in lane v, times its factor
abbrev pub turned_value : (m : ℕ) (W : Value m) (p : Places) (l : List ℕ) (v b : ℕ) → Value m
turned_value m W p l v b = (field m).mul (pow (field m) W (b * p.k)) (value_of m (lane_at l (b * p.stride + p.first) v))

-- in each of the first n lanes the blocks of y are the outer sums, and grow by no more than 32 p
pub record Summed (m : ℕ) (W : Value m) (B : ℕ) (p : Places) (l : List ℕ) (n : ℕ) (y : List ℕ) : Type 0 where
  pub long : length y ≡ 160
  pub lanes : (X : ℕ) → UpTo X l → (v c : ℕ) → v < n → c < B
      → Good m (X + 32 * prime m) (lane_at y c v) (outer (field m) W B (turned_value m W p l v) c)

-- the sums of both parts as pairs
abbrev pub two_pairs : (o a b c d : ℕ) → ℕ → Pair
two_pairs o a b c d zero = record { re = a + c; im = b + d }
two_pairs o a b c d (suc n) = record { re = a + (o - c); im = b + (o - d) }

abbrev pub three_pairs : (p q : Three) → ℕ → Pair
three_pairs p q zero = record { re = p.x0; im = q.x0 }
three_pairs p q (suc zero) = record { re = p.x1; im = q.x1 }
three_pairs p q (suc (suc n)) = record { re = p.x2; im = q.x2 }

abbrev pub four_pairs : (p q : Four) → ℕ → Pair
four_pairs p q zero = record { re = p.x0; im = q.x0 }
four_pairs p q (suc zero) = record { re = p.x1; im = q.x1 }
four_pairs p q (suc (suc zero)) = record { re = p.x2; im = q.x2 }
four_pairs p q (suc (suc (suc n))) = record { re = p.x3; im = q.x3 }

abbrev pub five_pairs : (p q : Five) → ℕ → Pair
five_pairs p q zero = record { re = p.x0; im = q.x0 }
five_pairs p q (suc zero) = record { re = p.x1; im = q.x1 }
five_pairs p q (suc (suc zero)) = record { re = p.x2; im = q.x2 }
five_pairs p q (suc (suc (suc zero))) = record { re = p.x3; im = q.x3 }
five_pairs p q (suc (suc (suc (suc n)))) = record { re = p.x4; im = q.x4 }

-- ---- one step of sixteen lanes, and all steps

-- what a step leaves: in each lane the values of the step of one line
pub record SteppedLanes (m : ℕ) (W : Value m) (A B M : ℕ) (from to : List ℕ) : Type 0 where
  pub each : (v j : ℕ) → v < 16 → j < A * B * M
      → value_of m (lane_at to j v) ≡ stepped (field m) W A B M (λ i. value_of m (lane_at from i v)) j

-- the three parts of equation (3) in each lane, for every line X that the lane's line came from
pub record LaneParts (m : ℕ) (W : Value m) (A B M : ℕ) (from to : List ℕ) : Type 0 where
  pub each : (v : ℕ) → v < 16 → (X : ℕ → Value m)
      → line_in m (A * B * M) v from ≡ list_of (A * B * M) (inner_sums (field m) W A (M * B) X)
      → StepParts m W A B M X (line_in m (A * B * M) v from) (line_in m (A * B * M) v to)
