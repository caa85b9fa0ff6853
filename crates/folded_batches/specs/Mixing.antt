-- Two values of each lane with coefficients that are held times 2^32.
use Rattle.std.specs.Prelude.{◌≡◌, List, ℕ, ◌+◌, ◌*◌, ◌<◌, ◌≤◌, length}
use Rattle.algebra.specs.ring.Ring.{Ops}
use Rattle.numbers.specs.Value.{prime, Value, Residue, ring}
use Rattle.batches.specs.Reduction.{Divided, Holds}
use Rattle.batches.specs.Lanes.{lane_at}
use Rattle.folded_batches.specs.declared.mixing.Mix.{Mix}

-- no coefficient is larger than the prime
pub record HeldMix (m : ℕ) (k : Mix) : Type 0 where
  pub a1 : k.a1 ≤ prime m
  pub a2 : k.a2 ≤ prime m
  pub a3 : k.a3 ≤ prime m
  pub a4 : k.a4 ≤ prime m
  pub b1 : k.b1 ≤ prime m
  pub b2 : k.b2 ≤ prime m
  pub b3 : k.b3 ≤ prime m
  pub b4 : k.b4 ≤ prime m

-- the first n lanes of the block y are the lanes of the places i and j of l with the coefficients k, over 2^32
pub record Mixed (m : ℕ) (k : Mix) (l : List ℕ) (i j n : ℕ) (y : List ℕ) : Type 0 where
  pub long : length y ≡ 32
  pub re : (v : ℕ) → v < n
      → Divided m (k.a1 * (lane_at l i v).re + k.a2 * (lane_at l i v).im + k.b1 * (lane_at l j v).re
      + k.b2 * (lane_at l j v).im) (lane_at y 0 v).re
  pub im : (v : ℕ) → v < n
      → Divided m (k.a3 * (lane_at l i v).re + k.a4 * (lane_at l i v).im + k.b3 * (lane_at l j v).re
      + k.b4 * (lane_at l j v).im) (lane_at y 0 v).im

-- those of the place i alone
pub record MixedAlone (m : ℕ) (k : Mix) (l : List ℕ) (i n : ℕ) (y : List ℕ) : Type 0 where
  pub long : length y ≡ 32
  pub re : (v : ℕ) → v < n
      → Divided m (k.a1 * (lane_at l i v).re + k.a2 * (lane_at l i v).im) (lane_at y 0 v).re
  pub im : (v : ℕ) → v < n
      → Divided m (k.a3 * (lane_at l i v).re + k.a4 * (lane_at l i v).im) (lane_at y 0 v).im

-- ---- what four coefficients stand for: they take the parts x and y of a value to c₁ x + c₂ y and c₃ x + c₄ y

-- any real combination of the parts
pub record OnParts (m c1 c2 c3 c4 : ℕ) (r₁ r₂ r₃ r₄ : Residue m) : Type 0 where
  pub first : Holds m c1 r₁
  pub second : Holds m c2 r₂
  pub third : Holds m c3 r₃
  pub fourth : Holds m c4 r₄

-- z times the value
abbrev pub Times : (m c1 c2 c3 c4 : ℕ) → Value m → Type 0
Times m c1 c2 c3 c4 z = OnParts m c1 c2 c3 c4 z.0 ((ring m).neg z.1) z.1 z.0

-- z times the conjugate of the value
abbrev pub TimesConjugate : (m c1 c2 c3 c4 : ℕ) → Value m → Type 0
TimesConjugate m c1 c2 c3 c4 z = OnParts m c1 c2 c3 c4 z.0 z.1 z.1 ((ring m).neg z.0)
