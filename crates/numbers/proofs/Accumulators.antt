-- An accumulator: it starts at zero, has room for millions of products, and is reduced to the pair of its value.
use mathlib.Core.Path.{◌≡◌, refl, ap}
use Prim.Native.Nat.{ℕ, ◌≤◌}
use native.Mathlib.Omega.{arith}
use Rattle.algebra.specs.ring.Ring.{residues, gauss}
use Rattle.numbers.specs.declared.Accumulator.{Accumulator}
use Rattle.numbers.specs.Value.{Value, field, value, pair_of}
use Rattle.numbers.specs.Unreduced.{Accumulated}

pub accumulated_pair : {m n : ℕ} {a : Accumulator} {z : Value m} → Accumulated m n a z → pair_of (value m a.re a.im) ≡ pair_of z
accumulated_pair h = ap pair_of h.value_is

pub accumulated_start : (m : ℕ) → Accumulated m 0 (record { re = 0; im = 0 }) (field m).zer
unfolding gauss residues
accumulated_start m = record { re = omega arith; im = omega arith; value_is = refl }

-- five million products leave room for one more
pub accumulated_room : {m n : ℕ} {a : Accumulator} {z : Value m} → n ≤ 5000000 → Accumulated m n a z → (a.re ≤ 1000000000000000000) × (a.im ≤ 1000000000000000000)
accumulated_room l h = omega arith
