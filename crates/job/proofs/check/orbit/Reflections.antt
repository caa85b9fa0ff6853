-- The value of a structure factor is that of the pair of its numbers.
use mathlib.Core.Path.{◌≡◌, refl}
use Prim.Native.Nat.{ℕ}
use Rattle.numbers.specs.Value.{value, value_of}

pub pair_of_numbers : (m x y : ℕ) → value_of m (record { re = x; im = y }) ≡ value m x y
unfolding value_of
pair_of_numbers m x y = refl
