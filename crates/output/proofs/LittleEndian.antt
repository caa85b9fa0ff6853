-- The four little-endian bytes of a number.
use mathlib.Core.Path.{◌≡◌, refl}
use mathlib.Core.List.{[], ◌∷◌}
use Prim.Native.Nat.{ℕ, zero, suc, ◌/◌, ◌%◌, ◌<◌}
use native.Mathlib.Omega.{arith}
use lib.ListN.{length}
use Rattle.output.specs.Output.{little_endian}

pub little_four : (x : ℕ) → x < 4294967296 → x % 256 ∷ x / 256 % 256 ∷ x / 65536 % 256 ∷ x / 16777216 ∷ [] ≡ little_endian 4 x
unfolding little_endian
little_four x l =
    let c : x / 65536 % 256 ≡ x / 256 / 256 % 256 = omega arith in
    let d : x / 16777216 ≡ x / 256 / 256 / 256 % 256 = omega arith in
    λ i. x % 256 ∷ x / 256 % 256 ∷ c i ∷ d i ∷ []

pub length_little : (n x : ℕ) → length (little_endian n x) ≡ n
unfolding little_endian
length_little zero x = refl
length_little (suc n) x = rw (length_little n (x / 256))
