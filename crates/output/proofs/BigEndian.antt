-- The big-endian bytes of a number: two, four as two and two, and how many they are.
use mathlib.Core.Path.{◌≡◌, refl}
use mathlib.Core.List.{List, [], ◌∷◌, ◌++◌}
use Prim.Native.Nat.{ℕ, zero, suc, ◌/◌, ◌%◌, ◌<◌}
use native.Mathlib.Omega.{arith}
use lib.ListN.{length, length-append}
use Rattle.output.specs.Output.{big_endian}

pub two_bytes_lem : (x : ℕ) → x < 65536 → x / 256 ∷ x % 256 ∷ [] ≡ big_endian 2 x
unfolding big_endian
two_bytes_lem x h = let e : x / 256 ≡ x / 256 % 256 = omega arith in λ i. e i ∷ x % 256 ∷ []

pub four_bytes_lem : (x : ℕ) → big_endian 2 (x / 65536) ++ big_endian 2 (x % 65536) ≡ big_endian 4 x
unfolding big_endian
four_bytes_lem x =
    let a : x / 65536 / 256 % 256 ≡ x / 256 / 256 / 256 % 256 = omega arith in
    let b : x / 65536 % 256 ≡ x / 256 / 256 % 256 = omega arith in
    let c : x % 65536 / 256 % 256 ≡ x / 256 % 256 = omega arith in
    let d : x % 65536 % 256 ≡ x % 256 = omega arith in
    λ i. a i ∷ b i ∷ c i ∷ d i ∷ []

pub length_bytes : (n x : ℕ) → length (big_endian n x) ≡ n
unfolding big_endian
length_bytes zero x = refl
length_bytes (suc n) x = one_more (big_endian n (x / 256)) (x % 256) n (length_bytes n (x / 256))
  where
    one_more : (l : List ℕ) (y n : ℕ) → length l ≡ n → length (l ++ y ∷ []) ≡ suc n
    one_more l y n e = omega (arith, length-append l (y ∷ []), e)
