-- Whole numbers as 32-bit floats. The floats are the logic's own, which are those of IEEE 754.
use Rattle.std.specs.Prelude.{◌≡◌, ◌+◌, ◌*◌, ◌≤◌, ◌∷◌}
use Rattle.algebra.specs.Prelude.{ℕ, zero, suc, List, []}
use Rattle.signed.specs.Integers.{ℤ, pos, nat_abs}
use Rattle.std.specs.Int.Signed.{lt_z}
use Rattle.output.specs.Output.{little_endian}
pub use Rattle.std.specs.Prelude.{Float}
pub use Rattle.std.specs.Float.{binary32}
pub use Rattle.std.specs.Float.Ieee.{of_int, to_bits, of_bits, to_signed, lt, eq, is_nan}
use Rattle.std.specs.Float.Ieee.Exact.{HasValue}

-- the float of a whole number
abbrev pub float_of : ℤ → Float
float_of n = of_int binary32 n

-- the 32 bits of a float, as a number
abbrev pub bits : Float → ℕ
bits x = to_bits binary32 x

-- the largest magnitude of a density: 2^24 - 1
abbrev pub exact_limit : ℕ
exact_limit = 16777215

-- ---- nothing is lost

-- the number that little-endian bytes stand for
unfoldable pub of_little_endian : List ℕ → ℕ
of_little_endian [] = 0
of_little_endian (b ∷ l) = b + 256 * of_little_endian l

-- the float of n has its sign and its size over 1, it is n again as a whole number of 64 bits, and its four bytes read
-- back are the float
pub record ExactFloat (n : ℤ) : Type 0 where
  pub value : HasValue (float_of n) (lt_z n (pos 0)) (nat_abs n) 1
  pub back : to_signed 63 (float_of n) ≡ n
  pub bytes : of_bits binary32 (of_little_endian (little_endian 4 (bits (float_of n)))) ≡ float_of n

-- this holds of every density, and of one less than the least too
abbrev pub FloatsExact : Type 0
FloatsExact = (n : ℤ) → nat_abs n ≤ suc exact_limit → ExactFloat n
