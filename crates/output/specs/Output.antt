-- What an output is made of: numbers in decimal, in big-endian or in little-endian bytes, the blank and the line feed,
-- and things in a row. A text is in ASCII.
use Rattle.std.specs.Prelude.{◌+◌, ◌/◌, ◌%◌, ◌∷◌, ◌++◌}
use Rattle.algebra.specs.Prelude.{cond, ltb, ℕ, zero, suc, List, [], length, drop}
use Rattle.signed.specs.Integers.{ℤ, pos, negsuc}

-- a number in decimal, of at most `count` digits
unfoldable pub digits_of : (count n : ℕ) → List ℕ
digits_of zero n = []
digits_of (suc c) n = cond (ltb n 10) ((48 + n) ∷ []) (digits_of c (n / 10) ++ (48 + n % 10) ∷ [])

-- a number of 64 bits has at most twenty
abbrev pub decimal : ℕ → List ℕ
decimal n = digits_of 20 n

-- a whole number: a minus, and the magnitude of one below zero
abbrev pub minus : ℕ
minus = 45

unfoldable pub signed_decimal : ℤ → List ℕ
signed_decimal (pos n) = decimal n
signed_decimal (negsuc n) = minus ∷ decimal (suc n)

-- n big-endian bytes of a number
unfoldable pub big_endian : (n x : ℕ) → List ℕ
big_endian zero x = []
big_endian (suc n) x = big_endian n (x / 256) ++ x % 256 ∷ []

-- n little-endian bytes of a number
unfoldable pub little_endian : (n x : ℕ) → List ℕ
little_endian zero x = []
little_endian (suc n) x = x % 256 ∷ little_endian n (x / 256)

abbrev pub blank : ℕ
blank = 32

abbrev pub line_feed : ℕ
line_feed = 10

-- n things in a row
unfoldable pub each : (n : ℕ) → (ℕ → List ℕ) → List ℕ
each zero f = []
each (suc n) f = each n f ++ f n

-- ---- A call that fills an output: how many places it wrote, or the refusal's number; and what it leaves there.

pub data Filled : Type 0 where
  written : (count : ℕ) → Filled
  not_written : (number : ℕ) → Filled

pub record FillOutcome : Type 0 where
  pub answer : Filled
  pub output : List ℕ

-- the bytes go to its first places, and those beyond are as they were; a refused call leaves all as it was
abbrev pub filled : (bytes output : List ℕ) → FillOutcome
filled bytes output = record { answer = written (length bytes); output = bytes ++ drop (length bytes) output }

abbrev pub not_filled : (output : List ℕ) (number : ℕ) → FillOutcome
not_filled output n = record { answer = not_written n; output = output }
