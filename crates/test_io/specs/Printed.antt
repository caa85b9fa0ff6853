-- What the test programs print: lines of numbers in decimal, with a blank between each two. In ASCII 32 is the blank
-- and 10 the line feed.
use Rattle.std.specs.Prelude.{List, [], ◌∷◌, ◌++◌, ℕ, zero, suc, ◌%◌, ◌^◌, ℤ, Result, Ok, Err}
use Rattle.std.specs.Fmt.{decimal, signed_decimal}
use Rattle.std.specs.List.{join_by}
use Rattle.refusals.specs.Refusals.{number_of}
use Rattle.refusals.specs.declared.Refusal.{Refusal}
use Rattle.test_io.specs.Checksum.{checksum_of}

-- the text of number j of a line: a blank stands before all but the first
abbrev pub field_of : ℕ → List ℕ → List ℕ
field_of zero text = text
field_of (suc j) text = 32 ∷ text

abbrev pub line_of : List ℕ → List ℕ
line_of v = join_by decimal (32 ∷ []) v ++ 10 ∷ []

abbrev pub signed_line_of : List ℤ → List ℕ
signed_line_of v = join_by signed_decimal (32 ∷ []) v ++ 10 ∷ []

-- two numbers, and a line of numbers behind them
abbrev pub longer_line_of : (number written : ℕ) → List ℕ → List ℕ
longer_line_of number written left = decimal number ++ 32 ∷ (decimal written ++ 32 ∷ line_of left)

-- the refusal's number or 0 and how many places a call wrote, by the lowest 32 bits of it; then numbers that tell what
-- it left
abbrev pub answer_line_of : Result ℕ Refusal → List ℕ → List ℕ
answer_line_of (Ok n) left = longer_line_of 0 (n % 2 ^ 32) left
answer_line_of (Err r) left = longer_line_of (number_of r) 0 left

-- how many numbers a script of calls wrote, by their lowest 32 bits, the job's checksum and those of two buffers; then
-- every answer
abbrev pub replay_lines_of : (written job : ℕ) → (volume scratch : List ℕ) → List ℤ → List ℕ
replay_lines_of written job volume scratch answers =
    line_of (written % 2 ^ 32 ∷ job ∷ checksum_of volume ∷ checksum_of scratch ∷ []) ++ signed_line_of answers
