-- Where each number of a section that is written stands, in bytes from 0: every byte of the page is named, by its place
-- alone. A row of N2 numbers has ⌈N2 / 5⌉ lines of 70 bytes; 84, 77, 82, 32 and 10 are T, M, R, the blank and the
-- line feed in ASCII.
use Rattle.std.specs.Prelude.{◌≡◌, ◌+◌, ◌*◌, ◌-◌, ◌/◌, ◌%◌, ◌<◌, ◌≤◌}
use Rattle.algebra.specs.Prelude.{ℕ, List, length, get_or, take, drop}
use Rattle.algebra.specs.cells.Cell.{J}
use Rattle.signed.specs.Integers.{ℤ, pos}
use Rattle.output.specs.Numerals.{SignedNumeral}
use Rattle.section.specs.Section.{section_at, total, points, mean, remainder, section_text}
use Rattle.section.specs.SectionLaws.{Accepted}

-- the bytes of a page from one on
abbrev pub part : List ℕ → (from count : ℕ) → List ℕ
part page from count = take count (drop from page)

-- a numeral that reads as k has its last character at byte `end`, and blanks before it: `width` bytes in all
pub record Ended (page : List ℕ) (width end : ℕ) (k : ℤ) : Type 0 where
  pub characters : ℕ
  pub fits : characters ≤ width
  pub numeral : SignedNumeral (part page (end + 1 - characters) characters) k
  pub blanks : (i : ℕ) → characters ≤ i → i < width → get_or page (end - i) 0 ≡ 32

-- the lines of a row, and the first byte behind the rows
abbrev pub lines_of : J → ℕ
lines_of n = (n.1 + 4) / 5

abbrev pub behind_rows : J → ℕ
behind_rows n = 70 * (n.0 * lines_of n)

pub record Placed (group : ℕ) (n : J) (v : List ℤ) (z : ℕ) (page : List ℕ) : Type 0 where
  -- the number at (x, y): 13 bytes, behind the 4 of x
  pub value :
      (x y : ℕ) → x < n.0 → y < n.1 →
      Ended page 13 (70 * (x * lines_of n + y / 5) + 4 + 13 * (y % 5) + 12) (section_at group n v z x y)
  -- x, to byte 3 of every line of its row
  pub index :
      (x i : ℕ) → x < n.0 → i < lines_of n →
      Ended page 4 (70 * (x * lines_of n + i) + 3) (pos x)
  -- where the last line of a row has no number, blanks
  pub unused :
      (x y byte : ℕ) → x < n.0 → n.1 ≤ y → y < 5 * lines_of n → byte < 13 →
      get_or page (70 * (x * lines_of n + y / 5) + 4 + 13 * (y % 5) + byte) 0 ≡ 32
  -- the last byte of every line of the rows, and of the three that follow
  pub feed : (x i : ℕ) → x < n.0 → i < lines_of n → get_or page (70 * (x * lines_of n + i) + 69) 0 ≡ 10
  pub feeds : (i : ℕ) → i < 3 → get_or page (behind_rows n + 70 * i + 69) 0 ≡ 10
  -- T, M and R begin the last three lines, and their numbers end in the 69th place
  pub letter_t : get_or page (behind_rows n) 0 ≡ 84
  pub letter_m : get_or page (behind_rows n + 70) 0 ≡ 77
  pub letter_r : get_or page (behind_rows n + 140) 0 ≡ 82
  pub of_total : Ended page 68 (behind_rows n + 68) (total group n v z)
  pub of_mean : Ended page 68 (behind_rows n + 70 + 68) (mean (total group n v z) (points n))
  pub of_remainder : Ended page 68 (behind_rows n + 140 + 68) (pos (remainder (total group n v z) (points n)))
  pub long : length page ≡ behind_rows n + 210

-- the page of every call that is accepted
pub record SectionPlaces : Type 0 where
  pub each :
      (group : ℕ) (n : J) (v : List ℤ) (z room : ℕ) →
      Accepted group n v z room →
      Placed group n v z (section_text group n v z)
