-- The section text, which is the paper's section page: plane z of a combined map as lines of 69 characters and a line
-- feed. Bytes are those of ASCII.
use Rattle.std.specs.Prelude.{◌+◌, ◌*◌, ◌-◌, ◌/◌, ◌∷◌, ◌++◌}
use Rattle.algebra.specs.Prelude.{Bool, not, cond, leb, ltb, ℕ}
use Rattle.algebra.specs.Prelude.{List, [], length, replicate}
use Rattle.algebra.specs.ring.Ring.{sum}
use Rattle.algebra.specs.cells.Cell.{J, below}
use Rattle.signed.specs.Integers.{ℤ, pos, nat_abs, floor_quotient, floor_remainder}
use Rattle.signed.specs.IntegerRing.{integers}
use Rattle.output.specs.Output.{decimal, signed_decimal, blank, line_feed, each, FillOutcome, filled, not_filled}
use Rattle.refusals.specs.Refusals.{Test, ◌⇒◌, first, accepted}
use Rattle.cell.specs.Volume.{group_of}
use Rattle.header.specs.Header.{half_lengths}
use Rattle.combined.specs.CombinedMap.{limit, count_of, combined_map_tests}

-- ---- the plane

-- the number at (x, y, z) of the cell: on a plane that is not stored, that of the point's image under the group's first
-- operation but the identity
abbrev pub section_at : (group : ℕ) (lengths : J) (map : List ℤ) (z x y : ℕ) → ℤ
section_at group n v z x y = count_of (group_of group) (half_lengths n) v (x, y, z)

abbrev pub row_total : (group : ℕ) (lengths : J) (map : List ℤ) (z x : ℕ) → ℤ
row_total group n v z x = sum integers n.1 (λ y. section_at group n v z x y)

abbrev pub total : (group : ℕ) (lengths : J) (map : List ℤ) (z : ℕ) → ℤ
total group n v z = sum integers n.0 (λ x. row_total group n v z x)

-- its points, and what they have on average: the total divided by their number, rounded down
abbrev pub points : (lengths : J) → ℕ
points n = n.0 * n.1

abbrev pub mean : ℤ → (points : ℕ) → ℤ
mean t n = floor_quotient t n

abbrev pub remainder : ℤ → (points : ℕ) → ℕ
remainder t n = floor_remainder t n

-- ---- the lines

-- right-aligned: blanks before a text, up to the width
abbrev pub aligned : (width : ℕ) → List ℕ → List ℕ
aligned width text = replicate (width - length text) blank ++ text

-- the 13 places of the value at y; blanks where the row has no more
abbrev pub value_field : (group : ℕ) (lengths : J) (map : List ℤ) (z x y : ℕ) → List ℕ
value_field group n v z x y =
    cond (ltb y n.1) (aligned 13 (signed_decimal (section_at group n v z x y))) (replicate 13 blank)

-- line i of row x: x in 4 places, and the values at y = 5 i, .., 5 i + 4
unfoldable pub section_line : (group : ℕ) (lengths : J) (map : List ℤ) (z x i : ℕ) → List ℕ
section_line group n v z x i =
    aligned 4 (decimal x) ++ (each 5 (λ t. value_field group n v z x (5 * i + t)) ++ line_feed ∷ [])

-- how many lines a row takes, the row, and the rows by rising x
abbrev pub row_lines : (lengths : J) → ℕ
row_lines n = (n.1 + 4) / 5

abbrev pub row_text : (group : ℕ) (lengths : J) (map : List ℤ) (z x : ℕ) → List ℕ
row_text group n v z x = each (row_lines n) (λ i. section_line group n v z x i)

abbrev pub rows_text : (group : ℕ) (lengths : J) (map : List ℤ) (z : ℕ) → List ℕ
rows_text group n v z = each n.0 (λ x. row_text group n v z x)

-- a letter in the first place, and a number that ends in the 69th
unfoldable pub closing_line : (letter : ℕ) → ℤ → List ℕ
closing_line letter k = letter ∷ (aligned 68 (signed_decimal k) ++ line_feed ∷ [])

-- T, M and R in ASCII
abbrev pub total_letter : ℕ
total_letter = 84

abbrev pub mean_letter : ℕ
mean_letter = 77

abbrev pub remainder_letter : ℕ
remainder_letter = 82

-- the total, the mean and the remainder
unfoldable pub closing_text : ℤ → (points : ℕ) → List ℕ
closing_text t n =
    closing_line total_letter t ++
    (closing_line mean_letter (mean t n) ++ closing_line remainder_letter (pos (remainder t n)))

-- the rows, then these
unfoldable pub section_text : (group : ℕ) (lengths : J) (map : List ℤ) (z : ℕ) → List ℕ
section_text group n v z = rows_text group n v z ++ closing_text (total group n v z) (points n)

-- ---- the call

-- the numbers of the plane are within the range of a combined map
abbrev pub row_within : (group : ℕ) (lengths : J) (map : List ℤ) (z x : ℕ) → Bool
row_within group n v z x = below n.1 (λ y. leb (nat_abs (section_at group n v z x y)) limit)

unfoldable pub plane_within : (group : ℕ) (lengths : J) (map : List ℤ) (z : ℕ) → Bool
plane_within group n v z = below n.0 (λ x. row_within group n v z x)

-- 8, 3, 9, 6 of the map, then 10, 28 and 18
abbrev pub section_tests : (group : ℕ) (lengths : J) (map : List ℤ) (z room : ℕ) → List Test
section_tests group n v z room =
    combined_map_tests group n (length v) ++
    (leb n.2 z ⇒ 10 ∷
    not (plane_within group n v z) ⇒ 28 ∷
    ltb room (length (section_text group n v z)) ⇒ 18 ∷
    [])

unfoldable pub section_step : (group : ℕ) (lengths : J) (map : List ℤ) (z : ℕ) (output : List ℕ) → FillOutcome
section_step group n v z output =
    accepted (first (section_tests group n v z (length output)))
    (filled (section_text group n v z) output)
    (not_filled output)
