-- What holds of every section that is written: what its three last numbers are to each other, and that its lines are of
-- one width. And what is read for a plane.
use Rattle.std.specs.Prelude.{◌≡◌, ◌+◌, ◌*◌, ◌<◌, ◌∷◌, ◌++◌, ◌+ℤ◌, ◌*ℤ◌}
use Rattle.algebra.specs.Prelude.{ℕ, List, [], length, get_or}
use Rattle.algebra.specs.cells.Cell.{J, Inside, Cell}
use Rattle.signed.specs.Integers.{ℤ, pos}
use Rattle.output.specs.Output.{line_feed}
use Rattle.refusals.specs.Refusals.{first}
use Rattle.cell.specs.Volume.{group_of}
use Rattle.header.specs.Header.{half_lengths}
use Rattle.combined.specs.CombinedMap.{pack_signed, Symmetric}
use Rattle.section.specs.Section.{section_at, total, points, mean, remainder, section_line, row_lines, section_text}
use Rattle.section.specs.Section.{closing_line, total_letter, mean_letter, remainder_letter, section_tests}

-- a call of these arguments is accepted
abbrev pub Accepted : (group : ℕ) (lengths : J) (map : List ℤ) (z room : ℕ) → Type 0
Accepted group n v z room = 0 ≡ first (section_tests group n v z room)

-- the total is the mean times the points and the remainder, which is from 0 to the points less one
pub record Divides (t : ℤ) (n : ℕ) : Type 0 where
  pub whole : t ≡ mean t n *ℤ pos n +ℤ pos (remainder t n)
  pub below : remainder t n < n

abbrev pub SectionLaws : Type 0
SectionLaws =
    (group : ℕ) (n : J) (v : List ℤ) (z room : ℕ) →
    Accepted group n v z room →
    Divides (total group n v z) (points n)

-- 69 characters, none of them a line feed, and a line feed
pub record IsLine (line : List ℕ) : Type 0 where
  pub characters : List ℕ
  pub ends : line ≡ characters ++ line_feed ∷ []
  pub wide : length characters ≡ 69
  pub plain : (k : ℕ) → k < 69 → get_or characters k 0 ≡ line_feed → ⊥

-- every line is one, and there are as many as the rows take, and three
pub record Lined (group : ℕ) (n : J) (v : List ℤ) (z : ℕ) : Type 0 where
  pub rows : (x i : ℕ) → x < n.0 → i < row_lines n → IsLine (section_line group n v z x i)
  pub last :
      (t : ℤ) →
      IsLine (closing_line total_letter t)
      × IsLine (closing_line mean_letter t)
      × IsLine (closing_line remainder_letter t)
  pub count : length (section_text group n v z) ≡ 70 * (n.0 * row_lines n + 3)

abbrev pub SectionWidth : Type 0
SectionWidth =
    (group : ℕ) (n : J) (v : List ℤ) (z room : ℕ) →
    Accepted group n v z room →
    Lined group n v z

-- the section of the combined map of a symmetric cell has its numbers, on every plane, stored or not
abbrev pub SectionPoints : Type 0
SectionPoints =
    (group : ℕ) (n : J) (M : Cell ℤ) →
    Symmetric (group_of group) (half_lengths n) M →
    (x y z : ℕ) → Inside (half_lengths n) (x, y, z) →
    section_at group n (pack_signed (group_of group) (half_lengths n) M) z x y ≡ M x y z
