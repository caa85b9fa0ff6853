-- What a section depends on: the numbers of its plane's points. Neither those behind the rows nor those of another
-- plane are read.
use Rattle.std.specs.Prelude.{◌≡◌, ◌<◌}
use Rattle.algebra.specs.Prelude.{ℕ, List, length}
use Rattle.algebra.specs.cells.Cell.{J}
use Rattle.signed.specs.Integers.{ℤ}
use Rattle.cell.specs.Volume.{group_of}
use Rattle.header.specs.Header.{half_lengths}
use Rattle.combined.specs.CombinedMap.{count_of}
use Rattle.section.specs.Section.{section_step}

-- two maps that have the same number at every point of plane z
abbrev pub SamePlane : (group : ℕ) (lengths : J) (z : ℕ) (v w : List ℤ) → Type 0
SamePlane group n z v w =
    (x y : ℕ) → x < n.0 → y < n.1 →
    count_of (group_of group) (half_lengths n) v (x, y, z) ≡ count_of (group_of group) (half_lengths n) w (x, y, z)

-- they give the same answer and the same page
abbrev pub ReadsPlaneAlone : Type 0
ReadsPlaneAlone =
    (group : ℕ) (n : J) (v w : List ℤ) (z : ℕ) (output : List ℕ) →
    length v ≡ length w →
    SamePlane group n z v w →
    section_step group n v z output ≡ section_step group n w z output
