-- The refusals of a section stand in the papers' order; and what 28 says.
use Rattle.std.specs.Prelude.{◌<◌, ◌≤◌}
use Rattle.algebra.specs.Prelude.{ℕ, List}
use Rattle.algebra.specs.cells.Cell.{J}
use Rattle.signed.specs.Integers.{ℤ, nat_abs}
use Rattle.refusals.specs.Orders.{Ordered, RefusedUnless, of_section}
use Rattle.cell.specs.Volume.{group_of}
use Rattle.header.specs.Header.{half_lengths}
use Rattle.combined.specs.CombinedMap.{count_of}
use Rattle.output.specs.Output.{Filled.not_written}
use Rattle.section.specs.Section.{section_tests, section_step}

-- no magnitude in plane z exceeds 13,063,485,600
abbrev pub NarrowPlane : (group : ℕ) (lengths : J) (map : List ℤ) (z : ℕ) → Type 0
NarrowPlane group n v z =
    (x y : ℕ) → x < n.0 → y < n.1 →
    nat_abs (count_of (group_of group) (half_lengths n) v (x, y, z)) ≤ 13063485600

pub record SectionRefusals : Type 0 where
  pub ordered :
      (group : ℕ) (n : J) (v : List ℤ) (z room : ℕ) →
      Ordered (section_tests group n v z room) of_section
  pub magnitude :
      (group : ℕ) (n : J) (v : List ℤ) (z : ℕ) (output : List ℕ) →
      RefusedUnless not_written of_section 28 (section_step group n v z output).answer (NarrowPlane group n v z)
