-- What an accepted call leaves, at every point of the cell and in the words of both jobs' readings.
use Rattle.std.specs.Prelude.{◌≡◌, ◌≤◌}
use Rattle.algebra.specs.Prelude.{true, ℕ, List, length, get_or}
use Rattle.algebra.specs.orbits.Orbit.{Mem}
use Rattle.algebra.specs.cells.Cell.{J, Inside, Sym, Cell, ops, point_image}
use Rattle.algebra.specs.cells.Cell as Cell
use Rattle.signed.specs.Integers.{ℤ, nat_abs, residue_z}
use Rattle.cell.specs.Volume.{volume_length, density_place}
use Rattle.output.specs.Output.{Filled.written}
use Rattle.combined.specs.Chinese.{limit, Combines}
use Rattle.combined.specs.CombinedMap.{count_of, pack_signed, EndsInZeros}
use Rattle.job.specs.declared.Job.{Job}
use Rattle.job.specs.declared.GridPoint.{GridPoint}
use Rattle.job.specs.Job.{group_in, halves, header_of, within, position, point_step, density}
use Rattle.combining.specs.Combining.{combine_step}

-- what both jobs read at a point; its count is congruent to the first reading modulo 86,399 and to the second modulo
-- 302,399, is from -limit to limit, and is the only such number
pub record PointCombined (i : Job) (v : List ℕ) (j : Job) (w : List ℕ) (output : List ℤ)
    (at : GridPoint) : Type 0 where
  pub first : ℤ
  pub second : ℤ
  pub first_read : (point_step i at v).answer ≡ density first
  pub second_read : (point_step j at w).answer ≡ density second
  pub is : Combines (residue_z 86399 first) (residue_z 302399 second)
      (count_of (group_in i) (halves i) output (position at))
  pub only : (z : ℤ) →
      Combines (residue_z 86399 first) (residue_z 302399 second) z →
      z ≡ count_of (group_in i) (halves i) output (position at)

-- so at every point; all images of a point have its count; the last two numbers of each row are zero; and n, which the
-- call answers, is how many numbers there are
pub record MapCombined (i : Job) (v : List ℕ) (j : Job) (w : List ℕ) (output : List ℤ) (n : ℕ) : Type 0 where
  pub points : (at : GridPoint) →
      within (header_of i).lengths (position at) ≡ true →
      PointCombined i v j w output at
  pub images : (s : Sym) →
      Mem s (ops (group_in i)) →
      (x : J) →
      Inside (halves i) x →
      count_of (group_in i) (halves i) output (point_image (halves i) s x) ≡ count_of (group_in i) (halves i) output x
  pub ends : EndsInZeros (group_in i) (halves i) output
  pub long : length output ≡ volume_length (group_in i) (halves i)
  pub counted : n ≡ length output

abbrev pub CombinedPoints : Type 0
CombinedPoints = (i : Job) (v : List ℕ) (j : Job) (w : List ℕ) (output : List ℤ) (n : ℕ) →
    let done = combine_step i v j w output in
    done.answer ≡ written n →
    MapCombined i v j w done.output n

-- the map's number at every point of the cell is the residue of the cell's
abbrev pub ResiduesOf : (p : ℕ) → Job → Cell ℤ → List ℕ → Type 0
ResiduesOf p i M v = (x : J) →
    Inside (halves i) x →
    get_or v (density_place (group_in i) (halves i) x) 0 ≡ residue_z p (Cell.at M x)

-- if both maps are the residues of a cell of whole numbers from -limit to limit, the output is that cell in the layout
-- of a map
abbrev pub CombinedRestores : Type 0
CombinedRestores = (i : Job) (v : List ℕ) (j : Job) (w : List ℕ) (output : List ℤ) (n : ℕ) (M : Cell ℤ) →
    let done = combine_step i v j w output in
    done.answer ≡ written n
    → ((x : J) → Inside (halves i) x → nat_abs (Cell.at M x) ≤ limit) →
    ResiduesOf 86399 i M v → ResiduesOf 302399 i M w →
    done.output ≡ pack_signed (group_in i) (halves i) M
