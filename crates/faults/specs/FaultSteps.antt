-- The records of a file by their places: what the walks that look for those at fault are lent, and what they find.
use Rattle.std.specs.Prelude.{◌≡◌, Bool, true, false, ◌||◌, List, ℕ, ◌+◌, ◌*◌, ◌-◌, ◌<◌, ◌≤◌, length, eqb}
use Rattle.algebra.specs.cells.Cell.{J}
use Rattle.refusals.specs.Refusals.{first}
use Rattle.bits.specs.Set.{in_set}
use Rattle.cell.specs.OrbitPlace.{orbit_place}
use Rattle.cell.specs.declared.operations.UnitCell.{UnitCell}
use Rattle.cell.specs.Operations.{cell_group, cell_halves, cell_lengths, Sizes}
use Rattle.job.specs.Job.{within, own_tests}
use Rattle.file_format.specs.declared.FileRecord.{FileRecord}
use Rattle.file_format.specs.Format.{count_at, record_count, record_at}
use Rattle.factor_file.specs.File.{index_in}

-- where record i of a file begins
abbrev pub record_place : List ℕ → ℕ → ℕ
record_place file i = count_at file + 4 + 14 * i

-- the records of a file stand from start on, and fill it; their cell has admitted lengths
pub record Records (c : UnitCell) (file : List ℕ) (start : ℕ) : Type 0 where
  pub sizes : Sizes c
  pub begins : start ≡ count_at file + 4
  pub filled : count_at file + 4 + 14 * record_count file ≡ length file

-- the number that a record's own numbers refuse it with, 0 if they do not; and the place of its orbit
unfoldable pub own_number : (modulus : ℕ) → UnitCell → FileRecord → ℕ
own_number m c r = first (own_tests m c.group (cell_lengths c) (index_in r) r.a r.b)

unfoldable pub place_of : UnitCell → FileRecord → ℕ
place_of c r = orbit_place (cell_group c) (cell_halves c) (index_in r)

-- the same of record i of a file, and whether its index lies in the cell
abbrev pub own_at : (modulus : ℕ) → UnitCell → List ℕ → ℕ → ℕ
own_at m c file i = own_number m c (record_at file (record_place file i))

abbrev pub within_at : UnitCell → List ℕ → ℕ → Bool
within_at c file i = within (cell_lengths c) (index_in (record_at file (record_place file i)))

abbrev pub place_at : UnitCell → List ℕ → ℕ → ℕ
place_at c file i = place_of c (record_at file (record_place file i))

-- the records before r are refused by none of their own numbers
pub record SoundTo (m : ℕ) (c : UnitCell) (file : List ℕ) (r : ℕ) : Type 0 where
  pub some : r ≤ record_count file
  pub each : (i : ℕ) → i < r → 0 ≡ own_at m c file i

-- their indices lie in the cell, so that their orbits have places
pub record WithinTo (c : UnitCell) (file : List ℕ) (r : ℕ) : Type 0 where
  pub some : r ≤ record_count file
  pub each : (i : ℕ) → i < r → within_at c file i ≡ true

-- r is the first that its own numbers refuse, or there is none
pub record FirstUnsound (m : ℕ) (c : UnitCell) (file : List ℕ) (r : ℕ) : Type 0 where
  pub sound : SoundTo m c file r
  pub stops : r < record_count file → own_at m c file r ≡ 0 → ⊥

-- Of the records before r, none whose orbit has its place from low to below high is of the orbit of an earlier one.
pub record Apart (c : UnitCell) (file : List ℕ) (low high r : ℕ) : Type 0 where
  pub each :
      (k i : ℕ) → k < i → i < r →
      low ≤ place_at c file i → place_at c file i < high →
      place_at c file k ≡ place_at c file i →
      ⊥

-- r is not beyond a limit, and where it is below it, it is of the orbit of an earlier record
pub record Stops (c : UnitCell) (file : List ℕ) (limit r : ℕ) : Type 0 where
  pub some : r ≤ limit
  pub repeats : r < limit → (k : ℕ) × (k < r) × (place_at c file k ≡ place_at c file r)

-- r is the first record of the orbit of another
pub record FirstOf (c : UnitCell) (file : List ℕ) (last r : ℕ) : Type 0 where
  pub some : r ≤ last
  pub same : place_at c file r ≡ place_at c file last
  pub before : (k : ℕ) → k < r → place_at c file k ≡ place_at c file last → ⊥

-- how many places a set of marks covers
abbrev pub range : ℕ
range = 2097152

-- A place is noted in marks that cover the places from low on: whether it was among them, and what they are afterwards.
-- A place out of their range is not.
pub record Noted (low place : ℕ) (before : List ℕ) (seen : Bool) (after : List ℕ) : Type 0 where
  pub hit : seen ≡ true → (low ≤ place) × (place < low + range) × (in_set before (place - low) ≡ true)
  pub miss : seen ≡ false → low ≤ place → place < low + range → in_set before (place - low) ≡ false
  pub each : (k : ℕ) → k < range → in_set after k ≡ (eqb (low + k) place || in_set before k)
