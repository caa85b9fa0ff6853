-- The writer's second step: the file of factors that are known to be sound.
use Rattle.std.specs.Prelude.{List, [], ◌∷◌, ◌++◌, map, ℕ, suc, ◌-◌, ◌<◌, ltb, length, ◌≡◌, cond}
use Rattle.refusals.specs.Refusals.{first, accepted}
use Rattle.factor_file.specs.File.{is_lowest, records_at, room_tests}
use Rattle.output.specs.Output.{FillOutcome, filled, not_filled}
use Rattle.algebra.specs.cells.Cell.{J, Group, at, line_from, plane_from, cell_from, places_of}
use Rattle.numbers.specs.declared.Pair.{Pair}
use Rattle.numbers.specs.Value.{prime, IsModulus, Value, value}
use Rattle.slices.specs.Pairs.{Below}
use Rattle.cell.specs.Volume.{factors_in}
use Rattle.cell.specs.declared.operations.Index.{Index}
use Rattle.cell.specs.declared.operations.UnitCell.{UnitCell}
use Rattle.cell.specs.Operations.{cell_group, cell_halves, triple_of}
use Rattle.cell.specs.TestSteps.{IsVolume}
use Rattle.header.specs.Header.{Header}
use Rattle.file_format.specs.declared.FileRecord.{FileRecord}
use Rattle.file_format.specs.Format.{raw_bytes, version_of, file_of}
use Rattle.file_format.specs.Parsed.{file_record}
use Rattle.file_format.specs.Layout.{header_with}

-- what is left to do once the factors are known to be sound
abbrev pub filed : (file output : List ℕ) → FillOutcome
filed file output = accepted (first (room_tests (length file) (length output))) (filled file output) (not_filled output)

-- ---- The file step by step: what its functions are lent, the record of one place, and the file by the cell and the
-- factor lists of a job.

-- a volume of residues of a modulus, as long as its cell asks for
pub record IsFactors (m : ℕ) (c : UnitCell) (v : List ℕ) : Type 0 where
  pub modulus : IsModulus m
  pub volume : IsVolume c v
  pub small : Below (prime m) v

-- the factor at the lowest place of an orbit; elsewhere zero, which no record has
unfoldable pub record_value : Group → J → (m : ℕ) → List ℕ → J → Value m
record_value g a m v j = cond (is_lowest g a j) (at (factors_in g a m v) j) (value m 0 0)

-- the places of the cell from j on, rising in h, then k, then l: the rest of its line, of its plane, and of the cell
unfoldable pub places_from : UnitCell → J → List J
places_from c j =
    cond (ltb j.0 c.n1)
    (line_from j.0 j.1 j.2 (c.n3 - j.2)
    ++
    (plane_from c.n3 j.0 (suc j.1) (c.n2 - suc j.1)
    ++ cell_from c.n3 c.n2 (suc j.0) (c.n1 - suc j.0)))
    []

-- r is the place after j
pub record Next (c : UnitCell) (j r : Index) : Type 0 where
  pub left : places_from c (triple_of j) ≡ triple_of j ∷ places_from c (triple_of r)
  pub k : r.k < c.n2
  pub l : r.l < c.n3

-- the bytes of a record by its numbers
abbrev pub pair_bytes : J → Pair → List ℕ
pair_bytes j x = raw_bytes (record { h = j.0; k = j.1; l = j.2; a = x.re; b = x.im })

-- the record of one place, where it has one, and the records of the cell
abbrev pub place_records : UnitCell → (m : ℕ) → List ℕ → J → List FileRecord
place_records c m v j = map (file_record m) (records_at (cell_group c) (cell_halves c) m v (j ∷ []))

abbrev pub records_with : UnitCell → (m : ℕ) → List ℕ → List FileRecord
records_with c m v = map (file_record m) (records_at (cell_group c) (cell_halves c) m v (places_of (cell_halves c)))

-- the header and the file of a cell and three factor lists as octal digits
abbrev pub header_for : UnitCell → (f1 f2 f3 : ℕ) → Header
header_for c f1 f2 f3 = header_with c.group c.n1 c.n2 c.n3 f1 f2 f3

abbrev pub file_with : (modulus : ℕ) → UnitCell → (f1 f2 f3 : ℕ) → List ℕ → List ℕ
file_with m c f1 f2 f3 v = file_of (version_of m) m (header_for c f1 f2 f3) (records_with c m v)

-- and what is left to do with it
abbrev pub filed_with : (modulus : ℕ) → UnitCell → (f1 f2 f3 : ℕ) → (v output : List ℕ) → FillOutcome
filed_with m c f1 f2 f3 v output = filed (file_with m c f1 f2 f3 v) output
