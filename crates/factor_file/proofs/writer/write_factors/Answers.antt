-- No room, or the file.
use native.Mathlib.Omega.{arith}
use mathlib.Core.List.{List}
use Prim.Native.Nat.{ℕ, ◌≤◌}
use lib.ListN.{length}
use Rattle.cell.specs.declared.operations.UnitCell.{UnitCell}
use Rattle.file_format.specs.Format.{version_of, file_of}
use Rattle.factor_file.specs.Steps.{IsFactors, header_for, records_with}
use Rattle.factor_file.proofs.file.RecordLaws.{admitted_few}
use Rattle.factor_file.proofs.writer.Files.{filed_short, filed_whole}
use Rattle.factor_file.proofs.writer.write_factors.Goals as goal

-- the file of these factors
abbrev file : (m : ℕ) (cell : UnitCell) (f1 f2 f3 : ℕ) (v : List ℕ) → List ℕ
file m cell f1 f2 f3 v = file_of (version_of m) m (header_for cell f1 f2 f3) (records_with cell m v)

few : (m : ℕ) (cell : UnitCell) (v : List ℕ) → IsFactors m cell v → length v ≤ 16777216 → length (records_with cell m v) ≤ 33554432
few m cell v f l = admitted_few f.volume.sizes m v f.volume.long l

pub file_length-requires : goal.file_length-requires
file_length-requires c = omega (arith, c.count_records-count.ensures, few c.args.modulus c.args.cell c.args.volume.now c.requires.0 c.requires.1)

pub returns-then-out-file_length : goal.returns-then-out-file_length
returns-then-out-file_length c =
    let a = c.args in
    let l = c.file_length.ensures.0 a.cell.group a.cell.n1 a.cell.n2 a.cell.n3 (records_with a.cell a.modulus a.volume.now) c.count_records-count.ensures in
    filed_short (file a.modulus a.cell a.f1 a.f2 a.f3 a.volume.now) a.out.now (omega (arith, l, c.if-out-file_length.true))

pub put_file-requires : goal.put_file-requires
put_file-requires c = record { factors = (c.requires.0, c.requires.1); count_value = c.count_records-count.ensures }

pub returns : goal.returns
returns c =
    let a = c.args in
    let l = c.file_length.ensures.0 a.cell.group a.cell.n1 a.cell.n2 a.cell.n3 (records_with a.cell a.modulus a.volume.now) c.count_records-count.ensures in
    filed_whole (file a.modulus a.cell a.f1 a.f2 a.f3 a.volume.now) a.out.now (omega (arith, l, c.if-out-file_length.false)) c.put_file.ensures
