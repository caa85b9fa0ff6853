-- Refused by the header, or what the records lead to.
use mathlib.Core.Path.{◌≡◌, ◌∙◌, sym, ap, subst}
use Prim.Native.Nat.{◌+◌, ◌≤◌}
use native.Mathlib.Omega.{arith}
use Rattle.numbers.specs.Value.{IsModulus}
use Rattle.cell.specs.declared.operations.UnitCell.{UnitCell}
use Rattle.cell.specs.Volume.{volume_length}
use Rattle.cell.specs.Operations.{cell_group, cell_halves, Sizes}
use Rattle.file_format.specs.Format.{four_bytes, modulus_in, header_in}
use Rattle.file_format.proofs.shape.Shapes.{ordered, filled_by_lem}
use Rattle.refusals.proofs.Handed.{failed_number, passed_number}
use Rattle.faults.proofs.FaultLaws.{header_sound, cell_of_lem, header_faults, records_fault}
use Rattle.faults.proofs.sound_faults.Goals as goal

pub returns-then-is_err : goal.returns-then-is_err
returns-then-is_err c =
    let e = failed_number c.check_header.result (sym c.is_err.ensures.value ∙ c.if-is_err.true) in
    header_faults c.args.file.now c.requires.1 e.0 (sym e.1 ∙ c.check_header.ensures)

pub four_bytes-count-requires : goal.four_bytes-count-requires
four_bytes-count-requires c = (ordered c.args.file.now c.args.places c.requires.0 c.requires.1).inside

pub record_faults-requires : goal.record_faults-requires
record_faults-requires c =
    let file = c.args.file.now in
    let h = c.header_numbers-header.ensures in
    let none = sym (passed_number c.check_header.result (sym c.is_err.ensures.value ∙ c.if-is_err.false)) ∙ c.check_header.ensures in
    let head = header_sound (modulus_in file) (header_in file) none in
    let sound = subst (λ (c : UnitCell). Sizes c × (volume_length (cell_group c) (cell_halves c) ≤ 16777216)) (cell_of_lem h) (head.sizes, head.near) in (
      subst IsModulus (sym h.modulus) head.modulus,
      record { sizes = sound.0; begins = c.first_record-start.ensures ∙ ap (λ q. q + 4) c.requires.0.count; filled = filled_by_lem file c.requires.1 },
      c.four_bytes-count.ensures ∙ ap (four_bytes file) c.requires.0.count,
      sound.1,
    )

pub returns : goal.returns
returns c =
    let none = sym (passed_number c.check_header.result (sym c.is_err.ensures.value ∙ c.if-is_err.false)) ∙ c.check_header.ensures in
    records_fault c.args.file.now c.requires.1 none c.header_numbers-header.ensures c.record_faults.ensures
