-- The group, the modulus and the kind, the header, the volume in turn.
use mathlib.Core.Path.{◌∙◌, sym}
use borrow.Author.Tests.{le-leb, lt-leb}
use Rattle.numbers.proofs.ModulusCases.{tested_modulus}
use Rattle.refusals.proofs.Handed.{handed_number}
use Rattle.refusals.proofs.Tests.{stop, pass, not_t, not_f, by_true, by_false}
use Rattle.header.specs.Cells.{cell_header}
use Rattle.header.proofs.Headers.{sound_sizes}
use Rattle.job.proofs.check.Openings.{header_refused, volume_decides}
use Rattle.job.proofs.check.open.check_open.Goals as goal

pub returns-then-cell-ge5 : goal.returns-then-cell-ge5
returns-then-cell-ge5 c = stop _ (le-leb _ _ c.if-cell-ge5.true)

pub returns-then-not-is_modulus : goal.returns-then-not-is_modulus
returns-then-not-is_modulus c = pass 8 _ (lt-leb _ _ c.if-cell-ge5.false) (stop _ (not_f _ (by_false _ _ c.is_modulus.ensures c.if-not-is_modulus.true)))

pub returns-then-kind-ge2 : goal.returns-then-kind-ge2
returns-then-kind-ge2 c =
    pass 8 _ (lt-leb _ _ c.if-cell-ge5.false) (pass 26 _ (not_t _ (by_true _ _ c.is_modulus.ensures c.if-not-is_modulus.false)) (stop _ (le-leb _ _ c.if-kind-ge2.true)))

pub check_header-requires : goal.check_header-requires
check_header-requires c = c.if-cell-ge5.false

pub check_volume-requires : goal.check_volume-requires
check_volume-requires c =
    (sound_sizes (cell_header c.args.cell c.args.f1.now c.args.f2.now c.args.f3.now) c.in_ok-check_header.ensures c.if-cell-ge5.false, tested_modulus c.args.modulus (by_true _ _ c.is_modulus.ensures c.if-not-is_modulus.false))

pub returns-in_err-check_header : goal.returns-in_err-check_header
returns-in_err-check_header c =
    handed_number _ _ c.from_residual.ensures.1
    (header_refused c.args.modulus (cell_header c.args.cell c.args.f1.now c.args.f2.now c.args.f3.now) c.args.kind c.args.volume.now _ c.if-cell-ge5.false (by_true _ _ c.is_modulus.ensures c.if-not-is_modulus.false) c.if-kind-ge2.false c.in_err-check_header.ensures)

pub returns : goal.returns
returns c =
    volume_decides c.args.modulus (cell_header c.args.cell c.args.f1.now c.args.f2.now c.args.f3.now) c.args.kind c.args.volume.now c.if-cell-ge5.false (by_true _ _ c.is_modulus.ensures c.if-not-is_modulus.false) c.if-kind-ge2.false c.in_ok-check_header.ensures c.check_volume.ensures
