-- The kind of a line tells whether it is a row, and N numbers are enough for it.
use lib.ListN.{length-replicate}
use Rattle.volume_transform.proofs.row.RowLaws.{beside, spaced}
use Rattle.volume_transform.proofs.plan.AxisLines.{row_is, gathered_is}
use Rattle.volume_transform.proofs.OwnTurns.{own_as, packed_fits}
use Rattle.volume_transform.proofs.one_line.alone_in.Goals as goal

pub row_alone-requires-clause-beside : goal.row_alone-requires-clause-beside
row_alone-requires-clause-beside g c = (beside c.args.line c.requires.placed.0 c.if-line-eq1.true, c.requires.placed.1, c.requires.placed.2)

pub row_alone-requires-clause-scratch_length_in_bounds : goal.row_alone-requires-clause-scratch_length_in_bounds
row_alone-requires-clause-scratch_length_in_bounds g c = let h = c.requires.scratch_length_in_bounds in simp length-replicate (h.0, h.1)

pub gathered_alone-requires-clause-spaced : goal.gathered_alone-requires-clause-spaced
gathered_alone-requires-clause-spaced g c = (spaced c.args.line c.requires.placed.0 c.if-line-eq1.false, c.requires.placed.1, c.requires.placed.2)

pub gathered_alone-requires-clause-scratch_length_in_bounds : goal.gathered_alone-requires-clause-scratch_length_in_bounds
gathered_alone-requires-clause-scratch_length_in_bounds g c =
    let h = c.requires.scratch_length_in_bounds in
    simp length-replicate (h.0, packed_fits c.args.line (spaced c.args.line c.requires.placed.0 c.if-line-eq1.false) h.1, h.1)

pub returns-then-line-eq1 : goal.returns-then-line-eq1
returns-then-line-eq1 g c = own_as (row_is c.args.line c.args.volume.now c.if-line-eq1.true) c.row_alone.ensures

pub returns-else-line-eq1 : goal.returns-else-line-eq1
returns-else-line-eq1 g c = own_as (gathered_is c.args.line c.args.volume.now c.if-line-eq1.false) c.gathered_alone.ensures
