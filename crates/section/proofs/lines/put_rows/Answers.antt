use Rattle.cell.specs.Operations.{cell_lengths}
use Rattle.output.proofs.Writing.{each_none, each_ends, each_next}
use Rattle.section.specs.Section.{row_text}
use Rattle.section.proofs.lines.put_rows.Goals as goal

pub loop-x-init : goal.loop-x-init
loop-x-init c = each_none _ _ _

pub put_row-place-requires-clause-ends : goal.put_row-place-requires-clause-ends
put_row-place-requires-clause-ends c = each_ends (row_text c.args.cell.group (cell_lengths c.args.cell) c.args.map.now c.args.z) c.requires.ends c.loop-x-test.true c.loop-x.invariant

pub loop-x-preserved : goal.loop-x-preserved
loop-x-preserved c = each_next (row_text c.args.cell.group (cell_lengths c.args.cell) c.args.map.now c.args.z) c.loop-x.invariant c.put_row-place.ensures
