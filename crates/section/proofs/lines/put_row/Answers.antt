use Rattle.cell.specs.Operations.{cell_lengths}
use Rattle.output.proofs.Writing.{each_none, each_ends, each_next}
use Rattle.section.specs.Section.{section_line}
use Rattle.section.proofs.lines.put_row.Goals as goal

pub loop-i-init : goal.loop-i-init
loop-i-init c = each_none _ _ _

pub put_line-place-requires-clause-ends : goal.put_line-place-requires-clause-ends
put_line-place-requires-clause-ends c = each_ends (section_line c.args.cell.group (cell_lengths c.args.cell) c.args.map.now c.args.z c.args.x) c.requires.ends c.loop-i-test.true c.loop-i.invariant

pub loop-i-preserved : goal.loop-i-preserved
loop-i-preserved c = each_next (section_line c.args.cell.group (cell_lengths c.args.cell) c.args.map.now c.args.z c.args.x) c.loop-i.invariant c.put_line-place.ensures
