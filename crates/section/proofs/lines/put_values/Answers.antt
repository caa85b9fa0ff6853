use Rattle.std.proofs.Common.{List, ℕ, ◌+◌, ℤ}
use Rattle.cell.specs.declared.operations.UnitCell.{UnitCell}
use Rattle.cell.specs.Operations.{cell_lengths}
use Rattle.output.proofs.Writing.{each_none, each_ends, each_next}
use Rattle.section.specs.Section.{value_field}
use Rattle.section.proofs.lines.put_values.Goals as goal

abbrev value : UnitCell → List ℤ → (z x y t : ℕ) → List ℕ
value cell map z x y t = value_field cell.group (cell_lengths cell) map z x (y + t)

pub loop-t-init : goal.loop-t-init
loop-t-init c = each_none _ _ _

pub put_value-place-requires-clause-ends : goal.put_value-place-requires-clause-ends
put_value-place-requires-clause-ends c = each_ends (value c.args.cell c.args.map.now c.args.z c.args.x c.args.y) c.requires.ends c.loop-t-test.true c.loop-t.invariant

pub loop-t-preserved : goal.loop-t-preserved
loop-t-preserved c = each_next (value c.args.cell c.args.map.now c.args.z c.args.x c.args.y) c.loop-t.invariant c.put_value-place.ensures
