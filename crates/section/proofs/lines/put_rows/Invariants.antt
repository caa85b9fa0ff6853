-- The rows before x are written.
use Rattle.cell.specs.Operations.{cell_lengths}
use Rattle.output.specs.Output.{each}
use Rattle.output.specs.Written.{Wrote}
use Rattle.section.specs.Section.{row_text}
use Rattle.section.proofs.lines.put_rows.Given as goal

abbrev pub invariant-loop-x : goal.invariant-loop-x
invariant-loop-x l = Wrote l.at (each l.x (row_text l.cell.group (cell_lengths l.cell) l.map l.z)) l.fn.out l.place l.out
