-- The lines before line i are written.
use Rattle.cell.specs.Operations.{cell_lengths}
use Rattle.output.specs.Output.{each}
use Rattle.output.specs.Written.{Wrote}
use Rattle.section.specs.Section.{section_line}
use Rattle.section.proofs.lines.put_row.Given as goal

abbrev pub invariant-loop-i : goal.invariant-loop-i
invariant-loop-i l = Wrote l.at (each l.i (section_line l.cell.group (cell_lengths l.cell) l.map l.z l.x)) l.fn.out l.place l.out
