-- The values before y + t are written.
use Rattle.std.proofs.Common.{◌+◌}
use Rattle.cell.specs.Operations.{cell_lengths}
use Rattle.output.specs.Output.{each}
use Rattle.output.specs.Written.{Wrote}
use Rattle.section.specs.Section.{value_field}
use Rattle.section.proofs.lines.put_values.Given as goal

abbrev pub invariant-loop-t : goal.invariant-loop-t
invariant-loop-t l = Wrote l.at (each l.t (λ t. value_field l.cell.group (cell_lengths l.cell) l.map l.z l.x (l.y + t))) l.fn.out l.place l.out
