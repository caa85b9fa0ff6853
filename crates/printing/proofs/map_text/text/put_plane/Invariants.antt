-- The rows before x are written.
use Rattle.output.specs.Output.{each}
use Rattle.output.specs.Written.{Wrote}
use Rattle.printing.specs.Text.{row_line}
use Rattle.printing.proofs.map_text.text.put_plane.Given as goal

abbrev pub invariant-loop-x : goal.invariant-loop-x
invariant-loop-x l = Wrote l.at (each l.x (row_line l.job l.volume l.z)) l.initial.out l.place l.out
