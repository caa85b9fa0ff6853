-- The planes before z are written.
use Rattle.output.specs.Output.{each}
use Rattle.output.specs.Written.{Wrote}
use Rattle.mrc.specs.Mrc.{plane_bytes}
use Rattle.mrc.proofs.writing.put_cell.Given as goal

abbrev pub invariant-loop-z : goal.invariant-loop-z
invariant-loop-z l = Wrote l.at (each l.z (plane_bytes l.cell l.map)) l.fn.out l.place l.out
