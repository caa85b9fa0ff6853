-- The rows before y are written.
use Rattle.output.specs.Output.{each}
use Rattle.output.specs.Written.{Wrote}
use Rattle.mrc.specs.Mrc.{row_bytes}
use Rattle.mrc.proofs.writing.put_plane.Given as goal

abbrev pub invariant-loop-y : goal.invariant-loop-y
invariant-loop-y l = Wrote l.at (each l.y (row_bytes l.cell l.map l.z)) l.fn.out l.place l.out
