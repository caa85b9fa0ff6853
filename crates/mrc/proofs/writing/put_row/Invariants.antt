-- The densities before x are written.
use Rattle.output.specs.Output.{each}
use Rattle.output.specs.Written.{Wrote}
use Rattle.mrc.specs.Ranges.{density}
use Rattle.mrc.specs.Mrc.{density_bytes}
use Rattle.mrc.proofs.writing.put_row.Given as goal

abbrev pub invariant-loop-x : goal.invariant-loop-x
invariant-loop-x l = Wrote l.at (each l.x (λ x. density_bytes (density l.cell l.map (x, l.y, l.z)))) l.fn.out l.place l.out
