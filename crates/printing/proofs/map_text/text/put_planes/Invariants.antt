-- The planes before z are written.
use Rattle.output.specs.Output.{each}
use Rattle.output.specs.Written.{Wrote}
use Rattle.printing.specs.Text.{row_line}
use Rattle.printing.proofs.map_text.text.put_planes.Given as goal

abbrev pub invariant-loop-z : goal.invariant-loop-z
invariant-loop-z l = Wrote l.at (each l.z (λ z. each l.job.a.length (λ x. row_line l.job l.volume z x))) l.initial.out l.place l.out
