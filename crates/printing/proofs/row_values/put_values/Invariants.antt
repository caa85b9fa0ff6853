-- The values before y are written.
use Rattle.std.proofs.Common.{◌+◌, get_or}
use Rattle.output.specs.Output.{each}
use Rattle.output.specs.Written.{Wrote}
use Rattle.printing.specs.Text.{value_text}
use Rattle.printing.proofs.row_values.put_values.Given as goal

abbrev pub invariant-loop-y : goal.invariant-loop-y
invariant-loop-y l = Wrote l.at (each l.y (λ y. value_text l.p (get_or l.volume (l.start + y) 0))) l.initial.out l.place l.out
