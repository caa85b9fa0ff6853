-- The blanks before the counter are written.
use Rattle.section.proofs.Blanks.{Blanking}
use Rattle.section.proofs.fields.put_blanks.Given as goal

abbrev pub invariant-loop : goal.invariant-loop
invariant-loop l = Blanking l.at l.used l.width l.counter l.fn.out l.place l.out
