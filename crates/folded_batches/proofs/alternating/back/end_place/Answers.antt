use Rattle.folded_batches.proofs.AlternatingBack.{end_even, end_odd}
use Rattle.folded_batches.proofs.alternating.back.end_place.Goals as goal

pub returns-then-a-eq0 : goal.returns-then-a-eq0
returns-then-a-eq0 c = end_even c.args.a c.if-a-eq0.true

pub returns-else-a-eq0 : goal.returns-else-a-eq0
returns-else-a-eq0 c = end_odd c.args.a c.if-a-eq0.false
