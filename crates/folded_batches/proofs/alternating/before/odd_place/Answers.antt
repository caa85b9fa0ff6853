use Rattle.std.proofs.Common.{arith}
use Rattle.folded_batches.proofs.AlternatingBlocks.{odd_low, odd_high}
use Rattle.folded_batches.proofs.alternating.before.odd_place.Goals as goal

pub returns-then-t-a : goal.returns-then-t-a
returns-then-t-a c = (odd_low c.args.a c.args.t c.if-t-a.true, omega arith)

pub returns-else-t-a : goal.returns-else-t-a
returns-else-t-a c = (odd_high c.args.a c.args.t c.if-t-a.false, omega arith)
