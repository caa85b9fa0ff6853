use Rattle.std.proofs.Common.{arith}
use Rattle.folded_batches.proofs.AlternatingAfter.{first_up, finished_by}
use Rattle.folded_batches.proofs.alternating.after.finish.Goals as goal

pub turn_places-requires-clause-fold_len : goal.turn_places-requires-clause-fold_len
turn_places-requires-clause-fold_len c = (omega arith, first_up c.args.a c.requires.fold_len.0 c.requires.fold_len.1 c.requires.fold_len.2 c.put_first.ensures)

pub returns : goal.returns
returns c = finished_by c.args.m c.args.a c.args.tan.now c.put_first.ensures c.turn_places.ensures (omega arith)
