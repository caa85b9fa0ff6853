-- c, and minus c.
use Rattle.folded_batches.proofs.Mates.{end_held}
use Rattle.folded_batches.proofs.hermitian.mates.sum_mix.Goals as goal

pub returns : goal.returns
returns c = end_held c.args.m c.args.c c.neg.result c.requires.1 c.neg.ensures
