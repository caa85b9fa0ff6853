-- What is written are zeros.
use Rattle.folded_batches.proofs.MirrorBlocks.{cleared_place}
use Rattle.folded_batches.proofs.mirror.places.clear_place.Goals as goal

pub returns : goal.returns
returns c = cleared_place c.args.j c.args.to.now (c.fill.ensures.after (λ y e. e)) c.requires
