-- The ends and the stored places (`Unpacked`).
use Rattle.std.proofs.Common.{◌∙◌}
use Rattle.folded_batches.proofs.MirrorGroups.{part_long, unpacked_by}
use Rattle.folded_batches.proofs.mirror.unpack.Goals as goal

pub returns : goal.returns
returns c =
    let p = c.requires in
    let long = c.clear_ends.ensures.long ∙ p.4 in
    unpacked_by c.args.a c.args.first _ p.0 p.1 long _ (c.gather.auto.d ∙ part_long c.args.a c.args.first _ p.0 p.1 long) c.clear_ends.ensures c.gather.ensures
