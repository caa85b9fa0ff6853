-- The law of the group (`group_folded`).
use Rattle.std.proofs.Common.{ℕ, subst}
use Rattle.batches.specs.Groups.{LinesBelow}
use Rattle.folded_batches.proofs.MirrorGroups.{slots_stored, packed_lane, part_long, unpacked_whole, unpacked_low, stored_low, group_folded}
use Rattle.folded_batches.proofs.mirror.turn_lines.Goals as goal

pub turn_batch-requires-clause-first_bound : goal.turn_batch-requires-clause-first_bound
turn_batch-requires-clause-first_bound c =
    let a = c.args in
    let one = c.requires.frame.4 in
    let positive = c.requires.frame.0.positive in (
      one,
      c.unpack.ensures.long,
      c.requires.direction_bound.3,
      unpacked_low a.m a.volume.now a.a a.start a.stride a.lanes _ positive a.first one c.unpack.ensures
          (subst (λ (n : ℕ). LinesBelow a.m a.start a.stride n a.lanes a.volume.now) (slots_stored a.a a.first one) c.requires.lanes_in_bounds.1),
      record {
        lines = packed_lane a.volume.now a.a a.first a.start a.stride a.lanes;
        whole = unpacked_whole a.m a.volume.now a.a a.start a.stride a.lanes _ positive a.first one c.unpack.ensures;
      },
    )

pub scatter-requires-clause-modulus : goal.scatter-requires-clause-modulus
scatter-requires-clause-modulus c =
    let a = c.args in
    let f = c.requires.frame in
    let p = c.requires.direction_bound in
    let lines = unpacked_whole a.m a.volume.now a.a a.start a.stride a.lanes _ f.0.positive a.first f.4 c.unpack.ensures in
    let turned = c.turn_batch.ensures (packed_lane a.volume.now a.a a.first a.start a.stride a.lanes) lines in
    (f.0.modulus, c.last_factor-c.ensures.0, p.4, p.5, part_long a.a a.first _ f.4 f.0.positive turned.long, stored_low a.m a.a a.first a.re.now a.im.now a.tan.now f.0 f.4 turned)

pub returns : goal.returns
returns c =
    let a = c.args in
    let f = c.requires.frame in
    let p = c.requires.direction_bound in
    let lines = unpacked_whole a.m a.volume.now a.a a.start a.stride a.lanes _ f.0.positive a.first f.4 c.unpack.ensures in
    let turned = c.turn_batch.ensures (packed_lane a.volume.now a.a a.first a.start a.stride a.lanes) lines in
    group_folded a.m a.a a.first a.re.now a.im.now a.tan.now f.0 f.4 a.direction a.start a.stride a.lanes a.volume.now p.4 p.5 turned c.requires.lanes_in_bounds.0 c.last_factor-c.ensures.1 c.scatter.ensures
