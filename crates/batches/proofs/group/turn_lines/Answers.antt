-- The sweep law for a group.
use Rattle.std.proofs.Common.{arith}
use Rattle.batches.proofs.VolumeLanes.{gathered_low}
use Rattle.batches.proofs.GroupLaw.{group_turned_lem, transformed_low}
use Rattle.batches.proofs.group.turn_lines.Goals as goal

pub transform-requires-clause-line_len : goal.transform-requires-clause-line_len
transform-requires-clause-line_len c =
    (omega arith, c.requires.line_len.1, gathered_low c.gather.ensures c.args.m c.requires.lanes_in_bounds.1 (omega arith))

pub scatter-requires-clause-modulus : goal.scatter-requires-clause-modulus
scatter-requires-clause-modulus c =
    let p = c.requires.line_len in (
      c.requires.modulus.0,
      p.2,
      p.3,
      p.4,
      c.transform.ensures.long,
      transformed_low c.requires.modulus.0 c.transform.ensures (gathered_low c.gather.ensures c.args.m c.requires.lanes_in_bounds.1 (omega arith)),
    )

pub returns : goal.returns
returns c =
    let p = c.requires.line_len in
    let inside = c.requires.lanes_in_bounds in
    λ z e. group_turned_lem c.args.volume.now p.3 p.4 inside.0 inside.1 c.gather.ensures c.transform.ensures c.scatter.ensures z e
