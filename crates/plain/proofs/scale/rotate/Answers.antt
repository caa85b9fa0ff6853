use Rattle.std.proofs.Common.{◌≡◌}
use Rattle.slices.specs.Pairs.{at}
use Rattle.slices.proofs.Bounds.{small_of}
use Rattle.slices.proofs.Filling.{filling_start, filling_next, filling_read, filling_whole}
use Rattle.plain.proofs.scale.rotate.Goals as goal

pub loop-j-init : goal.loop-j-init
loop-j-init c = filling_start

pub rotated-requires : goal.rotated-requires
rotated-requires c = (c.requires.modulus, small_of c.args.line.now c.loop-j.j (filling_read c.loop-j.invariant c.get-v.ensures) c.requires.below)

pub loop-j-preserved : goal.loop-j-preserved
loop-j-preserved c =
    let came : c.get-v.result ≡ at c.args.line.now c.loop-j.j = filling_read c.loop-j.invariant c.get-v.ensures in
    filling_next c.loop-j.invariant c.loop-j-test.true c.store.ensures (cc)

pub returns : goal.returns
returns c = filling_whole c.loop-j.invariant c.loop-j-test.false c.requires.line_len
