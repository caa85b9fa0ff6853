-- 1 + i tau, and 1 - i tau or its negative, times 2^32.
use Rattle.std.proofs.Common.{arith}
use Rattle.folded_batches.proofs.MirrorFinish.{even_mix, odd_mix}
use Rattle.folded_batches.proofs.mirror.after.coefficients.Goals as goal

pub returns-then-first-eq0 : goal.returns-then-first-eq0
returns-then-first-eq0 c =
    even_mix c.args.m c.args.tau c.shift-one.ensures c.mul-turn.ensures c.modulus.ensures.0 c.modulus-2.ensures.0 c.if-first-eq0.true

pub returns-else-first-eq0 : goal.returns-else-first-eq0
returns-else-first-eq0 c =
    odd_mix c.args.m c.args.tau c.shift-one.ensures c.mul-turn.ensures c.modulus.ensures.0 c.modulus-2.ensures.0 (omega arith)
