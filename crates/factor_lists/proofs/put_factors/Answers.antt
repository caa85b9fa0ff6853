use Rattle.std.proofs.Common.{arith}
use native.Mathlib.Nat.{div-lt_self}
use Rattle.factor_lists.proofs.Choosing.{choosing_start, choosing_ends, choosing_next, choosing_done}
use Rattle.factor_lists.proofs.put_factors.Goals as goal

pub loop-rest-init : goal.loop-rest-init
loop-rest-init c = choosing_start _ _ c.requires

pub put_byte-at-requires : goal.put_byte-at-requires
put_byte-at-requires c = choosing_ends c.loop-rest.invariant _

pub loop-rest-smaller : goal.loop-rest-smaller
loop-rest-smaller c = div-lt_self (omega (arith, c.loop-rest-test.true)) (omega (arith, c.next_factor-factor.ensures.1))

pub loop-rest-preserved : goal.loop-rest-preserved
loop-rest-preserved c =
    let factor = c.next_factor-factor.ensures in
    choosing_next c.loop-rest.invariant c.loop-rest-test.true factor.0 factor.1 c.put_byte-at.ensures

pub returns : goal.returns
returns c = choosing_done c.loop-rest.invariant c.loop-rest-test.false
