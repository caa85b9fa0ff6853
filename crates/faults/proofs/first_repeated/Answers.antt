use Rattle.std.proofs.Common.{arith}
use Rattle.faults.proofs.FaultWalks.{within_fewer, apart_start, apart_next, apart_lower, stops_next}
use Rattle.faults.proofs.first_repeated.Goals as goal

pub volume_length-places-requires : goal.volume_length-places-requires
volume_length-places-requires c = let s = c.requires.0.sizes in (omega (arith, s.first.high), omega (arith, s.second.high), omega (arith, s.third.high))

pub loop-low-init : goal.loop-low-init
loop-low-init c = (apart_start _ _ _, record { some = omega arith; repeats = λ h. absurd (omega arith) })

pub repeated_in_range-least-requires : goal.repeated_in_range-least-requires
repeated_in_range-least-requires c =
    (c.requires.0, within_fewer c.requires.1 c.loop-low.invariant.1.some, omega (arith, c.volume_length-places.ensures, c.requires.2))

pub loop-low-preserved : goal.loop-low-preserved
loop-low-preserved c =
    let i = c.loop-low.invariant in
    let r = c.repeated_in_range-least.ensures in
    (apart_next i.0 r.1.some r.0, stops_next i.1 r.1)

pub returns : goal.returns
returns c = (apart_lower c.loop-low.invariant.0 (omega (arith, c.volume_length-places.ensures)), c.loop-low.invariant.1)
