use Rattle.std.proofs.Common.{arith}
use Rattle.plain.proofs.Driving.{after_left, driving_start, driving_asks, driving_asks_back, driving_next, driving_end, driving_last}
use Rattle.plain.proofs.transform.Goals as goal

pub loop-at-init : goal.loop-at-init
loop-at-init c =
    driving_start (record { list = c.requires.factored.0; divides = c.requires.factored.1; cycle = c.requires.modulus.1.cycle; long = c.requires.line_len.0; below = c.requires.below })
    c.requires.line_len.1

-- the two steps of a turn
pub next_step-at-requires : goal.next_step-at-requires
next_step-at-requires c =
    let a = driving_asks c.loop-at.invariant (omega arith) in
    record { modulus = c.requires.modulus; ahead = a.0; from_len = a.1.0; below = a.1.1 }

pub next_step-at-requires-in-loop-at : goal.next_step-at-requires-in-loop-at
next_step-at-requires-in-loop-at c =
    let s = c.next_step-at.ensures in
    let a = driving_asks_back c.loop-at.invariant (omega arith) s.value s.to_after (omega (arith, after_left c.loop-at.at s.value)) in
    record { modulus = c.requires.modulus; ahead = a.0; from_len = a.1.0; below = a.1.1 }

pub loop-at-smaller : goal.loop-at-smaller
loop-at-smaller c = omega (arith, after_left c.loop-at.at c.next_step-at.ensures.value, after_left c.next_step-at.result c.next_step-at-in-loop-at.ensures.value)

pub loop-at-preserved : goal.loop-at-preserved
loop-at-preserved c =
    let s = c.next_step-at.ensures in
    let t = c.next_step-at-in-loop-at.ensures in
    driving_next c.loop-at.invariant (omega arith) s.value s.to_after (omega (arith, after_left c.loop-at.at s.value)) t.value t.to_after

-- a step that is left
pub next_step-requires : goal.next_step-requires
next_step-requires c =
    let a = driving_asks c.loop-at.invariant (omega arith) in
    record { modulus = c.requires.modulus; ahead = a.0; from_len = a.1.0; below = a.1.1 }

pub returns-then-at-ne0 : goal.returns-then-at-ne0
returns-then-at-ne0 c =
    let s = c.next_step.ensures in
    let r = driving_last c.loop-at.invariant (omega arith) s.value s.to_after (omega (arith, after_left c.loop-at.at s.value)) c.copy.ensures in
    record { line_after = r.0; line_after_2 = r.1.0; work_after = r.1.1 }

pub returns-else-at-ne0 : goal.returns-else-at-ne0
returns-else-at-ne0 c =
    let r = driving_end c.loop-at.invariant (omega arith) in
    record { line_after = r.0; line_after_2 = r.1.0; work_after = r.1.1 }
