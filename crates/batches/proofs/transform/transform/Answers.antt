-- The invariant of the loop over the steps is `DrivingLanes`.
use Rattle.std.proofs.Common.{arith}
use Rattle.plain.proofs.Driving.{after_left}
use Rattle.batches.proofs.DrivingLanes.{lent_lanes, lanes_start, lanes_asks, lanes_next, lanes_end, lanes_copied}
use Rattle.batches.proofs.transform.transform.Goals as goal

pub loop-at-init : goal.loop-at-init
loop-at-init c =
    record { place = 0; stands = lanes_start (lent_lanes c.requires.modulus c.requires.factored c.requires.line_len.0 c.requires.line_len.2); work_long = c.requires.line_len.1 }

pub next_step-at-requires : goal.next_step-at-requires
next_step-at-requires c =
    let asks = lanes_asks (lent_lanes c.requires.modulus c.requires.factored c.requires.line_len.0 c.requires.line_len.2) c.loop-at.invariant.stands (omega arith) c.loop-at.invariant.work_long in
    record { modulus = c.requires.modulus; ahead = asks.0; up_to = asks.1 }

pub next_step-at-requires-in-loop-at : goal.next_step-at-requires-in-loop-at
next_step-at-requires-in-loop-at c =
    let lent = lent_lanes c.requires.modulus c.requires.factored c.requires.line_len.0 c.requires.line_len.2 in
    let stands = c.loop-at.invariant.stands in
    let e = c.next_step-at.ensures.value in
    let s = c.next_step-at.ensures.stepped_lanes in
    let h = lanes_next lent stands (omega arith) e s.0 s.1 (omega (arith, c.loop-at.invariant.work_long)) in
    let asks = lanes_asks lent h (omega (arith, after_left c.loop-at.at e)) stands.long in
    record { modulus = c.requires.modulus; ahead = asks.0; up_to = asks.1 }

pub loop-at-smaller : goal.loop-at-smaller
loop-at-smaller c =
    omega (arith, after_left c.loop-at.at c.next_step-at.ensures.value, after_left c.next_step-at.result c.next_step-at-in-loop-at.ensures.value)

pub loop-at-preserved : goal.loop-at-preserved
loop-at-preserved c =
    let lent = lent_lanes c.requires.modulus c.requires.factored c.requires.line_len.0 c.requires.line_len.2 in
    let stands = c.loop-at.invariant.stands in
    let e = c.next_step-at.ensures.value in
    let s = c.next_step-at.ensures.stepped_lanes in
    let h = lanes_next lent stands (omega arith) e s.0 s.1 (omega (arith, c.loop-at.invariant.work_long)) in
    let t = c.next_step-at-in-loop-at.ensures.stepped_lanes in
    record {
      place = _;
      stands = lanes_next lent h (omega (arith, after_left c.loop-at.at e)) c.next_step-at-in-loop-at.ensures.value t.0 t.1 (omega (arith, stands.long));
      work_long = h.long;
    }

pub next_step-requires : goal.next_step-requires
next_step-requires c =
    let asks = lanes_asks (lent_lanes c.requires.modulus c.requires.factored c.requires.line_len.0 c.requires.line_len.2) c.loop-at.invariant.stands (omega arith) c.loop-at.invariant.work_long in
    record { modulus = c.requires.modulus; ahead = asks.0; up_to = asks.1 }

pub returns-then-at-ne0 : goal.returns-then-at-ne0
returns-then-at-ne0 c =
    let lent = lent_lanes c.requires.modulus c.requires.factored c.requires.line_len.0 c.requires.line_len.2 in
    let e = c.next_step.ensures.value in
    let s = c.next_step.ensures.stepped_lanes in
    let h = lanes_next lent c.loop-at.invariant.stands (omega arith) e s.0 s.1 (omega (arith, c.loop-at.invariant.work_long)) in
    lanes_copied c.loop-at.line (lanes_end lent h (omega (arith, after_left c.loop-at.at e))) c.loop-at.invariant.stands.long c.copy.ensures

pub returns-else-at-ne0 : goal.returns-else-at-ne0
returns-else-at-ne0 c = lanes_end (lent_lanes c.requires.modulus c.requires.factored c.requires.line_len.0 c.requires.line_len.2) c.loop-at.invariant.stands (omega arith)
