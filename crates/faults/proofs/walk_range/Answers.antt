use Rattle.std.proofs.Common.{ℕ, length, ap, ◌∙◌, arith}
use Rattle.std.proofs.lemmas.List.{length-replicate}
use Rattle.faults.proofs.FaultWalks.{within_here, place_here, inside_here, marking_start, marking_hit, marking_next, apart_fewer}
use Rattle.faults.proofs.walk_range.Goals as goal

pub loop-i-init : goal.loop-i-init
loop-i-init c = marking_start _ _ _ 32768 c.requires.3

pub overflow_mul-i : goal.overflow_mul-i
overflow_mul-i c = let w = c.requires in omega (arith, inside_here w.0 c.loop-i.i (omega (arith, w.1.some)), w.0.filled)

pub overflow_add-start : goal.overflow_add-start
overflow_add-start c = let w = c.requires in omega (arith, inside_here w.0 c.loop-i.i (omega (arith, w.1.some)), w.0.filled)

pub place_at-place-requires : goal.place_at-place-requires
place_at-place-requires c = let w = c.requires in (w.0.sizes, omega (arith, inside_here w.0 c.loop-i.i (omega (arith, w.1.some)), w.0.filled), within_here w.0 c.loop-i.i ∙ w.1.each c.loop-i.i (omega arith))

pub note-requires : goal.note-requires
note-requires c = c.loop-i.auto.marks ∙ ap length c.requires.3 ∙ length-replicate {A = ℕ} 32768 0

pub returns-then-note : goal.returns-then-note
returns-then-note c =
    (c.loop-i.invariant.apart, record { some = omega arith; repeats = λ h. marking_hit c.loop-i.invariant c.place_at-place.result (c.place_at-place.ensures.0 ∙ place_here c.requires.0 c.loop-i.i) c.note.ensures c.if-note.true })

pub loop-i-preserved : goal.loop-i-preserved
loop-i-preserved c =
    marking_next c.loop-i.invariant c.place_at-place.result (c.place_at-place.ensures.0 ∙ place_here c.requires.0 c.loop-i.i) c.note.ensures c.if-note.false

pub returns : goal.returns
returns c = (apart_fewer c.loop-i.invariant.apart c.loop-i-test.false, record { some = omega arith; repeats = λ h. absurd (omega arith) })
