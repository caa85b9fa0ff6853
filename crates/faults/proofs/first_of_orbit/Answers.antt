use Rattle.std.proofs.Common.{refl, sym, ◌∙◌, arith, below_more}
use Rattle.faults.proofs.FaultWalks.{within_here, place_here, inside_here}
use Rattle.faults.proofs.first_of_orbit.Goals as goal

pub overflow_mul-last : goal.overflow_mul-last
overflow_mul-last c = let w = c.requires in omega (arith, inside_here w.0 c.args.last (omega (arith, w.1.some)), w.0.filled)

pub overflow_add-start : goal.overflow_add-start
overflow_add-start c = let w = c.requires in omega (arith, inside_here w.0 c.args.last (omega (arith, w.1.some)), w.0.filled)

pub place_at-place-requires : goal.place_at-place-requires
place_at-place-requires c = let w = c.requires in (w.0.sizes, omega (arith, inside_here w.0 c.args.last (omega (arith, w.1.some)), w.0.filled), within_here w.0 c.args.last ∙ w.1.each c.args.last (omega arith))

pub overflow_mul-i : goal.overflow_mul-i
overflow_mul-i c = let w = c.requires in omega (arith, inside_here w.0 c.loop-i.i (omega (arith, w.1.some)), w.0.filled)

pub overflow_add-start-in-loop-i : goal.overflow_add-start-in-loop-i
overflow_add-start-in-loop-i c = let w = c.requires in omega (arith, inside_here w.0 c.loop-i.i (omega (arith, w.1.some)), w.0.filled)

pub place_at-requires : goal.place_at-requires
place_at-requires c = let w = c.requires in (w.0.sizes, omega (arith, inside_here w.0 c.loop-i.i (omega (arith, w.1.some)), w.0.filled), within_here w.0 c.loop-i.i ∙ w.1.each c.loop-i.i (omega arith))

pub returns-then-place_at-place : goal.returns-then-place_at-place
returns-then-place_at-place c = record { some = omega arith; same = sym (c.place_at.ensures.0 ∙ place_here c.requires.0 c.loop-i.i) ∙ c.if-place_at-place.true ∙ (c.place_at-place.ensures.0 ∙ place_here c.requires.0 c.args.last); before = c.loop-i.invariant }

pub loop-i-preserved : goal.loop-i-preserved
loop-i-preserved c = below_more _ _ c.loop-i.invariant (λ e. c.if-place_at-place.false (c.place_at.ensures.0 ∙ place_here c.requires.0 c.loop-i.i ∙ e ∙ sym (c.place_at-place.ensures.0 ∙ place_here c.requires.0 c.args.last)))

pub returns : goal.returns
returns c = record { some = omega arith; same = refl; before = λ k h. c.loop-i.invariant k (omega arith) }
