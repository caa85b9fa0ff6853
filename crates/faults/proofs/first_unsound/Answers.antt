use Rattle.std.proofs.Common.{arith, ◌∙◌}
use Rattle.faults.proofs.FaultWalks.{own_here, inside_here, sound_start, sound_next, sound_fewer}
use Rattle.faults.proofs.first_unsound.Goals as goal

pub loop-i-init : goal.loop-i-init
loop-i-init c = sound_start c.args.modulus c.args.cell c.args.file.now

pub overflow_mul-i : goal.overflow_mul-i
overflow_mul-i c = omega (arith, inside_here c.requires.1 c.loop-i.i (omega arith), c.requires.1.filled)

pub overflow_add-start : goal.overflow_add-start
overflow_add-start c = omega (arith, inside_here c.requires.1 c.loop-i.i (omega arith), c.requires.1.filled)

pub sound_at-requires : goal.sound_at-requires
sound_at-requires c = let w = c.requires in (w.1.sizes, w.0, omega (arith, inside_here w.1 c.loop-i.i (omega arith), w.1.filled))

pub returns-then-not-sound_at : goal.returns-then-not-sound_at
returns-then-not-sound_at c =
    record { sound = c.loop-i.invariant; stops = λ h z. c.sound_at.ensures.1 c.if-not-sound_at.true (own_here c.requires.1 c.loop-i.i _ ∙ z) }

pub loop-i-preserved : goal.loop-i-preserved
loop-i-preserved c =
    sound_next _ _ _ c.loop-i.i c.loop-i.invariant (omega arith) (c.sound_at.ensures.0 c.if-not-sound_at.false ∙ own_here c.requires.1 c.loop-i.i _)

pub returns : goal.returns
returns c = record { sound = sound_fewer _ _ _ c.loop-i.invariant c.loop-i-test.false; stops = λ h. absurd (omega arith) }
