use Rattle.std.proofs.Common.{refl, ◌∙◌, arith}
use Rattle.scripts.specs.Script.{call_outcome}
use Rattle.scripts.proofs.replay.Replaying.{resumed_none, replaying_next, replaying_all}
use Rattle.scripts.proofs.replay.Modelled.{replay_modelled}
use Rattle.scripts.proofs.replay.replay.Goals as goal

pub loop-i-init : goal.loop-i-init
loop-i-init c =
    let a = c.args in
    record { le = omega arith; scratch_length_lem = refl; output_length = refl; is = resumed_none a.script.now a.volume.now a.scratch.now a.answers.now c.call_count-count.result a.job c.call_count-count.ensures }

pub loop-i-preserved : goal.loop-i-preserved
loop-i-preserved c =
    let d = c.call_at-called in
    let w = c.write_reply in
    replaying_next (call_outcome d.result d.new.volume d.new.scratch) w.new.answers c.loop-i.invariant c.loop-i-test.true (omega (arith, c.call_count-count.ensures)) d.auto.scratch w.auto.answers d.ensures w.ensures

pub returns : goal.returns
returns c =
    let a = c.args in
    let e = replaying_all c.loop-i.invariant (omega arith) in
    record { answers_after = e; by_index = λ μ s m started. e ∙ replay_modelled μ s m a.job a.script.now a.volume.now a.scratch.now a.answers.now started }
