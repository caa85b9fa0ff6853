-- The loop goes by `Replaying`.
use Rattle.scripts.specs.Script.{replay_step}
use Rattle.scripts.proofs.replay.Replaying.{Replaying}
use Rattle.scripts.proofs.replay.replay.Given as goal

abbrev pub invariant-loop-i : goal.invariant-loop-i
invariant-loop-i l =
    Replaying l.script l.initial.scratch l.initial.answers l.count (replay_step l.initial.held l.script l.initial.volume l.initial.scratch l.initial.answers) l.i l.held l.volume l.scratch l.answers
