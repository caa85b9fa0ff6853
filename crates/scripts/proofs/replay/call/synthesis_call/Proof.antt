-- The job's own call, its answer said as numbers.
use Rattle.scripts.proofs.calls.Calls.{call_synthesis}
use borrow.Author.Rules.{rules}
use Rattle.scripts.proofs.replay.call.synthesis_call.Statement.{statement}
use Rattle.scripts.proofs.replay.call.synthesis_call.Tie as tie

synthesis-requires : tie.Need-synthesis-requires
synthesis-requires c κs = search rules

of_answered-requires : tie.Need-of_answered-requires
of_answered-requires c κs = search rules

shape_of-volume : tie.Need-shape_of-volume
shape_of-volume c = c.synthesis.auto.volume

shape_of-scratch : tie.Need-shape_of-scratch
shape_of-scratch c = c.synthesis.auto.scratch

returns : tie.Need-returns
returns c =
    let w = c.synthesis in
    let a = c.args in
    call_synthesis a.job a.volume.now c.of_answered.result w.result _ c.of_answered.ensures.0 c.of_answered.ensures.1 a.scratch.now _ w.ensures

pub synthesis_call_spec : {M : Type 1} → statement M
synthesis_call_spec =
    tie.close (tie.spec synthesis-requires of_answered-requires shape_of-volume shape_of-scratch returns)
