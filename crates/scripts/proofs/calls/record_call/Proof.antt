-- The job's own call on the numbers, its answer said as numbers.
use Rattle.scripts.proofs.calls.Calls.{call_record}
use borrow.Author.Rules.{rules}
use Rattle.scripts.proofs.calls.record_call.Statement.{statement}
use Rattle.scripts.proofs.calls.record_call.Tie as tie

record-requires : tie.Need-record-requires
record-requires c κs = search rules

of_answered-requires : tie.Need-of_answered-requires
of_answered-requires c κs = search rules

shape_of-volume : tie.Need-shape_of-volume
shape_of-volume c = c.«record».auto.volume

returns : tie.Need-returns
returns c =
    let w = c.«record» in
    let a = c.args in
    λ s. call_record a.job a.volume.now c.of_answered.result w.result _ c.of_answered.ensures.0 c.of_answered.ensures.1 s a.n c.requires w.ensures

pub record_call_spec : {M : Type 1} → statement M
record_call_spec = tie.close (tie.spec record-requires of_answered-requires shape_of-volume returns)
