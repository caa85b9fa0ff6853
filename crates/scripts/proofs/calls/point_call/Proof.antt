-- The job's own reading at the numbers, its answer said as numbers.
use mathlib.Core.Path.{refl}
use Rattle.job.specs.Answers.{said_point}
use Rattle.scripts.proofs.calls.Calls.{call_point}
use borrow.Author.Rules.{rules}
use Rattle.scripts.proofs.calls.point_call.Statement.{statement}
use Rattle.scripts.proofs.calls.point_call.Tie as tie

point-requires : tie.Need-point-requires
point-requires c κs = search rules

of_point-requires : tie.Need-of_point-requires
of_point-requires c κs = search rules

returns : tie.Need-returns
returns c =
    let w = c.before.point in
    let b = c.before.before.before in
    let a = b.args in
    λ s. call_point a.job a.volume.now (record { reply = c.of_point.result; job = a.job }) (said_point w.result) c.of_point.ensures refl s a.n b.requires w.ensures

pub point_call_spec : {M : Type 1} → statement M
point_call_spec = tie.close (tie.spec point-requires of_point-requires returns)
