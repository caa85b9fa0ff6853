-- With a job of zeros.
use borrow.Author.Rules.{rules}
use mathlib.Core.Path.{ap}
use Rattle.job.specs.declared.Job.{Job}
use Rattle.exported.specs.declared.lanes.TurnCoded.{TurnCoded}
use Rattle.exported.proofs.lanes.unfinished.Statement.{statement}
use Rattle.exported.proofs.lanes.unfinished.Tie as tie

no_job-requires : tie.Need-no_job-requires
no_job-requires c κs = search rules

returns : tie.Need-returns
returns c =
    let a = c.before.args in
    ap {B = TurnCoded} (λ (j : Job). record { number = a.number; lane = a.lane; finished = 0; job = j; scheduler = a.scheduler }) c.no_job.ensures

pub unfinished_spec : {M : Type 1} → statement M
unfinished_spec = tie.close (tie.spec no_job-requires returns)
