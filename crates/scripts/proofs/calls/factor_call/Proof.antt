-- The job's own reading at the numbers, its answer said as numbers.
use mathlib.Core.Path.{refl}
use Rattle.job.specs.Answers.{said_factor}
use Rattle.scripts.proofs.calls.Calls.{call_factor}
use borrow.Author.Rules.{rules}
use Rattle.scripts.proofs.calls.factor_call.Statement.{statement}
use Rattle.scripts.proofs.calls.factor_call.Tie as tie

factor-requires : tie.Need-factor-requires
factor-requires c κs = search rules

of_factor-requires : tie.Need-of_factor-requires
of_factor-requires c κs = search rules

returns : tie.Need-returns
returns c =
    let w = c.before.factor in
    let b = c.before.before.before in
    let a = b.args in
    λ s. call_factor a.job a.volume.now (record { reply = c.of_factor.result; job = a.job }) (said_factor w.result) c.of_factor.ensures refl s a.n b.requires w.ensures

pub factor_call_spec : {M : Type 1} → statement M
factor_call_spec = tie.close (tie.spec factor-requires of_factor-requires returns)
