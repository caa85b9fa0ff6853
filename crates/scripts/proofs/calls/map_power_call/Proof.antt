-- The job's own call, its answer said as numbers.
use mathlib.Core.Path.{refl}
use Rattle.job.specs.Answers.{said_power}
use Rattle.scripts.proofs.calls.Calls.{call_map_power}
use borrow.Author.Rules.{rules}
use Rattle.scripts.proofs.calls.map_power_call.Statement.{statement}
use Rattle.scripts.proofs.calls.map_power_call.Tie as tie

map_power-requires : tie.Need-map_power-requires
map_power-requires c κs = search rules

of_power-requires : tie.Need-of_power-requires
of_power-requires c κs = search rules

returns : tie.Need-returns
returns c =
    let w = c.before.map_power in
    let b = c.before.before.before in
    let a = b.args in
    λ s. call_map_power a.job a.volume.now (record { reply = c.of_power.result; job = a.job }) (said_power w.result) c.of_power.ensures refl s a.n b.requires w.ensures

pub map_power_call_spec : {M : Type 1} → statement M
map_power_call_spec = tie.close (tie.spec map_power-requires of_power-requires returns)
