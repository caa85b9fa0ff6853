-- Both comparisons; the modulus is the prime.
use borrow.Author.Rules.{rules}
use mathlib.Core.Bool.{◌&&◌}
use lib.Dec.{ltb}
use Rattle.job.proofs.check.record.residues.Statement.{statement}
use Rattle.job.proofs.check.record.residues.Tie as tie

modulus-bound-requires : tie.Need-modulus-bound-requires
modulus-bound-requires c κs = search rules

returns : tie.Need-returns
returns c =
    let a = c.before.args in
    let e = c.modulus-bound.ensures.0 in
    λ i. ltb a.a (e i) && ltb a.b (e i)

pub residues_spec : {M : Type 1} → statement M
residues_spec = tie.close (tie.spec modulus-bound-requires returns)
