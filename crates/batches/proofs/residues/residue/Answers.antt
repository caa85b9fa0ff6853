-- What is left after the division is below 2 p.
use Rattle.batches.proofs.LastReduction.{reduced_below, reduced_above}
use Rattle.batches.proofs.residues.residue.Goals as goal

pub returns-then-r-p : goal.returns-then-r-p
returns-then-r-p c = λ c₀ is. reduced_below c.args.c c.args.x c.modulus-p.ensures.0 c.scaled-r.ensures is c.if-r-p.true

pub returns-else-r-p : goal.returns-else-r-p
returns-else-r-p c = λ c₀ is. reduced_above c.args.c c.args.x c.modulus-p.ensures.0 c.scaled-r.ensures is c.if-r-p.false
