-- The modulus is the prime.
use borrow.Author.Rules.{rules}
use mathlib.Core.Path.{◌∙◌, ap}
use Prim.Native.Nat.{ℕ}
use Rattle.slices.specs.Pairs.{all_below}
use Rattle.job.proofs.check.tests.all_residues.Statement.{statement}
use Rattle.job.proofs.check.tests.all_residues.Tie as tie

modulus-requires : tie.Need-modulus-requires
modulus-requires c κs = search rules

all_below-requires : tie.Need-all_below-requires
all_below-requires c κs = search rules

returns : tie.Need-returns
returns c = c.all_below.ensures ∙ ap (λ (q : ℕ). all_below q c.before.before.before.args.volume.now) c.before.modulus.ensures.0

pub all_residues_spec : {M : Type 1} → statement M
all_residues_spec = tie.close (tie.spec modulus-requires all_below-requires returns)
