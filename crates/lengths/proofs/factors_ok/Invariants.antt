-- What is left of the list decides, as long as every number so far is a factor.
use mathlib.Core.Path.{◌≡◌}
use lib.ListN.{drop}
use Rattle.lengths.specs.Lengths.{factors_ok}
use Rattle.lengths.proofs.factors_ok.Given as goal

abbrev pub invariant-loop-factor : goal.invariant-loop-factor
invariant-loop-factor l = factors_ok (drop l.factor-index l.factors) ≡ factors_ok l.factors
