-- The sum and the difference of the two reals of a pair.
use mathlib.Core.Path.{◌∙◌, sym, ap}
use Rattle.numbers.specs.Value.{value_of, pair_of}
use Rattle.numbers.proofs.Values.{pair_path}
use Rattle.fold_formulas.proofs.hermitian.Forms.{sum_difference_parts}
use Rattle.fold_formulas.proofs.hermitian.sum_and_difference.Goals as goal

pub returns : goal.returns
unfolding value_of pair_of
returns c = pair_path c.add.ensures c.sub.ensures ∙ ap pair_of (sym (sum_difference_parts _ _))
