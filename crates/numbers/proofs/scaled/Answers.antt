-- A real factor goes by parts.
use mathlib.Core.Path.{sym, ◌∙◌, ap}
use Rattle.numbers.specs.Value.{value_of, pair_of}
use Rattle.numbers.proofs.Values.{pair_path, real_times}
use Rattle.numbers.proofs.scaled.Goals as goal

pub returns : goal.returns
unfolding value_of pair_of
returns c = pair_path c.mul.ensures c.mul-2.ensures ∙ ap pair_of (sym (real_times _ _ _))
