-- One half is a real factor, so it goes by parts.
use mathlib.Core.Path.{sym, ◌∙◌, ap}
use Rattle.numbers.specs.Value.{value_of, pair_of}
use Rattle.numbers.proofs.Values.{pair_path, real_times}
use Rattle.numbers.proofs.halved.Goals as goal

pub returns : goal.returns
unfolding value_of pair_of
returns c = pair_path c.halve.ensures c.halve-2.ensures ∙ ap pair_of (sym (real_times _ _ _))
