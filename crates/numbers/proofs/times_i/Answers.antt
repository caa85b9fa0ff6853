-- i (a + b i) is -b + a i.
use mathlib.Core.Path.{sym, ◌∙◌, ap}
use Rattle.numbers.specs.Value.{value_of, pair_of}
use Rattle.numbers.proofs.Residues.{val_res}
use Rattle.numbers.proofs.Values.{pair_path, i_times}
use Rattle.numbers.proofs.times_i.Goals as goal

pub returns : goal.returns
unfolding value_of pair_of
returns c = pair_path c.neg.ensures (sym (val_res _ c.requires.1.re)) ∙ ap pair_of (sym (i_times _ _))
