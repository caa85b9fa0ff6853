-- The imaginary part changes its sign.
use mathlib.Core.Path.{sym}
use Rattle.algebra.specs.ring.Ring.{conj}
use Rattle.numbers.specs.Value.{value_of, pair_of}
use Rattle.numbers.proofs.Residues.{val_res}
use Rattle.numbers.proofs.Values.{pair_path}
use Rattle.numbers.proofs.conjugate.Goals as goal

pub returns : goal.returns
unfolding conj value_of pair_of
returns c = pair_path (sym (val_res _ c.requires.1.re)) c.neg.ensures
