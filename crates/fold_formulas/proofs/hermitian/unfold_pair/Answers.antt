-- One value of the line from two of the short line, operation by operation.
use Rattle.numbers.proofs.Values.{small_by}
use Rattle.fold_formulas.proofs.hermitian.Forms.{unfold_pair_by}
use Rattle.fold_formulas.proofs.hermitian.unfold_pair.Goals as goal

pub times_i-rotated-requires : goal.times_i-rotated-requires
times_i-rotated-requires c = (c.requires.0, small_by _ _ c.difference.ensures)

pub plus_product-requires : goal.plus_product-requires
plus_product-requires c = let p = c.requires in (p.0, p.2, p.3, p.1, small_by _ _ c.times_i-rotated.ensures)

pub halved-requires : goal.halved-requires
halved-requires c = (c.requires.0, small_by _ _ c.plus_product.ensures)

pub returns : goal.returns
returns c A = unfold_pair_by _ A _ _ _ c.difference.ensures c.times_i-rotated.ensures c.plus_product.ensures c.halved.ensures
