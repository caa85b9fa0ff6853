-- Two values of the line folded to one, operation by operation.
use Rattle.numbers.proofs.Values.{small_by}
use Rattle.fold_formulas.proofs.hermitian.Forms.{fold_pair_by}
use Rattle.fold_formulas.proofs.hermitian.fold_pair.Goals as goal

pub times_i-rotated-requires : goal.times_i-rotated-requires
times_i-rotated-requires c = (c.requires.0, small_by _ _ c.difference.ensures)

pub plus_product-requires : goal.plus_product-requires
plus_product-requires c = let p = c.requires in (p.0, p.2, p.3, p.1, small_by _ _ c.times_i-rotated.ensures)

pub returns : goal.returns
returns c A = fold_pair_by _ A _ _ _ c.difference.ensures c.times_i-rotated.ensures c.plus_product.ensures
