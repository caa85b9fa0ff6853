-- A value of an antihermitian line is multiplied by -i.
use Rattle.numbers.proofs.Values.{small_by}
use Rattle.fold_formulas.proofs.hermitian.Forms.{hermitian_kept, hermitian_rotated}
use Rattle.fold_formulas.proofs.hermitian.to_hermitian.Goals as goal

pub negated-requires : goal.negated-requires
negated-requires c = (c.requires.0, small_by _ _ c.times_i.ensures)

pub returns-then-anti : goal.returns-then-anti
returns-then-anti c = hermitian_rotated _ _ c.if-anti.true c.times_i.ensures c.negated.ensures

pub returns-else-anti : goal.returns-else-anti
returns-else-anti c = hermitian_kept _ c.if-anti.false c.requires.1
