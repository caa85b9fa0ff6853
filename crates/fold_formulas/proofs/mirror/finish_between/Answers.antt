-- The sum and the difference change places with the sign of the line.
use Rattle.numbers.specs.Value.{value_of}
use Rattle.numbers.proofs.Values.{small_by}
use Rattle.fold_formulas.proofs.mirror.Forms.{between_symmetric, between_antisymmetric}
use Rattle.fold_formulas.proofs.mirror.finish_between.Goals as goal

pub half_sum-requires : goal.half_sum-requires
half_sum-requires c = (c.requires.0, c.requires.2, c.requires.3, c.requires.4, small_by _ _ c.difference-apart.ensures)

pub half_sum-requires-else-first-eq0 : goal.half_sum-requires-else-first-eq0
half_sum-requires-else-first-eq0 c = (c.requires.0, c.requires.2, c.requires.3, small_by _ _ c.negated.ensures, small_by _ _ c.sum-both.ensures)

pub returns-then-first-eq0 : goal.returns-then-first-eq0
returns-then-first-eq0 c =
    let s = c.args in
    between_symmetric s.m s.tau s.first (value_of s.m s.y) (value_of s.m s.z) c.difference-apart.ensures c.if-first-eq0.true c.half_sum.ensures

pub returns-else-first-eq0 : goal.returns-else-first-eq0
returns-else-first-eq0 c =
    let a = c.args in
    between_antisymmetric a.m a.tau a.first (value_of a.m a.y) (value_of a.m a.z) c.sum-both.ensures c.negated.ensures c.requires.1 c.if-first-eq0.false c.half_sum-else-first-eq0.ensures
