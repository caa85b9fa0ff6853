-- The sum of two places of the line.
use Rattle.algebra.specs.lines.Folds.{mirror_point}
use Rattle.numbers.specs.Value.{field}
use Rattle.numbers.proofs.Values.{small_by}
use Rattle.folds.proofs.mirror.before.Forms.{by_values}
use Rattle.folds.proofs.mirror.before.short_at.Goals as goal

pub sum-requires : goal.sum-requires
sum-requires c =
    (c.requires.modulus.0, small_by _ _ c.value_at-even.ensures, small_by _ _ c.value_at-odd.ensures)

pub returns : goal.returns
unfolding mirror_point
returns c = by_values _ (field _).add _ _ c.sum.ensures c.value_at-even.ensures c.value_at-odd.ensures
