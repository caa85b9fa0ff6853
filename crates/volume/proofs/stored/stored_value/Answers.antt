-- The value of the line's own numbers, over i where the line is rotated.
use mathlib.Core.Path.{◌∙◌, ap}
use Rattle.numbers.specs.Value.{pair_of}
use Rattle.numbers.proofs.Values.{small_by, value_by}
use Rattle.cell.specs.Operations.{cell_group}
use Rattle.cell.specs.Volume.{rotated, over_i, line_in}
use Rattle.volume.proofs.stored.stored_value.Goals as goal

pub without_i-requires : goal.without_i-requires
without_i-requires c =
    (c.requires.modulus.0, small_by _ _ (c.stored_factor.ensures c.args.m c.requires.j_value), c.requires.modulus.1.sizes.known)

pub returns : goal.returns
unfolding line_in
returns c =
    let a = c.args in
    c.without_i.ensures ∙ ap (λ z. pair_of (over_i a.m (rotated (cell_group a.cell) a.j.h) z)) (value_by a.m _ (c.stored_factor.ensures a.m c.requires.j_value))
