-- The pair at its place, over i where the line is rotated.
use mathlib.Core.Path.{◌∙◌, ap}
use native.Mathlib.Omega.{arith}
use Rattle.numbers.specs.Value.{pair_of}
use Rattle.numbers.proofs.Values.{small_by, value_by}
use Rattle.cell.specs.Operations.{cell_group, cell_halves, triple_of}
use Rattle.cell.specs.Volume.{rotated, over_i, line_in}
use Rattle.volume.proofs.stored.Between.{between_inside, between_value}
use Rattle.volume.proofs.stored.between_value.Goals as goal

pub pair_at-requires : goal.pair_at-requires
pair_at-requires c = let p = c.requires.modulus in between_inside p.1 p.2 p.4

pub without_i-requires : goal.without_i-requires
without_i-requires c = let p = c.requires.modulus in (p.0, small_by _ _ (between_value (cell_group c.args.cell) (cell_halves c.args.cell) (omega (arith, p.1.sizes.third.low)) c.args.m c.args.volume.now (triple_of c.args.j) p.3 p.4 p.2.l c.pair_at.ensures c.requires.j_value), p.1.sizes.known)

pub returns : goal.returns
unfolding line_in
returns c =
    let a = c.args in
    let p = c.requires.modulus in
    c.without_i.ensures ∙ ap (λ z. pair_of (over_i a.m (rotated (cell_group a.cell) a.j.h) z)) (value_by a.m _ (between_value (cell_group c.args.cell) (cell_halves c.args.cell) (omega (arith, p.1.sizes.third.low)) c.args.m c.args.volume.now (triple_of c.args.j) p.3 p.4 p.2.l c.pair_at.ensures c.requires.j_value))
