-- Minus i times.
use mathlib.Core.Path.{sym, ◌∙◌, ap}
use Rattle.algebra.proofs.ring.Laws.{neg_mul}
use Rattle.numbers.specs.Value.{field, i, value_of, pair_of}
use Rattle.numbers.proofs.Values.{small_by, value_by, field_ring}
use Rattle.numbers.proofs.over_i.Goals as goal

pub negated-requires : goal.negated-requires
negated-requires c = (c.requires.0, small_by _ _ c.times_i.ensures)

pub returns : goal.returns
returns c =
    let z = c.args in
    c.negated.ensures ∙ ap (λ w. pair_of ((field z.m).neg w)) (value_by z.m _ c.times_i.ensures) ∙ ap pair_of (sym (neg_mul (field_ring z.m) (i z.m) (value_of z.m z.a)))
