-- One sign after the other, then the conjugate.
use mathlib.Core.Path.{◌∙◌, ap}
use Rattle.algebra.specs.cells.Cell.{star, implied_value}
use Rattle.numbers.specs.Value.{conj, pair_of}
use Rattle.numbers.proofs.Values.{small_by, value_by}
use Rattle.cell.proofs.OperationLaws.{signed_thrice}
use Rattle.cell.proofs.operations.implied.Goals as goal

pub signed-requires-2 : goal.signed-requires-2
signed-requires-2 c = (c.requires.0, small_by _ _ c.signed.ensures)

pub signed-y-requires : goal.signed-y-requires
signed-y-requires c = (c.requires.0, small_by _ _ c.signed-2.ensures)

pub conjugate-requires : goal.conjugate-requires
conjugate-requires c = (c.requires.0, small_by _ _ c.signed-y.ensures)

pub returns-then-o : goal.returns-then-o
unfolding implied_value star
returns-then-o c =
    let e = signed_thrice _ _ _ _ _ c.signed.ensures c.signed-2.ensures c.signed-y.ensures in
    rw c.if-o.true (c.conjugate.ensures ∙ ap (λ z. pair_of (conj c.args.m z)) (value_by _ _ e))

pub returns-else-o : goal.returns-else-o
unfolding implied_value star
returns-else-o c =
    rw c.if-o.false (signed_thrice _ _ _ _ _ c.signed.ensures c.signed-2.ensures c.signed-y.ensures)
