-- The pair is read, and multiplied by -i where the line is antihermitian.
use mathlib.Core.Path.{◌∙◌, sym, ap}
use Rattle.numbers.specs.Value.{pair_of}
use Rattle.numbers.proofs.Values.{value_by}
use Rattle.fold_formulas.specs.FoldFormulas.{to_hermitian_value}
use Rattle.slices.proofs.Bounds.{small_of}
use Rattle.slices.proofs.Values.{read_value}
use Rattle.folds.proofs.hermitian.Forms.{hermitian_zero, hermitian_more}
use Rattle.folds.proofs.hermitian.before.hermitian_at.Goals as goal

pub to_hermitian-requires : goal.to_hermitian-requires
to_hermitian-requires c = (c.requires.modulus.0, small_of _ _ c.get-v.ensures c.requires.below)

pub returns-then-t-eq0 : goal.returns-then-t-eq0
returns-then-t-eq0 c =
    read_value _ _ _ c.get-v.ensures c.requires.below ∙ ap pair_of (sym (hermitian_zero _ _ c.args.anti c.if-t-eq0.true))

pub returns-else-t-eq0 : goal.returns-else-t-eq0
returns-else-t-eq0 c =
    c.to_hermitian.ensures
    ∙ ap pair_of
    (ap (to_hermitian_value c.args.m c.args.anti) (value_by c.args.m _ (read_value c.args.m _ _ c.get-v.ensures c.requires.below))
    ∙ sym (hermitian_more _ _ c.args.anti c.args.t c.if-t-eq0.false))
