-- Pair 0 of the short line comes of pair 0 alone, each other of the pairs t and A - t.
use Rattle.std.proofs.Common.{◌∙◌}
use Rattle.numbers.proofs.Values.{small_by}
use Rattle.folds.proofs.hermitian.Forms.{fold_by_zero, fold_by, line_root_lem}
use Rattle.folds.proofs.hermitian.before.short_at.Goals as goal

pub sum_and_difference-requires : goal.sum_and_difference-requires
sum_and_difference-requires c = (c.requires.frame.0.modulus, small_by c.args.m _ c.hermitian_at-x.ensures)

pub conjugate-y-requires : goal.conjugate-y-requires
conjugate-y-requires c = (c.requires.frame.0.modulus, small_by c.args.m _ c.hermitian_at.ensures)

pub fold_pair-requires : goal.fold_pair-requires
fold_pair-requires c =
    let m = c.args.m in
    let f = c.requires.frame in
    (f.0.modulus, small_by m _ (c.root_at.ensures ∙ line_root_lem m _ _ _ f.0 f.1 f.2), small_by m _ c.hermitian_at-x.ensures, small_by m _ c.conjugate-y.ensures)

pub returns-then-t-eq0 : goal.returns-then-t-eq0
returns-then-t-eq0 c = fold_by_zero _ _ _ _ c.if-t-eq0.true c.hermitian_at-x.ensures c.sum_and_difference.ensures

pub returns-else-t-eq0 : goal.returns-else-t-eq0
returns-else-t-eq0 c =
    let f = c.requires.frame in
    fold_by _ c.args.a _ _ c.if-t-eq0.false (c.root_at.ensures ∙ line_root_lem _ _ _ _ f.0 f.1 f.2) c.hermitian_at-x.ensures c.hermitian_at.ensures c.conjugate-y.ensures
    (c.fold_pair.ensures c.args.a)
