-- Pair 0 of the line comes of pair 0 alone, each other of the pairs t and A - t.
use Rattle.std.proofs.Common.{◌∙◌, sym, ap}
use Rattle.numbers.specs.Value.{field, i, real, value_of, pair_of}
use Rattle.numbers.specs.Bounds.{res}
use Rattle.numbers.proofs.Values.{small_by, value_by}
use Rattle.slices.proofs.Bounds.{small_of}
use Rattle.slices.proofs.Values.{read_value}
use Rattle.fold_formulas.proofs.hermitian.Forms.{unfold_pair}
use Rattle.folds.proofs.hermitian.Forms.{back_first, back_kept, back_rotated, unfold_by_zero, unfold_by, line_root_lem}
use Rattle.folds.proofs.hermitian.after.unfold_at.Goals as goal

pub sum_and_difference-requires : goal.sum_and_difference-requires
sum_and_difference-requires c = (c.requires.frame.0.modulus, small_of _ _ c.get-x.ensures c.requires.below)

pub scaled-requires : goal.scaled-requires
scaled-requires c = (c.requires.frame.0.modulus, c.requires.frame.1, small_by c.args.m _ c.sum_and_difference.ensures)

pub conjugate-y-requires : goal.conjugate-y-requires
conjugate-y-requires c = (c.requires.frame.0.modulus, small_of _ _ c.get.ensures c.requires.below)

pub unfold_pair-requires : goal.unfold_pair-requires
unfold_pair-requires c =
    let m = c.args.m in
    let f = c.requires.frame in
    (f.0.modulus, small_by m _ (c.root_at.ensures ∙ line_root_lem m _ _ _ f.0 f.2 f.3), small_of _ _ c.get-x.ensures c.requires.below, small_by m _ c.conjugate-y.ensures)

pub scaled-v-requires : goal.scaled-v-requires
scaled-v-requires c =
    let m = c.args.m in
    (c.requires.frame.0.modulus, c.requires.frame.1, small_by m (unfold_pair m 0 (value_of m c.root_at.result) (value_of m c.get-x.result) (value_of m c.conjugate-y.result)) (c.unfold_pair.ensures 0))

pub times_i-requires : goal.times_i-requires
times_i-requires c =
    let m = c.args.m in
    (c.requires.frame.0.modulus, small_by m ((field m).mul (real m (res m c.args.c)) (value_of m c.unfold_pair.result)) c.scaled-v.ensures)

pub returns-then-t-eq0 : goal.returns-then-t-eq0
returns-then-t-eq0 c =
    unfold_by_zero _ c.args.a _ _ _ c.if-t-eq0.true (read_value _ _ _ c.get-x.ensures c.requires.below) c.sum_and_difference.ensures c.scaled.ensures
    ∙ ap pair_of (sym (back_first _ _ c.args.anti c.if-t-eq0.true))

pub returns-then-anti : goal.returns-then-anti
returns-then-anti c =
    let m = c.args.m in
    let f = c.requires.frame in
    let apart = unfold_by _ c.args.a _ _ _ c.if-t-eq0.false (c.root_at.ensures ∙ line_root_lem _ _ _ _ f.0 f.2 f.3)
    (read_value _ _ _ c.get-x.ensures c.requires.below) (read_value _ _ _ c.get.ensures c.requires.below) c.conjugate-y.ensures (c.unfold_pair.ensures c.args.a) c.scaled-v.ensures in
    c.times_i.ensures ∙ ap pair_of (ap ((field m).mul (i m)) (value_by m _ apart) ∙ sym (back_rotated m _ _ c.if-anti.true c.if-t-eq0.false))

pub returns-else-anti : goal.returns-else-anti
returns-else-anti c =
    let f = c.requires.frame in
    unfold_by _ c.args.a _ _ _ c.if-t-eq0.false (c.root_at.ensures ∙ line_root_lem _ _ _ _ f.0 f.2 f.3)
    (read_value _ _ _ c.get-x.ensures c.requires.below) (read_value _ _ _ c.get.ensures c.requires.below) c.conjugate-y.ensures (c.unfold_pair.ensures c.args.a) c.scaled-v.ensures
    ∙ ap pair_of (sym (back_kept _ _ _ c.if-anti.false))
