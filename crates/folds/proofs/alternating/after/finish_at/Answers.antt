-- The place 0 has its own formula.
use Rattle.numbers.proofs.Values.{small_by}
use Rattle.slices.proofs.Bounds.{small_of}
use Rattle.folds.proofs.alternating.after.Passes.{finish_first, finish_rest}
use Rattle.folds.proofs.alternating.after.finish_at.Goals as goal

pub add-requires : goal.add-requires
add-requires c =
    (c.requires.modulus.0, (small_of c.args.fold.now _ c.get-v.ensures c.requires.fold_len.1).re, c.requires.modulus.2)

pub scaled-b-requires : goal.scaled-b-requires
scaled-b-requires c =
    (c.requires.modulus.0, (small_of c.args.fold.now _ c.get-v.ensures c.requires.fold_len.1).im, c.angle.ensures.0)

pub add-requires-else-s-eq0 : goal.add-requires-else-s-eq0
add-requires-else-s-eq0 c =
    (c.requires.modulus.0, (small_of c.args.fold.now _ c.get-v.ensures c.requires.fold_len.1).re, (small_by c.args.m _ c.scaled-b.ensures).re)

pub returns-then-s-eq0 : goal.returns-then-s-eq0
returns-then-s-eq0 c =
    finish_first c.args.m c.args.a c.args.tan.now c.args.fold.now c.args.odd c.args.s c.if-s-eq0.true c.get-v.ensures c.requires.modulus.2 c.add.ensures

pub returns-else-s-eq0 : goal.returns-else-s-eq0
returns-else-s-eq0 c =
    finish_rest c.args.m c.args.a c.args.tan.now c.args.fold.now c.args.odd c.args.s _ c.if-s-eq0.false c.get-v.ensures
    c.angle.ensures.1 c.angle.ensures.2 c.scaled-b.ensures c.add-else-s-eq0.ensures
