-- The place 0 has its own formula.
use Rattle.slices.proofs.Bounds.{small_of}
use Rattle.folds.proofs.alternating.after.Back.{inverse_short_first, inverse_short_rest}
use Rattle.folds.proofs.alternating.after.inverse_short_at.Goals as goal

pub mul-along-requires : goal.mul-along-requires
mul-along-requires c =
    (c.requires.modulus.0, (small_of c.args.line.now _ c.get-z.ensures c.requires.line_len.1).re, c.angle-of.ensures.0.re)

pub mul-up-requires : goal.mul-up-requires
mul-up-requires c =
    (c.requires.modulus.0, (small_of c.args.line.now _ c.get-z.ensures c.requires.line_len.1).im, c.angle-of.ensures.0.im)

pub returns-then-s-eq0 : goal.returns-then-s-eq0
returns-then-s-eq0 c =
    inverse_short_first c.args.m c.args.a c.args.tan.now c.args.line.now c.args.s c.if-s-eq0.true c.get-z.ensures c.requires.line_len.1

pub returns-else-s-eq0 : goal.returns-else-s-eq0
returns-else-s-eq0 c =
    inverse_short_rest c.args.m c.args.a c.args.tan.now c.args.line.now c.args.s _ _ c.if-s-eq0.false c.get-z.ensures c.requires.line_len.1
    c.angle-of.ensures.1 c.angle-of.ensures.2 c.mul-along.ensures c.mul-up.ensures c.add.ensures c.neg.ensures
