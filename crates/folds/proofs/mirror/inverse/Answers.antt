-- `mirror::inverse`: the way forward with what is lent, and each pair scaled.
use mathlib.Core.Path.{◌∙◌}
use Rattle.algebra.specs.lines.Kinds.{slots}
use Rattle.slices.proofs.Values.{below_of}
use Rattle.fold_formulas.proofs.Frames.{half_most}
use Rattle.folds.specs.FoldedLines.{mirror_kind}
use Rattle.folds.proofs.MirrorLine.{forward_of, stored_length, back_list}
use Rattle.folds.proofs.mirror.inverse.Goals as goal

pub share-c-requires : goal.share-c-requires
share-c-requires c = let f = c.requires.frame.0 in (f.modulus, f.positive, half_most f)

pub scale-requires : goal.scale-requires
scale-requires c =
    let m = c.args.m in
    let a = c.args.a in
    let first = c.args.first in
    let g = forward_of m a first c.args.re.now c.args.im.now c.args.tan.now c.args.line.now c.requires.frame.0 c.requires.frame.3 in
    record { modulus = (c.requires.frame.0.modulus, c.share-c.ensures.1); line_len = stored_length a first c.requires.frame.3 (c.forward.auto.line ∙ c.requires.line_len.0); below = below_of m (slots (mirror_kind first) a) g c.forward.ensures }

pub returns : goal.returns
returns c =
    back_list c.args.m c.args.a c.args.first c.args.re.now c.args.im.now c.args.tan.now c.args.line.now c.requires.frame.0 c.requires.frame.3 c.forward.ensures c.share-c.ensures.0 c.scale.ensures
