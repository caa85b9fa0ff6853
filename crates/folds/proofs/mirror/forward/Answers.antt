-- `mirror::forward`: the sum of the odd places, the pass before, the short transform, the pass after.
use Prim.Native.Nat.{◌+◌, ◌*◌, ◌/◌}
use Rattle.algebra.specs.ring.Ring.{pow, sum, dft}
use Rattle.algebra.specs.lines.Folds.{mirror_point}
use Rattle.numbers.specs.Value.{field}
use Rattle.roots.specs.Table.{table_root}
use Rattle.numbers.proofs.Values.{small_by}
use Rattle.slices.specs.Pairs.{values_of}
use Rattle.slices.proofs.Values.{length_of_lem, below_of}
use Rattle.fold_formulas.proofs.Frames.{half_most, half_divides}
use Rattle.folds.specs.FoldedLines.{whole_line}
use Rattle.folds.proofs.MirrorLine.{stored_length, forward_list}
use Rattle.folds.proofs.mirror.forward.Goals as goal

pub odd_sum-odds-requires : goal.odd_sum-odds-requires
odd_sum-odds-requires c =
    let f = c.requires.frame.0 in
    record { modulus = (f.modulus, c.requires.frame.3, f.positive, half_most f); line_len = stored_length c.args.a c.args.first c.requires.frame.3 c.requires.line_len.0; below = c.requires.below }

pub short_line-requires-clause-line_len : goal.short_line-requires-clause-line_len
short_line-requires-clause-line_len c =
    (stored_length c.args.a c.args.first c.requires.frame.3 c.requires.line_len.0, c.requires.line_len.1)

pub transform-requires-clause-factored : goal.transform-requires-clause-factored
transform-requires-clause-factored c = (c.requires.frame.2, half_divides c.requires.frame.0)

pub transform-requires-clause-below : goal.transform-requires-clause-below
transform-requires-clause-below c =
    let m = c.args.m in
    let a = c.args.a in
    let g = mirror_point (field m) (whole_line m a c.args.first c.args.line.now) in
    below_of m a g c.short_line.ensures

pub finish-requires : goal.finish-requires
finish-requires c =
    let m = c.args.m in
    let a = c.args.a in
    let f = c.requires.frame.0 in
    let g = dft (field m) a (pow (field m) (table_root m c.args.re.now c.args.im.now) (2880 / a)) (values_of m c.short_line.new.fold) in
    record {
      modulus = (f.modulus, c.requires.frame.1, c.requires.frame.3, small_by m (sum (field m) a (λ t. whole_line m a c.args.first c.args.line.now (2 * t + 1))) c.odd_sum-odds.ensures);
      a_nonzero = (f.positive, f.divides);
      fold_len = (length_of_lem m a g c.transform.ensures.line_after, stored_length a c.args.first c.requires.frame.3 c.requires.line_len.0);
      below = below_of m a g c.transform.ensures.line_after;
    }

pub returns : goal.returns
returns c =
    forward_list c.args.m c.args.a c.args.first c.args.re.now c.args.im.now c.args.tan.now c.args.line.now c.requires.frame.0 c.requires.frame.3 c.short_line.ensures c.transform.ensures.line_after c.odd_sum-odds.ensures c.finish.ensures
