-- The pass before, the plain transform, the pass after.
use Prim.Native.Nat.{◌/◌}
use Rattle.algebra.specs.ring.Ring.{pow, dft}
use Rattle.algebra.specs.lines.Packings.{unfold_b3}
use Rattle.algebra.specs.lines.Folds.{alternating_point}
use Rattle.numbers.specs.Value.{field, i, real, on_values}
use Rattle.numbers.specs.Bounds.{res}
use Rattle.roots.specs.Table.{table_root}
use Rattle.slices.specs.Pairs.{values_of}
use Rattle.fold_formulas.specs.FoldFormulas.{tangent}
use Rattle.slices.proofs.Values.{length_of_lem, below_of}
use Rattle.fold_formulas.proofs.Frames.{half_most, half_divides}
use Rattle.folds.proofs.AlternatingLine.{forward_by}
use Rattle.folds.proofs.alternating.forward.Goals as goal

pub odd_imaginary_sum-odd-requires-clause-modulus : goal.odd_imaginary_sum-odd-requires-clause-modulus
odd_imaginary_sum-odd-requires-clause-modulus c =
    (c.requires.frame.0.modulus, half_most c.requires.frame.0)

pub transform-requires-clause-factored : goal.transform-requires-clause-factored
transform-requires-clause-factored c = (c.requires.frame.2, half_divides c.requires.frame.0)

pub transform-requires-clause-below : goal.transform-requires-clause-below
transform-requires-clause-below c =
    let m = c.args.m in
    let a = c.args.a in
    let g = alternating_point (field m) (i m) (on_values m unfold_b3 a (values_of m c.args.line.now)) in
    below_of m a g c.short_line.ensures

pub finish-requires-clause-fold_len : goal.finish-requires-clause-fold_len
finish-requires-clause-fold_len c =
    let m = c.args.m in
    let a = c.args.a in
    let g = dft (field m) a (pow (field m) (table_root m c.args.re.now c.args.im.now) (2880 / a)) (values_of m c.short_line.new.fold) in
    (length_of_lem m a g c.transform.ensures.line_after, below_of m a g c.transform.ensures.line_after)

pub returns : goal.returns
returns c =
    let f = c.requires.frame.0 in
    forward_by c.args.m c.args.a f (tangent c.args.m c.args.a c.args.tan.now) (values_of c.args.m c.args.line.now)
    (real c.args.m (res c.args.m c.odd_imaginary_sum-odd.result)) _
    c.odd_imaginary_sum-odd.ensures.1 c.short_line.ensures c.transform.ensures.line_after c.finish.ensures
