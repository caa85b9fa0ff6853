-- The pass before, the plain transform with the lent root, the pass after.
use Prim.Native.Nat.{◌*◌, ◌/◌}
use native.Mathlib.Omega.{arith}
use Rattle.algebra.specs.ring.Ring.{pow, dft}
use Rattle.algebra.specs.lines.Folds.{alternating_spectrum}
use Rattle.numbers.specs.Value.{field, part, on_values}
use Rattle.roots.specs.Table.{table_root}
use Rattle.slices.specs.Pairs.{values_of}
use Rattle.fold_formulas.specs.FoldFormulas.{tangent}
use Rattle.slices.proofs.Values.{length_of_lem, below_of}
use Rattle.fold_formulas.proofs.Frames.{half_most, half_divides}
use Rattle.folds.proofs.AlternatingLine.{back_by}
use Rattle.folds.proofs.alternating.inverse.Goals as goal

pub share-share-requires : goal.share-share-requires
share-share-requires c = let f = c.requires.frame.0 in (f.modulus, f.positive, half_most f)

pub twice_sum-twice-requires-clause-in_bounds : goal.twice_sum-twice-requires-clause-in_bounds
twice_sum-twice-requires-clause-in_bounds c =
    (omega (arith, c.requires.frame.0.positive, c.requires.line_len.0), c.requires.line_len.1)

pub transform-requires-clause-factored : goal.transform-requires-clause-factored
transform-requires-clause-factored c = (c.requires.frame.2, half_divides c.requires.frame.0)

pub transform-requires-clause-below : goal.transform-requires-clause-below
transform-requires-clause-below c =
    let m = c.args.m in
    let a = c.args.a in
    let g = on_values m alternating_spectrum a (λ k. (field m).neg (tangent m a c.args.tan.now k)) (values_of m c.args.line.now) in
    below_of m a g c.inverse_short_line.ensures

pub pack-requires-clause-fold_len : goal.pack-requires-clause-fold_len
pack-requires-clause-fold_len c =
    let m = c.args.m in
    let a = c.args.a in
    let g = dft (field m) a (pow (field m) (table_root m c.args.re.now c.args.im.now) (2880 / a)) (values_of m c.inverse_short_line.new.fold) in
    (length_of_lem m a g c.transform.ensures.line_after, below_of m a g c.transform.ensures.line_after)

pub returns : goal.returns
returns c =
    let f = c.requires.frame.0 in
    back_by c.args.m c.args.a f (λ k. (field c.args.m).neg (tangent c.args.m c.args.a c.args.tan.now k)) (values_of c.args.m c.args.line.now)
    (part c.args.m (2 * c.args.a)) c.pack.ensures c.share-share.ensures.0 (c.twice_sum-twice.ensures.1 c.args.a) c.inverse_short_line.ensures c.transform.ensures.line_after
