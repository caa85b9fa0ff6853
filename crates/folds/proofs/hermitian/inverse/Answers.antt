-- The line is copied, transformed, unfolded and divided by N.
use Rattle.std.proofs.Common.{◌∙◌, ◌/◌, sym, subst}
use Rattle.algebra.specs.ring.Ring.{pow, dft}
use Rattle.numbers.specs.Value.{prime, field}
use Rattle.roots.specs.Table.{table_root}
use Rattle.slices.specs.Pairs.{Below, values_of}
use Rattle.slices.proofs.Pairs.{fills_whole}
use Rattle.slices.proofs.Values.{below_of}
use Rattle.fold_formulas.specs.FoldFormulas.{tangent}
use Rattle.folds.proofs.HermitianLine.{back_list}
use Rattle.folds.proofs.hermitian.inverse.Goals as goal

pub transform-requires-clause-below : goal.transform-requires-clause-below
transform-requires-clause-below c =
    let p = c.requires.line_len in
    subst (Below (prime c.args.m)) (sym (c.copy.ensures ∙ fills_whole c.args.a c.args.line.now c.args.fold.now p.0 p.1)) c.requires.below

pub unfold-requires-clause-below : goal.unfold-requires-clause-below
unfold-requires-clause-below c =
    let s = c.args in
    below_of s.m s.a (dft (field s.m) s.a (pow (field s.m) (table_root s.m s.re.now s.im.now) (2880 / s.a)) (values_of s.m c.copy.new.dst)) c.transform.ensures.line_after

pub returns : goal.returns
returns c =
    let s = c.args in
    let p = c.requires.line_len in
    λ tan. back_list s.m s.a c.requires.frame.0 s.anti (c.copy.ensures ∙ fills_whole s.a s.line.now s.fold.now p.0 p.1) c.transform.ensures.line_after c.share-c.ensures.0 c.«unfold».ensures
    (λ k. (field s.m).neg (tangent s.m s.a tan k))
