-- The short line is made, transformed and copied back.
use Rattle.std.proofs.Common.{◌∙◌, ◌*◌, ◌/◌}
use Rattle.algebra.specs.ring.Ring.{pow, dft}
use Rattle.numbers.specs.Value.{field, real, part}
use Rattle.roots.specs.Table.{table_root}
use Rattle.slices.specs.Pairs.{values_of}
use Rattle.slices.proofs.Pairs.{fills_whole}
use Rattle.slices.proofs.Values.{length_of_lem, below_of}
use Rattle.fold_formulas.specs.FoldFormulas.{line_root, tangent}
use Rattle.folds.specs.FoldedLines.{to_hermitian}
use Rattle.folds.proofs.hermitian.Forms.{fold_of}
use Rattle.folds.proofs.HermitianLine.{forward_list}
use Rattle.folds.proofs.hermitian.forward.Goals as goal

pub transform-requires-clause-below : goal.transform-requires-clause-below
transform-requires-clause-below c =
    let s = c.args in
    below_of s.m s.a (fold_of s.m s.a (line_root s.m s.a s.re.now s.im.now) (to_hermitian s.m s.anti (values_of s.m s.line.now))) c.short_line.ensures

pub returns : goal.returns
returns c =
    let s = c.args in
    let m = s.m in
    let g = dft (field m) s.a (pow (field m) (table_root m s.re.now s.im.now) (2880 / s.a)) (values_of m c.short_line.new.out) in
    λ tan. c.copy.ensures
    ∙ fills_whole s.a c.transform.new.line s.line.now (length_of_lem m s.a g c.transform.ensures.line_after) c.requires.line_len.0
    ∙ forward_list m s.a c.requires.frame.0 s.anti (values_of m s.line.now) c.short_line.ensures c.transform.ensures.line_after (real m (part m (2 * s.a))) (tangent m s.a tan)
