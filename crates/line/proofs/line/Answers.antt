-- `line`: what the check says is the number of the first test that holds; a refused call has touched nothing, an accepted one has its line transformed and its scratch cleared.
use native.Mathlib.Omega.{arith}
use mathlib.Core.Path.{◌∙◌, ap}
use mathlib.Core.List.{List, ◌++◌}
use Prim.Native.Nat.{ℕ}
use lib.ListN.{length, replicate}
use Rattle.lengths.specs.Lengths.{cleared}
use Rattle.refusals.proofs.Handed.{handed_on}
use Rattle.line.specs.Answers.{line_outcome}
use Rattle.line.proofs.Accepted.{accepted_factors, accepted_line}
use Rattle.line.proofs.Outcome.{refused_outcome, transformed_outcome}
use Rattle.line.proofs.line.Goals as goal

pub packed-requires : goal.packed-requires
packed-requires c =
    let a = c.args in
    let f = accepted_factors a.modulus a.kind a.direction a.length a.factors.now a.line.now (length a.scratch.now) c.in_ok-check_line.ensures in
    record { factors_value = f.0; factors_bound = f.2 }

pub transform_line-requires : goal.transform_line-requires
transform_line-requires c =
    let a = c.args in
    rw c.packed.ensures (accepted_line a.modulus a.kind a.direction a.length a.factors.now a.line.now (length a.scratch.now) c.in_ok-check_line.ensures)

pub clear-requires : goal.clear-requires
clear-requires c =
    let a = c.args in
    let s = accepted_line a.modulus a.kind a.direction a.length a.factors.now a.line.now (length a.scratch.now) c.in_ok-check_line.ensures in
    omega (arith, c.transform_line.auto, s.scratch_fits)

pub returns-in_err-check_line : goal.returns-in_err-check_line
returns-in_err-check_line c =
    let a = c.args in
    ap (λ r. line_outcome r a.line.now a.scratch.now) (handed_on _ _ c.from_residual.ensures.1)
    ∙ refused_outcome a.modulus a.kind a.direction a.length a.factors.now a.line.now a.scratch.now _ c.in_err-check_line.ensures

pub returns : goal.returns
unfolding cleared
returns c =
    let a = c.args in
    transformed_outcome a.modulus a.kind a.direction a.length a.factors.now a.line.now a.scratch.now _ _ c.in_ok-check_line.ensures c.transform_line.ensures.line_after
    (c.clear.ensures ∙ ap (λ (s : List ℕ). replicate 11520 0 ++ s) c.transform_line.ensures.scratch_unchanged)
