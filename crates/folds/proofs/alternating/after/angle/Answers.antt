-- Half the difference and half the sum of two half tangents of the table.
use mathlib.Core.Path.{ap}
use Prim.Native.Nat.{◌*◌, ◌-◌, ◌<◌}
use native.Mathlib.Omega.{arith}
use lib.ListN.{get_or}
use Rattle.numbers.proofs.RealValues.{sum_small, difference_small, half_small}
use Rattle.fold_formulas.proofs.Frames.{step_inside}
use Rattle.folds.proofs.alternating.after.Passes.{cot_by, csc_by}
use Rattle.folds.proofs.alternating.after.angle.Goals as goal

pub sub-requires : goal.sub-requires
sub-requires c =
    let near : c.args.step * c.args.s < 1440 = step_inside c.args.a c.args.step c.requires.step_value.1 c.requires.step_value.3 in
    let far : c.args.step * (c.args.a - c.args.s) < 1440 = step_inside c.args.a c.args.step c.requires.step_value.1 (omega arith) in
    (c.requires.modulus.0, c.requires.modulus.1.below _ far, c.requires.modulus.1.below _ near)

pub halve-requires : goal.halve-requires
halve-requires c = (c.requires.modulus.0, difference_small c.args.m _ _ c.sub.ensures)

pub add-requires : goal.add-requires
add-requires c =
    let near : c.args.step * c.args.s < 1440 = step_inside c.args.a c.args.step c.requires.step_value.1 c.requires.step_value.3 in
    let far : c.args.step * (c.args.a - c.args.s) < 1440 = step_inside c.args.a c.args.step c.requires.step_value.1 (omega arith) in
    (c.requires.modulus.0, c.requires.modulus.1.below _ near, c.requires.modulus.1.below _ far)

pub halve-requires-2 : goal.halve-requires-2
halve-requires-2 c = (c.requires.modulus.0, sum_small c.args.m _ _ c.add.ensures)

pub returns : goal.returns
returns c =
    let m = c.args.m in
    let near = ap (λ k. get_or c.args.tan.now (k * c.args.s) 0) c.requires.step_value.0 in
    let far = ap (λ k. get_or c.args.tan.now (k * (c.args.a - c.args.s)) 0) c.requires.step_value.0 in (
      record { re = half_small m _ c.halve.ensures; im = half_small m _ c.halve-2.ensures },
      cot_by m c.args.a c.args.tan.now c.args.s near far c.sub.ensures c.halve.ensures,
      csc_by m c.args.a c.args.tan.now c.args.s near far c.add.ensures c.halve-2.ensures,
    )
