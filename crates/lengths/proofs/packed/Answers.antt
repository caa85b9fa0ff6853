-- From the last factor to the first, a digit a turn.
use native.Mathlib.Omega.{arith}
use mathlib.Core.Path.{◌∙◌, sym}
use Prim.Native.Nat.{◌-◌}
use lib.ListN.{length}
use Rattle.lengths.proofs.Factors.{octal_past, octal_back, octal_small}
use Rattle.lengths.proofs.packed.Goals as goal

pub loop-i-init : goal.loop-i-init
loop-i-init c = sym (octal_past c.args.factors.now _ (omega arith))

pub overflow_mul-number : goal.overflow_mul-number
overflow_mul-number c =
    let f = c.args.factors.now in
    omega (arith, c.loop-i.invariant, octal_back f c.loop-i.i c.loop-i-test.true (omega arith), octal_small f (c.loop-i.i - 1) c.requires.factors_value c.requires.factors_bound)

pub overflow_add-number : goal.overflow_add-number
overflow_add-number c =
    let f = c.args.factors.now in
    omega (arith, c.from.ensures, c.loop-i.invariant, octal_back f c.loop-i.i c.loop-i-test.true (omega arith), octal_small f (c.loop-i.i - 1) c.requires.factors_value c.requires.factors_bound)

pub loop-i-preserved : goal.loop-i-preserved
loop-i-preserved c =
    let f = c.args.factors.now in
    omega (arith, c.from.ensures, c.loop-i.invariant, octal_back f c.loop-i.i c.loop-i-test.true (omega arith))
