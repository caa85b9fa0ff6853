-- The product of the lengths, which are even.
use borrow.Author.Rules.{rules}
use mathlib.Core.Path.{sym, ◌∙◌}
use Prim.Native.Nat.{◌*◌, ◌≤◌}
use native.Mathlib.Nat.{mul-le-mul}
use native.Mathlib.Omega.{arith}
use Rattle.numbers.specs.Bounds.{res}
use Rattle.numbers.proofs.Residues.{below_by}
use Rattle.correlation.specs.Steps.{point_count, axes_halves}
use Rattle.correlation.proofs.modulo.point_count.Statement.{statement}
use Rattle.correlation.proofs.modulo.point_count.Tie as tie

-- src/modulo.rt:49:14
-- 2,880 squared
few : (s : tie.Start) → s.args.axes.n1 * s.args.axes.n2 ≤ 2880 * 2880
few s = mul-le-mul s.requires.1.first.short s.requires.1.second.short

overflow_cast-n1 : tie.Need-overflow_cast-n1
overflow_cast-n1 c = search rules

-- src/modulo.rt:50:14
overflow_cast-n2 : tie.Need-overflow_cast-n2
overflow_cast-n2 c = search rules

-- src/modulo.rt:51:14
overflow_cast-n3 : tie.Need-overflow_cast-n3
overflow_cast-n3 c = search rules

-- src/modulo.rt:52:24
overflow_mul-n1 : tie.Need-overflow_mul-n1
overflow_mul-n1 c = let s = c.before.before.before in record { fits = omega (arith, few s) }

-- src/modulo.rt:52:24
overflow_mul-n1-2 : tie.Need-overflow_mul-n1-2
overflow_mul-n1-2 c = let s = c.before.before.before in record { fits = omega (arith, mul-le-mul (few s) s.requires.1.third.short) }

-- src/modulo.rt:52:5
reduce-requires : tie.Need-reduce-requires
reduce-requires c κs = search rules

-- src/modulo.rt:45:1
returns : tie.Need-returns
returns c =
    let s = c.before.before.before.before in
    let m = s.args.m in
    let j = s.requires.1 in
    let e = c.reduce.ensures ∙ sym (λ i. (res m (j.first.whole i * j.second.whole i * j.third.whole i)).val) in
    (e, below_by m (res m (point_count (axes_halves s.args.axes))) e)

pub point_count_spec : {M : Type 1} → statement M
point_count_spec =
    tie.close (tie.spec overflow_cast-n1 overflow_cast-n2 overflow_cast-n3 overflow_mul-n1 overflow_mul-n1-2 reduce-requires returns)
