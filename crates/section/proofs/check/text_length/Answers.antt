-- At most 2,880 rows of 576 lines.
use Prim.Native.Nat.{◌+◌, ◌*◌, ◌/◌, ◌≤◌}
use native.Mathlib.Nat.{mul-le-mul}
use native.Mathlib.Omega.{arith}
use Rattle.cell.specs.declared.operations.UnitCell.{UnitCell}
use Rattle.cell.specs.Operations.{Sizes}
use Rattle.section.proofs.check.text_length.Goals as goal

few : (k : UnitCell) → Sizes k → k.n1 * ((k.n2 + 4) / 5) ≤ 2880 * 576
few k s = let lines : (k.n2 + 4) / 5 ≤ 576 = omega (arith, s.second.high) in mul-le-mul s.first.high lines

pub overflow_mul-result : goal.overflow_mul-result
overflow_mul-result c = omega (arith, few c.args.cell c.requires)

pub overflow_add-result : goal.overflow_add-result
overflow_add-result c = omega (arith, few c.args.cell c.requires)

pub overflow_mul-result-2 : goal.overflow_mul-result-2
overflow_mul-result-2 c = omega (arith, few c.args.cell c.requires)
