use native.Mathlib.Omega.{arith}
use Rattle.numbers.specs.Bounds.{res}
use Rattle.numbers.proofs.Residues.{below_by}
use Rattle.folds.proofs.alternating.before.Sums.{odd_sum_start, odd_sum_next, odd_sum_done}
use Rattle.folds.proofs.alternating.before.odd_imaginary_sum.Goals as goal

pub loop-t-init : goal.loop-t-init
loop-t-init c = odd_sum_start

pub loop-t-preserved : goal.loop-t-preserved
loop-t-preserved c = odd_sum_next c.requires.modulus.0 c.loop-t.invariant (omega arith) c.value_at.ensures

pub returns : goal.returns
returns c =
    (below_by c.args.m (res c.args.m c.loop-t.s) c.reduce.ensures, odd_sum_done c.loop-t.invariant (omega arith) c.reduce.ensures)
