use native.Mathlib.Omega.{arith}
use Rattle.folds.proofs.mirror.before.Forms.{odd_sum_none, odd_sum_start, odd_sum_next, odd_sum_done, residue_most}
use Rattle.folds.proofs.mirror.before.odd_sum.Goals as goal

pub returns-then-first-eq1 : goal.returns-then-first-eq1
returns-then-first-eq1 c = odd_sum_none _ _ _ _ c.if-first-eq1.true (omega arith)

pub loop-t-init : goal.loop-t-init
loop-t-init c = odd_sum_start _ _ _ _ (c.zero_accumulator-s.ensures _)

pub plus-s-requires-clause-re_bound : goal.plus-s-requires-clause-re_bound
plus-s-requires-clause-re_bound c = residue_most c.requires.modulus.0 _ c.value_at.ensures

pub loop-t-preserved : goal.loop-t-preserved
loop-t-preserved c = odd_sum_next _ _ _ _ c.loop-t.invariant (omega arith) c.value_at.ensures (c.plus-s.ensures _)

pub returns : goal.returns
returns c = odd_sum_done _ _ _ _ c.loop-t.invariant (omega arith) c.reduced.ensures
