-- `pair_count`: by the kinds' numbers.
use native.Mathlib.Omega.{arith}
use Rattle.lengths.proofs.Counts.{count_plain, count_half, count_symmetric, count_antisymmetric}
use Rattle.lengths.proofs.pair_count.Goals as goal

pub returns-in-0 : goal.returns-in-0
returns-in-0 c = let a = c.args in (count_plain a.kind a.length (omega arith), omega arith)

pub returns-in-4 : goal.returns-in-4
returns-in-4 c = let a = c.args in (count_symmetric a.kind a.length (omega arith), omega arith)

pub returns-in-1 : goal.returns-in-1
returns-in-1 c = let a = c.args in (count_half a.kind a.length (omega arith) (omega arith), omega arith)

pub returns-in_default : goal.returns-in_default
returns-in_default c = let a = c.args in (count_antisymmetric a.kind a.length (omega arith), omega arith)
