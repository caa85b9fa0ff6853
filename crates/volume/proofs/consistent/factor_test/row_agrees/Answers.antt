-- The two ends where nothing else is to be tried.
use Rattle.std.proofs.Common.{◌/◌, arith}
use Rattle.cell.specs.Consistency.{line_agrees}
use Rattle.cell.specs.Lent.{of_residues}
use Rattle.algebra.proofs.cells.Passing.{passed_at, below_ends, tested_stop, tested_last}
use Rattle.volume.proofs.consistent.factor_test.row_agrees.Goals as goal

pub returns-then-ends_alone : goal.returns-then-ends_alone
returns-then-ends_alone c =
    let a = c.args in
    let r = a.r.now in
    below_ends (λ k. of_residues line_agrees r (a.h, k, a.l)) (r.cell.n2 / 2) (c.ends_alone.ensures c.if-ends_alone.true r.m r.volume.now a.h) c.ends_agree.ensures

pub factor_agrees-requires-clause-l_value : goal.factor_agrees-requires-clause-l_value
factor_agrees-requires-clause-l_value c = λ beyond. passed_at _ _ _ (c.requires.h_value beyond) (omega arith)

pub returns-then-not-factor_agrees : goal.returns-then-not-factor_agrees
returns-then-not-factor_agrees c = tested_stop _ _ c.loop-k.invariant _ (omega arith) c.factor_agrees.ensures c.if-not-factor_agrees.true

pub returns-else-not-factor_agrees : goal.returns-else-not-factor_agrees
returns-else-not-factor_agrees c = tested_last _ _ c.loop-k.invariant _ (omega arith) c.factor_agrees.ensures c.if-not-factor_agrees.false
