-- The factors agree, and the ends that lines leave out are empty.
use Rattle.std.proofs.Common.{◌∙◌, ap, not, ne_eqb}
use Rattle.cell.specs.Consistency.{consistent_factors}
use Rattle.cell.specs.Operations.{cell_group, cell_halves}
use Rattle.cell.proofs.LineKinds.{other_kind}
use Rattle.algebra.proofs.cells.Passing.{both_passed, first_failed}
use Rattle.volume.proofs.consistent.TestLaws.{ends_tested, ends_none}
use Rattle.volume.proofs.consistent.factor_test.consistent_factors.Goals as goal

pub returns-else-factors_agree : goal.returns-else-factors_agree
unfolding consistent_factors
returns-else-factors_agree c = c.if-factors_agree.false ∙ first_failed _ c.factors_agree.ensures c.if-factors_agree.false

pub returns-then-line_kind-ne5 : goal.returns-then-line_kind-ne5
unfolding consistent_factors
returns-then-line_kind-ne5 c =
    let a = c.args in
    let k = c.line_kind.ensures in
    ap not (ne_eqb _ _ c.if-line_kind-ne5.true) ∙ both_passed c.factors_agree.ensures c.if-factors_agree.true (ends_none (cell_group a.cell) (cell_halves a.cell) a.m a.volume.now (other_kind k.1 k.0 c.if-line_kind-ne5.true))

pub returns-else-line_kind-ne5 : goal.returns-else-line_kind-ne5
unfolding consistent_factors
returns-else-line_kind-ne5 c =
    let a = c.args in
    both_passed c.factors_agree.ensures c.if-factors_agree.true (ends_tested (cell_group a.cell) (cell_halves a.cell) a.m a.volume.now c.odd_rows_empty.ensures)
