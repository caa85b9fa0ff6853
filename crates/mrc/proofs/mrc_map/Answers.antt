-- Refused by the check with nothing touched, or by what follows, or written.
use mathlib.Core.Path.{ap, ◌∙◌}
use Rattle.refusals.proofs.Handed.{handed_on}
use Rattle.output.specs.Answers.{fill_outcome}
use Rattle.mrc.proofs.Outcome.{call_refused, call_filled}
use Rattle.mrc.proofs.mrc_map.Goals as goal

pub fill-requires : goal.fill-requires
fill-requires c = c.in_ok-check_shape.ensures

pub returns-in_err-check_shape : goal.returns-in_err-check_shape
returns-in_err-check_shape c =
    let a = c.args in
    ap (λ r. fill_outcome r a.out.now) (handed_on _ _ c.from_residual.ensures.1)
    ∙ call_refused a.cell a.map.now a.parameters _ a.out.now c.in_err-check_shape.ensures

pub returns : goal.returns
returns c =
    let a = c.args in
    c.fill.ensures ∙ call_filled a.cell a.map.now a.parameters a.out.now c.in_ok-check_shape.ensures
