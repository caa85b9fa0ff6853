-- Refused by the check with nothing touched, or written.
use mathlib.Core.Path.{ap, ◌∙◌}
use Rattle.refusals.proofs.Handed.{handed_on}
use Rattle.output.specs.Answers.{fill_outcome}
use Rattle.printing.proofs.map_text.Outcomes.{text_refused, text_printable, text_written}
use Rattle.printing.proofs.map_text.text.map_text.Goals as goal

pub put_map-requires : goal.put_map-requires
put_map-requires c = text_printable c.args.job c.args.volume.now c.args.out.now c.in_ok-check_text.ensures

pub returns-in_err-check_text : goal.returns-in_err-check_text
returns-in_err-check_text c =
    ap (λ r. fill_outcome r c.args.out.now) (handed_on _ _ c.from_residual.ensures.1)
    ∙ text_refused c.args.job c.args.volume.now c.args.out.now _ c.in_err-check_text.ensures

pub returns : goal.returns
returns c = text_written c.args.job c.args.volume.now c.args.out.now c.in_ok-check_text.ensures c.put_map.ensures
