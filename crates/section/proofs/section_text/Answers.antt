-- Refused by the check with nothing touched, or written.
use mathlib.Core.Path.{ap, ◌∙◌}
use lib.ListN.{length}
use Rattle.refusals.proofs.Handed.{handed_on}
use Rattle.output.specs.Answers.{fill_outcome}
use Rattle.section.proofs.Outcomes.{sound_of, section_refused, section_written}
use Rattle.section.proofs.section_text.Goals as goal

pub put_section-requires : goal.put_section-requires
put_section-requires c = sound_of (record { group = c.args.group; n1 = c.args.n1; n2 = c.args.n2; n3 = c.args.n3 }) c.args.map.now c.args.z (length c.args.out.now) c.in_ok-check_section.ensures

pub returns-in_err-check_section : goal.returns-in_err-check_section
returns-in_err-check_section c =
    ap (λ r. fill_outcome r c.args.out.now) (handed_on _ _ c.from_residual.ensures.1)
    ∙ section_refused (record { group = c.args.group; n1 = c.args.n1; n2 = c.args.n2; n3 = c.args.n3 }) c.args.map.now c.args.z c.args.out.now _ c.in_err-check_section.ensures

pub returns : goal.returns
returns c = section_written (record { group = c.args.group; n1 = c.args.n1; n2 = c.args.n2; n3 = c.args.n3 }) c.args.map.now c.args.z c.args.out.now c.in_ok-check_section.ensures c.put_section.ensures
