-- Refused by the check, or the point's number.
use mathlib.Core.Path.{ap, ◌∙◌}
use lib.ListN.{length}
use mir.Syntax.{w64}
use mir.ValLaws.{to_z-of_z}
use Rattle.refusals.proofs.Handed.{handed_on}
use Rattle.combined.specs.Answers.{said_count}
use Rattle.combined.specs.Reading.{counted}
use Rattle.combined.proofs.Readings.{sound_reading, count_refused, count_read}
use Rattle.combined.proofs.reading.count.Goals as goal

pub count_at-requires : goal.count_at-requires
count_at-requires c = sound_reading c.args.cell (length c.args.map.now) c.args.at c.in_ok-check_count.ensures

pub returns-in_err-check_count : goal.returns-in_err-check_count
returns-in_err-check_count c =
    ap said_count (handed_on _ _ c.from_residual.ensures.1) ∙ count_refused _ _ _ _ _ c.in_err-check_count.ensures

pub returns : goal.returns
returns c =
    ap counted (to_z-of_z w64 c.count_at.result (record { sfits = c.count_at.type_inv }) ∙ c.count_at.ensures) ∙ count_read _ _ _ _ c.in_ok-check_count.ensures
