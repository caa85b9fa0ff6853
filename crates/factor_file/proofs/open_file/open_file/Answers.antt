-- Refused by the shape, or what header and records lead to.
use mathlib.Core.Path.{◌∙◌, ap}
use Rattle.refusals.proofs.Handed.{handed_on}
use Rattle.factor_file.specs.Answers.{file_outcome}
use Rattle.factor_file.proofs.Openings.{shape_refused}
use Rattle.factor_file.proofs.open_file.open_file.Goals as goal

pub open_sound-requires : goal.open_sound-requires
open_sound-requires c = (c.places_of-places.ensures, c.in_ok-check_shape.ensures)

pub returns-in_err-check_shape : goal.returns-in_err-check_shape
returns-in_err-check_shape c =
    ap (λ r. file_outcome r c.args.volume.now) (handed_on _ _ c.from_residual.ensures.1)
    ∙ shape_refused c.args.file.now c.args.volume.now _ c.in_err-check_shape.ensures
