-- Refused by the shape, or what the header leads to.
use mathlib.Core.Path.{◌∙◌, ap}
use Rattle.refusals.proofs.Handed.{handed_on}
use Rattle.factor_file.specs.Answers.{said_header}
use Rattle.factor_file.proofs.HeadersRead.{shape_unsound}
use Rattle.factor_file.proofs.file_header.file_header.Goals as goal

pub sound_header-requires : goal.sound_header-requires
sound_header-requires c = (c.places_of-places.ensures, c.in_ok-check_shape.ensures)

pub returns-in_err-check_shape : goal.returns-in_err-check_shape
returns-in_err-check_shape c = ap said_header (handed_on _ _ c.from_residual.ensures.1) ∙ shape_unsound c.args.file.now _ c.in_err-check_shape.ensures
