-- Refused by the shape, or what header and records lead to.
use mathlib.Core.Path.{◌∙◌, sym, ap}
use Rattle.refusals.specs.Checks.{checked_number}
use Rattle.faults.proofs.FaultLaws.{shape_faults}
use Rattle.faults.proofs.file_faults.Goals as goal

pub returns-in-Err : goal.returns-in-Err
returns-in-Err c = shape_faults c.args.file.now _ (ap checked_number (sym c.in-Err.is) ∙ c.check_shape.ensures)
