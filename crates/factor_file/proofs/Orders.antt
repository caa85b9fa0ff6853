-- The order of the refusals of a file's record and of the writer.
use mathlib.Core.Path.{refl}
use Rattle.factor_file.specs.Orders.{FileRefusals}

pub file_refusals : FileRefusals
file_refusals = record { recorded = λ m group n before at x y. refl; writer = λ j v output. refl }
