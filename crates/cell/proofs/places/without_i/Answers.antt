-- Over i, or not.
use mathlib.Core.Path.{sym, ◌∙◌}
use Rattle.cell.proofs.RotatedLines.{over_not}
use Rattle.cell.proofs.places.without_i.Goals as goal

pub returns-else-is_rotated : goal.returns-else-is_rotated
returns-else-is_rotated c = over_not _ c.requires.1 (sym c.is_rotated.ensures ∙ c.if-is_rotated.false)
