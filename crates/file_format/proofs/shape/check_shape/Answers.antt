-- The count, the version, then the rest.
use mathlib.Core.Path.{◌∙◌, sym}
use Rattle.refusals.proofs.Tests.{stop, pass, not_t, not_f}
use Rattle.file_format.proofs.shape.check_shape.Goals as goal

pub returns-then-is_miscounted : goal.returns-then-is_miscounted
returns-then-is_miscounted c = stop _ (sym c.is_miscounted.ensures ∙ c.if-is_miscounted.true)

pub returns-then-not-is_version : goal.returns-then-not-is_version
returns-then-not-is_version c = pass 15 _ (sym c.is_miscounted.ensures ∙ c.if-is_miscounted.false) (stop _ (not_f _ (sym c.is_version.ensures ∙ c.if-not-is_version.true)))

pub returns : goal.returns
returns c =
    pass 15 _ (sym c.is_miscounted.ensures ∙ c.if-is_miscounted.false) (pass 16 _ (not_t _ (sym c.is_version.ensures ∙ c.if-not-is_version.false)) c.check_filling.ensures)
