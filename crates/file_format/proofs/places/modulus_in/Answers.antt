-- By the version.
use mathlib.Core.Path.{sym, ◌∙◌}
use Rattle.file_format.proofs.places.Versions.{with_modulus, without_modulus}
use Rattle.file_format.proofs.places.modulus_in.Goals as goal

pub returns-then-byte_at-eq2 : goal.returns-then-byte_at-eq2
returns-then-byte_at-eq2 c =
    c.byte_at-then-byte_at-eq2.ensures.0 ∙ sym (with_modulus _ (sym c.byte_at.ensures.0 ∙ c.if-byte_at-eq2.true)).0

pub returns : goal.returns
returns c = sym (without_modulus _ (λ e. c.if-byte_at-eq2.false (c.byte_at.ensures.0 ∙ e))).0
