-- By the version.
use mathlib.Core.Path.{sym, ◌∙◌}
use native.Mathlib.Omega.{arith}
use Rattle.file_format.proofs.places.Versions.{with_modulus, without_modulus}
use Rattle.file_format.proofs.places.lengths_at.Goals as goal

pub returns-then-byte_at-eq2 : goal.returns-then-byte_at-eq2
returns-then-byte_at-eq2 c = (sym (with_modulus _ (sym c.byte_at.ensures.0 ∙ c.if-byte_at-eq2.true)).1, omega arith)

pub returns : goal.returns
returns c = (sym (without_modulus _ (λ e. c.if-byte_at-eq2.false (c.byte_at.ensures.0 ∙ e))).1, omega arith)
