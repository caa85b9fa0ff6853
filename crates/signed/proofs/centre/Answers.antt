-- The lower half as it is, the upper one less p: what the machine keeps of both is the whole number itself.
use mathlib.Core.Path.{sym, ◌∙◌, subst}
use native.Mathlib.Omega.{arith}
use mir.Syntax.{w32}
use mir.Val.{SFits}
use mir.ValLaws.{to_z-of_z, to_z_pos}
use Rattle.signed.proofs.Machine.{difference}
use Rattle.signed.proofs.Centred.{centred_low, centred_high}
use Rattle.signed.proofs.centre.Goals as goal

pub returns-then-x-p : goal.returns-then-x-p
returns-then-x-p c = to_z_pos w32 c.args.x (omega arith) ∙ centred_low c.args.p c.args.x c.if-x-p.true

pub returns-else-x-p : goal.returns-else-x-p
returns-else-x-p c =
    let d = difference c.args.x c.args.p c.requires.0 c.requires.1 in
    to_z-of_z w32 _ (subst (SFits w32) (sym d) (record { sfits = omega arith })) ∙ d ∙ centred_high c.args.p c.args.x c.if-x-p.false
