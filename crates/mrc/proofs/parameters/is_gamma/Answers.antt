-- 90 in group 4, any angle in the others.
use borrow.Author.Tests.{eq-eqb, ne_eqb}
use mathlib.Core.Path.{sym, ◌∙◌, ap}
use mathlib.Core.Bool.{Bool, cond}
use lib.Ieee.{eq}
use lib.IntN.{pos}
use Rattle.mrc.specs.Floats.{float_of}
use Rattle.mrc.specs.Parameters.{is_angle, is_gamma}
use Rattle.mrc.proofs.EdgesAngles.{right_angle_is}
use Rattle.mrc.proofs.parameters.is_gamma.Goals as goal

pub returns-then-group-eq4 : goal.returns-then-group-eq4
unfolding is_gamma
returns-then-group-eq4 c =
    let x = c.args.x in
    ap (eq x) (sym right_angle_is) ∙ ap (λ (b : Bool). cond b (eq x (float_of (pos 90))) (is_angle x)) (sym (eq-eqb c.args.group 4 c.if-group-eq4.true))

pub returns-else-group-eq4 : goal.returns-else-group-eq4
unfolding is_gamma
returns-else-group-eq4 c =
    let x = c.args.x in
    c.is_angle.ensures ∙ ap (λ (b : Bool). cond b (eq x (float_of (pos 90))) (is_angle x)) (sym (ne_eqb c.args.group 4 c.if-group-eq4.false))
