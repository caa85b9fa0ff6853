-- The kind of the parameters, their edges, their angles.
use mathlib.Core.Path.{refl, sym, ◌∙◌, ap}
use mathlib.Core.Bool.{not}
use lib.Dec.{eqb}
use Rattle.header.proofs.Headers.{three}
use Rattle.mrc.specs.Parameters.{of_group}
use Rattle.mrc.proofs.parameters.of_group.Goals as goal

pub returns-in-Triclinic : goal.returns-in-Triclinic
unfolding of_group
returns-in-Triclinic c =
    three {r = eqb c.args.group 0} refl c.are_edges.ensures c.are_angles.ensures ∙ ap (of_group c.args.group) (sym c.in-Triclinic.is)

pub returns-in-Monoclinic : goal.returns-in-Monoclinic
unfolding of_group
returns-in-Monoclinic c =
    three {r = not (eqb c.args.group 0)} refl c.are_edges-in-Monoclinic.ensures c.is_gamma.ensures ∙ ap (of_group c.args.group) (sym c.in-Monoclinic.is)
