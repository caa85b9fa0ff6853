-- What `transform` leaves, divided by n.
use Rattle.slices.proofs.Values.{below_of}
use Rattle.plain.proofs.scale.Dividing.{divided_values}
use Rattle.plain.proofs.inverse.Goals as goal

pub divide-requires-clause-below : goal.divide-requires-clause-below
divide-requires-clause-below c = below_of c.args.m c.args.n _ c.transform.ensures.line_after

pub returns-clause-line_after : goal.returns-clause-line_after
returns-clause-line_after c = divided_values c.args.m c.args.n _ c.transform.ensures.line_after c.divide.ensures
