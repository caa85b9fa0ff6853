-- The length as it is, and the packed list.
use borrow.Author.Rules.{rules}
use Rattle.job.proofs.open.axis.Statement.{statement}
use Rattle.job.proofs.open.axis.Tie as tie

packed-requires : tie.Need-packed-requires
packed-requires c κs = search rules

returns : tie.Need-returns
returns c = rw c.packed.ensures

pub axis_spec : {M : Type 1} → statement M
axis_spec = tie.close (tie.spec packed-requires returns)
