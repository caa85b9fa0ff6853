-- Zeros behind the number.
use borrow.Author.Rules.{rules}
use Rattle.exported.proofs.answers.header_refused.Statement.{statement}
use Rattle.exported.proofs.answers.header_refused.Tie as tie

no_axis-requires : tie.Need-no_axis-requires
no_axis-requires c κs = search rules

no_axis-requires-2 : tie.Need-no_axis-requires-2
no_axis-requires-2 c κs = search rules

no_axis-requires-3 : tie.Need-no_axis-requires-3
no_axis-requires-3 c κs = search rules

returns : tie.Need-returns
returns c = rw (c.before.before.no_axis.ensures, c.before.no_axis-2.ensures, c.no_axis-3.ensures)

pub header_refused_spec : {M : Type 1} → statement M
header_refused_spec =
    tie.close (tie.spec no_axis-requires no_axis-requires-2 no_axis-requires-3 returns)
