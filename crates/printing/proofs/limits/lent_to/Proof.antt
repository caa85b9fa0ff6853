-- The header's numbers, and the least of what they ask for and of what there is.
use borrow.Author.Rules.{rules}
use mathlib.Core.Path.{◌≡◌}
use native.Mathlib.Omega.{arith}
use Rattle.header.specs.Header.{needed}
use Rattle.file_format.specs.Format.{header_in}
use Rattle.printing.proofs.limits.Needs.{header_needs}
use Rattle.printing.proofs.limits.lent_to.Statement.{statement}
use Rattle.printing.proofs.limits.lent_to.Tie as tie

asked : (c : tie.After-volume_length-length) → c.volume_length-length.result ≡ needed (header_in c.before.before.before.args.file.now)
asked c =
    let h = c.before in
    let n = h.header_numbers.ensures in
    header_needs h.before.before.args.file.now c.volume_length-length.ensures n.group n.first n.second n.third

header_numbers-requires : tie.Need-header_numbers-requires
header_numbers-requires c κs = search rules

volume_length-length-requires : tie.Need-volume_length-length-requires
volume_length-length-requires c κs = c.header_numbers.ensures.short

returns-then-length-gt2048 : tie.Need-returns-then-length-gt2048
returns-then-length-gt2048 c = omega (arith, asked c.before)

returns : tie.Need-returns
returns c = omega (arith, asked c.before)

pub lent_to_spec : {M : Type 1} → statement M
lent_to_spec = tie.close (tie.spec header_numbers-requires volume_length-length-requires returns-then-length-gt2048 returns)
