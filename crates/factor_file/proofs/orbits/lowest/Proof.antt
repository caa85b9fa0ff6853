-- Between 0 and N1/2 in P1 the mate comes later; elsewhere every image was tried.
use borrow.Author.Rules.{rules}
use mathlib.Core.Path.{sym, ◌∙◌, ap}
use Rattle.cell.specs.Volume.{group_of}
use Rattle.cell.specs.Operations.{cell_halves, triple_of}
use Rattle.factor_file.specs.File.{is_lowest}
use Rattle.factor_file.proofs.orbits.PlaceOrder.{lower_lowest}
use Rattle.factor_file.proofs.orbits.lowest.Statement.{statement}
use Rattle.factor_file.proofs.orbits.lowest.Tie as tie

returns-then-j-gt0 : tie.Need-returns-then-j-gt0
returns-then-j-gt0 c =
    let i = c.before.before.before.before.before in
    let a = i.before.before.args in
    sym (ap (λ n. is_lowest (group_of n) (cell_halves a.cell) (triple_of a.j)) i.if-cell-eq0.true ∙ lower_lowest (cell_halves a.cell) (triple_of a.j) c.if-j-gt0.true c.before.before.if-j-cell.true)

none_before-requires : tie.Need-none_before-requires
none_before-requires c κs = search rules

returns : tie.Need-returns
returns c = search rules

pub lowest_spec : {M : Type 1} → statement M
lowest_spec = tie.close (tie.spec returns-then-j-gt0 none_before-requires returns)
