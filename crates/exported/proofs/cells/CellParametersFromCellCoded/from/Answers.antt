-- Of a count that is neither 3 nor 1, the cell of neither kind.
use borrow.Author.Rules.{rules}
use mathlib.Core.Path.{◌≡◌, sym, ◌∙◌}
use Rattle.mrc.specs.declared.parameters.CellParameters.TheVariants as P
use Rattle.mrc.proofs.EdgesAngles.{zero_is}
use Rattle.exported.proofs.cells.Angles.{others_given}
use Rattle.exported.proofs.cells.CellParametersFromCellCoded.from.Goals as goal

pub returns-in_default : goal.returns-in_default
returns-in_default c =
    let three : c.args.cell.angles ≡ 3 → ⊥ = search rules in
    let one : c.args.cell.angles ≡ 1 → ⊥ = search rules in
    (λ i. P.Monoclinic (sym zero_is i) (sym zero_is i) (sym zero_is i) (sym zero_is i))
    ∙ sym (others_given c.args.cell three one)
