-- The unit cell of a viewer's file by the numbers that a program in C hands in: three angles, or gamma alone.
use Rattle.std.specs.Prelude.{◌≡◌}
use Rattle.algebra.specs.Prelude.{cond, eqb, ℕ, List, length}
use Rattle.signed.specs.Integers.{ℤ, pos}
use Rattle.refusals.specs.Refusals.{first}
use Rattle.cell.specs.declared.operations.UnitCell.{UnitCell}
use Rattle.output.specs.Output.{not_filled}
use Rattle.mrc.specs.Floats.{float_of}
use Rattle.mrc.specs.Mrc.{shape_tests, mrc_step}
use Rattle.mrc.specs.declared.parameters.CellParameters.{CellParameters}
use Rattle.mrc.specs.declared.parameters.CellParameters.TheVariants as P
use Rattle.exported.specs.declared.cells.CellCoded.{CellCoded}

-- what stands for a cell of neither kind: no group takes an edge of 0
abbrev pub no_cell : CellParameters
no_cell = P.Monoclinic (float_of (pos 0)) (float_of (pos 0)) (float_of (pos 0)) (float_of (pos 0))

-- 3 angles are given, or 1
abbrev pub parameters_of : CellCoded → CellParameters
parameters_of c =
    cond (eqb c.angles 3) (P.Triclinic c.a c.b c.c c.alpha c.beta c.gamma)
    (cond (eqb c.angles 1) (P.Monoclinic c.a c.b c.c c.gamma) no_cell)

-- The two counts are the two kinds of cell. With any other a map is refused 29, whatever the numbers, where it is not
-- refused so far with some unit cell.
pub record AngleCounts : Type 0 where
  pub three :
      (c : CellCoded) → c.angles ≡ 3 →
      parameters_of c ≡ P.Triclinic c.a c.b c.c c.alpha c.beta c.gamma
  pub one :
      (c : CellCoded) → c.angles ≡ 1 →
      parameters_of c ≡ P.Monoclinic c.a c.b c.c c.gamma
  pub others :
      (c : CellCoded) → (c.angles ≡ 3 → ⊥) → (c.angles ≡ 1 → ⊥) →
      (cell : UnitCell) (map : List ℤ) (output : List ℕ) (taken : CellParameters) →
      0 ≡ first (shape_tests cell (length map) taken) →
      mrc_step cell map (parameters_of c) output ≡ not_filled output 29
