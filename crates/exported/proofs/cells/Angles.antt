-- What each count of angles is taken for, and that a cell of neither kind is refused.
use mathlib.Core.Path.{◌≡◌, refl, sym, ◌∙◌, ap}
use mathlib.Core.Bool.{Bool, true, false, ◌&&◌, not, cond}
use mathlib.Core.List.{List, []}
use Prim.Native.Nat.{ℕ}
use native.Mathlib.Omega.{arith}
use borrow.Author.Tests.{eq-eqb, ne_eqb}
use lib.Dec.{eqb}
use lib.ListN.{length}
use lib.IntN.{ℤ, pos}
use lib.Ieee.{Float, lt, of_int}
use Rattle.refusals.specs.Refusals.{first, accepted}
use Rattle.refusals.specs.declared.Refusal.TheVariants as R
use Rattle.refusals.proofs.Tests.{passed, append_stop, pass, stop, fails, not_f}
use Rattle.cell.specs.declared.operations.UnitCell.{UnitCell}
use Rattle.output.specs.Output.{filled, not_filled}
use Rattle.mrc.specs.Floats.{float_of}
use Rattle.mrc.specs.Parameters.{is_edge, is_gamma, are_edges, of_group}
use Rattle.mrc.specs.Mrc.{mrc_bytes, shape_tests, fill_tests, mrc_tests, mrc_step}
use Rattle.mrc.specs.declared.parameters.CellParameters.{CellParameters}
use Rattle.mrc.specs.declared.parameters.CellParameters.TheVariants as P
use Rattle.exported.specs.declared.cells.CellCoded.{CellCoded}
use Rattle.exported.specs.Cells.{no_cell, parameters_of, AngleCounts}

-- the cell by whether three are given, and whether one is
abbrev chosen : CellCoded → (three one : Bool) → CellParameters
chosen c s t = cond s (P.Triclinic c.a c.b c.c c.alpha c.beta c.gamma) (cond t (P.Monoclinic c.a c.b c.c c.gamma) no_cell)

module _ (c : CellCoded) where
  pub three_given : c.angles ≡ 3 → parameters_of c ≡ P.Triclinic c.a c.b c.c c.alpha c.beta c.gamma
  three_given e = ap (λ (s : Bool). chosen c s (eqb c.angles 1)) (eq-eqb c.angles 3 e)

  pub one_given : c.angles ≡ 1 → parameters_of c ≡ P.Monoclinic c.a c.b c.c c.gamma
  one_given e = λ i. chosen c (ne_eqb c.angles 3 (λ q. absurd (omega (arith, e, q))) i) (eq-eqb c.angles 1 e i)

  pub others_given : (c.angles ≡ 3 → ⊥) → (c.angles ≡ 1 → ⊥) → parameters_of c ≡ no_cell
  others_given p q = λ i. chosen c (ne_eqb c.angles 3 p i) (ne_eqb c.angles 1 q i)

-- no group takes it
and_false : (b : Bool) → b && false ≡ false
and_false true = refl
and_false false = refl

none_takes : (group : ℕ) → of_group group no_cell ≡ false
unfolding of_group are_edges is_edge lt of_int
none_takes group = and_false (not (eqb group 0))

module _ (cell : UnitCell) (map : List ℤ) (output : List ℕ) (taken : CellParameters) (none : 0 ≡ first (shape_tests cell (length map) taken)) where
  shape : 29 ≡ first (shape_tests cell (length map) no_cell)
  shape =
      let t = passed (shape_tests cell (length map) taken) tt none in
      pass 8 _ t.0 (pass 3 _ t.1.0 (pass 9 _ t.1.1.0 (pass 6 _ t.1.1.1.0 (stop [] (not_f (of_group cell.group no_cell) (none_takes cell.group))))))

  no_cell_refused : mrc_step cell map no_cell output ≡ not_filled output 29
  unfolding mrc_step
  no_cell_refused = sym (fails R.UnitCell (first (mrc_tests cell map no_cell (length output))) (filled (mrc_bytes cell map no_cell) output) (not_filled output)
      (append_stop (shape_tests cell (length map) no_cell) (fill_tests cell map no_cell (length output)) (λ e. absurd (omega (arith, e))) shape))

pub angle_counts : AngleCounts
angle_counts = record {
  three = three_given;
  one = one_given;
  others = λ c p q cell map output taken none. ap (λ (x : CellParameters). mrc_step cell map x output) (others_given c p q) ∙ no_cell_refused cell map output taken none;
}
