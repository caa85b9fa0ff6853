-- What is said of a group, the halves of a cell, a modulus and numbers, said of a lent volume.
use Rattle.algebra.specs.Prelude.{ℕ, List}
use Rattle.algebra.specs.cells.Cell.{J, Group}
use Rattle.cell.specs.declared.lent.LentVolume.{LentVolume}
use Rattle.cell.specs.declared.lent.Residues.{Residues}
use Rattle.cell.specs.Operations.{cell_group, cell_halves}

abbrev pub of_volume : {T : Type 0} → ((g : Group) (a : J) → List ℕ → T) → LentVolume → T
of_volume f v = f (cell_group v.cell) (cell_halves v.cell) v.volume.now

abbrev pub of_residues : {T : ℕ → Type 0} → ((g : Group) (a : J) (m : ℕ) → List ℕ → T m) → (r : Residues) → T r.m
of_residues f r = f (cell_group r.cell) (cell_halves r.cell) r.m r.volume.now
