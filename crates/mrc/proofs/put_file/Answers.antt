-- The header, then the densities behind it.
use mathlib.Core.Path.{◌≡◌, sym, ◌∙◌, ap, subst}
use mathlib.Core.List.{List}
use Prim.Native.Nat.{◌≤◌}
use native.Mathlib.Omega.{arith}
use lib.IntN.{ℤ, nat_abs}
use mir.Syntax.{w64}
use mir.Val.{to_z, of_z}
use mir.ValLaws.{to_z-of_z}
use Rattle.cell.specs.declared.operations.UnitCell.{UnitCell}
use Rattle.cell.specs.Operations.{cell_lengths}
use Rattle.output.proofs.Writing.{wrote_append, wrote_as}
use Rattle.mrc.specs.declared.parameters.CellParameters.{CellParameters}
use Rattle.mrc.specs.declared.ranges.DensityRange.{DensityRange}
use Rattle.mrc.specs.Floats.{exact_limit}
use Rattle.mrc.specs.Header.{header_of, NoNan}
use Rattle.mrc.specs.Ranges.{lesser, greater, Spans, of_cell, of_stored}
use Rattle.mrc.specs.Mrc.{header_bytes, mrc_bytes, Writable}
use Rattle.mrc.proofs.Header.{header_numbers}
use Rattle.mrc.proofs.Bytes.{length_header, length_cell, cell_small}
use Rattle.mrc.proofs.Densities.{cell_within}
use Rattle.mrc.proofs.Outcome.{range_low, range_high}
use Rattle.mrc.proofs.WholeFloats.{small_fits}
use Rattle.mrc.proofs.put_file.Goals as goal

-- the ends of the range as they are handed on
held : (n m : ℤ) → n ≡ m → nat_abs m ≤ exact_limit → to_z w64 (of_z w64 n) ≡ m
held n m e l = to_z-of_z w64 n (small_fits n (omega (arith, ap nat_abs e))) ∙ e

ends : (cell : UnitCell) (v : List ℤ) (parameters : CellParameters) (r : DensityRange) → Writable cell v → Spans r (of_stored cell v)
    → (to_z w64 (of_z w64 r.least) ≡ of_cell cell v lesser) × (to_z w64 (of_z w64 r.greatest) ≡ of_cell cell v greater)
ends cell v parameters r w spans =
    let p = cell_within cell v w in
    (held _ _ (range_low cell v parameters w.sizes r spans) p.0, held _ _ (range_high cell v parameters w.sizes r spans) p.1)

pub header_of-header-requires : goal.header_of-header-requires
header_of-header-requires c =
    let a = c.args in
    let e = ends a.cell a.map.now a.parameters a.range c.requires.0 c.requires.2 in
    let w = cell_within a.cell a.map.now c.requires.0 in
    (subst (λ (n : ℤ). nat_abs n ≤ exact_limit) (sym e.0) w.0, subst (λ (n : ℤ). nat_abs n ≤ exact_limit) (sym e.1) w.1)

pub put_header-densities-requires : goal.put_header-densities-requires
put_header-densities-requires c =
    let a = c.args in
    let e = ends a.cell a.map.now a.parameters a.range c.requires.0 c.requires.2 in
    let w = cell_within a.cell a.map.now c.requires.0 in
    let h = c.header_of-header.ensures ∙ (λ i. header_of (cell_lengths a.cell) a.parameters (e.0 i) (e.1 i)) in (
      subst NoNan (sym h) (header_numbers _ _ w.0 w.1 (cell_lengths a.cell) a.cell.group a.parameters c.requires.1),
      record { low = omega (arith, length_header c.header_of-header.result) },
    )

pub put_cell-requires : goal.put_cell-requires
put_cell-requires c =
    let a = c.args in
    (c.requires.0, record { low = omega (arith, c.put_header-densities.ensures.place, length_header c.header_of-header.result, length_cell a.cell a.map.now, cell_small a.cell c.requires.0.sizes) })

pub returns : goal.returns
unfolding mrc_bytes
returns c =
    let a = c.args in
    let e = ends a.cell a.map.now a.parameters a.range c.requires.0 c.requires.2 in
    let h = c.header_of-header.ensures ∙ (λ i. header_of (cell_lengths a.cell) a.parameters (e.0 i) (e.1 i)) in
    wrote_append (wrote_as c.put_header-densities.ensures (ap header_bytes h)) c.put_cell.ensures
