-- The residues of the map, and all lines of their volume.
use borrow.Author.Rules.{rules}
use mathlib.Core.Path.{◌≡◌, sym, ◌∙◌, ap, subst}
use Prim.Native.Nat.{◌/◌}
use native.Mathlib.Omega.{arith}
use lib.ListN.{length}
use Rattle.algebra.specs.cells.Cell.{P1}
use Rattle.numbers.specs.Value.{prime}
use Rattle.slices.specs.Pairs.{Below}
use Rattle.cell.specs.Volume.{volume_pairs, pack_map}
use Rattle.cell.proofs.VolumeLayout.{length_map, below_map}
use Rattle.correlation.specs.Steps.{residue_cell, count_cell, axes_halves}
use Rattle.correlation.proofs.Turned.{lent, filled_map, all_analysed}
use Rattle.correlation.proofs.modulo.analyse.Statement.{statement}
use Rattle.correlation.proofs.modulo.analyse.Tie as tie

-- src/modulo.rt:64:16
-- the map's residues
residues : (c : tie.After-fill_residues) → let a = c.args in
    c.fill_residues.new.d ≡ pack_map P1 (axes_halves a.axes) a.m (residue_cell a.m (count_cell (axes_halves a.axes) a.map.now))
residues c =
    let a = c.args in
    let pairs : length a.volume.now / 2 ≡ volume_pairs P1 (axes_halves a.axes) = omega (arith, c.requires.1.0.1) in
    filled_map a.m c.requires.0.0 a.axes c.requires.0.1 a.map.now pairs c.fill_residues.ensures

overflow_cast-half : tie.Need-overflow_cast-half
overflow_cast-half c = search rules

-- src/modulo.rt:65:5
fill_residues-requires : tie.Need-fill_residues-requires
fill_residues-requires c κs = search rules

-- src/modulo.rt:66:40
plan_of-requires : tie.Need-plan_of-requires
plan_of-requires c κs = search rules

-- src/modulo.rt:66:5
transform_volume-requires : tie.Need-transform_volume-requires
transform_volume-requires c κs =
    let f = c.before.before.before.before.before in
    let a = f.args in
    lent a.m f.requires.0.0 a.axes f.requires.0.1 1 (omega arith) c.plan_of.result c.plan_of.ensures
    (ap length (residues f) ∙ length_map P1 (axes_halves a.axes) a.m _) (subst (Below (prime a.m)) (sym (residues f)) (below_map P1 (axes_halves a.axes) a.m _)) f.requires.1.1

-- src/modulo.rt:56:1
shape_of-volume : tie.Need-shape_of-volume
shape_of-volume c = search rules

-- src/modulo.rt:56:1
shape_of-scratch : tie.Need-shape_of-scratch
shape_of-scratch c = search rules

-- src/modulo.rt:56:1
returns : tie.Need-returns
returns c =
    let t = c.before.before.before.before in
    let p = t.before.before.before in
    let f = p.before.before.before in
    let a = f.args in
    (t.transform_volume.ensures.0 ∙ all_analysed a.m f.requires.0.0 a.axes f.requires.0.1 a.map.now p.plan_of.result p.plan_of.ensures (residues f), t.transform_volume.ensures.1)

pub analyse_spec : {M : Type 1} → statement M
analyse_spec =
    tie.close
    (tie.spec overflow_cast-half fill_residues-requires plan_of-requires transform_volume-requires shape_of-volume shape_of-scratch returns)
