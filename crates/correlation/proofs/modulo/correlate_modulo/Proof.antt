-- Two analyses, the product, a synthesis.
use borrow.Author.Rules.{rules}
use mathlib.Core.Path.{◌≡◌, sym, ◌∙◌, ap, subst}
use mathlib.Core.List.{List}
use Prim.Native.Nat.{ℕ, ◌≤◌}
use native.Mathlib.Omega.{arith}
use lib.ListN.{length}
use Rattle.algebra.specs.cells.Cell.{P1}
use Rattle.numbers.specs.Value.{prime}
use Rattle.slices.specs.Pairs.{Below}
use Rattle.lengths.specs.Lengths.{scratch_length}
use Rattle.lengths.proofs.Scratch.{cleared_long, cleared_again}
use Rattle.cell.specs.Volume.{pack_factors}
use Rattle.cell.proofs.Reading.{length_factors, below_factors}
use Rattle.cell.proofs.VolumeLayout.{length_map}
use Rattle.correlation.specs.Steps.{axes_halves}
use Rattle.correlation.proofs.Correlated.{G}
use Rattle.correlation.proofs.Turned.{lent, multiplied_factors, all_synthesised}
use Rattle.correlation.proofs.modulo.correlate_modulo.Statement.{statement}
use Rattle.correlation.proofs.modulo.correlate_modulo.Tie as tie

-- src/modulo.rt:86:5
-- the product of both maps' factors
product : (c : tie.After-correlate_pairs) → let a = c.args in
    c.correlate_pairs.new.first ≡ pack_factors P1 (axes_halves a.axes) a.m (G a.m c.requires.0.0 c.requires.0.1.first c.requires.0.1.second c.requires.0.1.third a.a.now a.b.now)
product c =
    let a = c.args in
    let l1 = ap length c.analyse.ensures.0 ∙ length_factors P1 (axes_halves a.axes) a.m _ in
    multiplied_factors a.m c.requires.0.0 a.axes c.requires.0.1 a.a.now a.b.now (omega (arith, l1)) c.point_count.ensures.0 c.analyse.ensures.0 c.analyse-2.ensures.0 c.correlate_pairs.ensures

analyse-requires : tie.Need-analyse-requires
analyse-requires c κs = search rules

-- src/modulo.rt:87:5
analyse-requires-2 : tie.Need-analyse-requires-2
analyse-requires-2 c κs =
    (c.requires.0, ((omega (arith, c.requires.1.0), c.requires.1.1.0.1), subst (λ (v : List ℕ). scratch_length ≤ length v) (sym c.analyse.ensures.1) (cleared_long c.args.scratch.now)))

-- src/modulo.rt:89:41
point_count-requires : tie.Need-point_count-requires
point_count-requires c κs = search rules

-- src/modulo.rt:89:5
correlate_pairs-requires : tie.Need-correlate_pairs-requires
correlate_pairs-requires c κs =
    let a = c.args in
    let h = axes_halves a.axes in
    let l1 = ap length c.analyse.ensures.0 ∙ length_factors P1 h a.m _ in
    let l2 = ap length c.analyse-2.ensures.0 ∙ length_factors P1 h a.m _ in (
      (c.requires.0.0, c.point_count.ensures.1),
      (
        (omega (arith, l1), omega (arith, l1, l2)),
        (subst (Below (prime a.m)) (sym c.analyse.ensures.0) (below_factors P1 h a.m _), subst (Below (prime a.m)) (sym c.analyse-2.ensures.0) (below_factors P1 h a.m _)),
      ),
    )

-- src/modulo.rt:90:40
plan_of-requires : tie.Need-plan_of-requires
plan_of-requires c κs = search rules

-- src/modulo.rt:90:5
transform_volume-requires : tie.Need-transform_volume-requires
transform_volume-requires c κs =
    let cp = c.before.before.before.before.before in
    let a = cp.args in
    let h = axes_halves a.axes in
    lent a.m cp.requires.0.0 a.axes cp.requires.0.1 0 (omega arith) c.plan_of.result c.plan_of.ensures
    (ap length (product cp) ∙ length_factors P1 h a.m _) (subst (Below (prime a.m)) (sym (product cp)) (below_factors P1 h a.m _))
    (subst (λ (v : List ℕ). scratch_length ≤ length v) (sym cp.analyse-2.ensures.1) (cleared_long _))

-- src/modulo.rt:70:1
returns : tie.Need-returns
returns c =
    let t = c.before.before.before.before in
    let p = t.before.before.before in
    let cp = p.before.before.before in
    let a = cp.args in (
      t.transform_volume.ensures.0 ∙ all_synthesised a.m cp.requires.0.0 a.axes cp.requires.0.1 a.a.now a.b.now p.plan_of.result p.plan_of.ensures (product cp),
      cleared_again a.scratch.now (cleared_again a.scratch.now cp.analyse.ensures.1 cp.analyse-2.ensures.1) t.transform_volume.ensures.1,
    )

shape_of-first : tie.Need-shape_of-first
shape_of-first c =
    ap length (returns c).0 ∙ length_map P1 (axes_halves c.args.axes) c.args.m _ ∙ sym c.requires.1.1.0.0

-- src/modulo.rt:70:1
shape_of-second : tie.Need-shape_of-second
shape_of-second c = search rules

-- src/modulo.rt:70:1
shape_of-scratch : tie.Need-shape_of-scratch
shape_of-scratch c = search rules

-- src/modulo.rt:70:1
pub correlate_modulo_spec : {M : Type 1} → statement M
correlate_modulo_spec =
    tie.close
    (tie.spec analyse-requires analyse-requires-2 point_count-requires correlate_pairs-requires plan_of-requires transform_volume-requires shape_of-first shape_of-second shape_of-scratch returns)
