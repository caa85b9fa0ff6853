use Rattle.std.proofs.Common.{◌≡◌, ◌∙◌, sym, ap, subst, List, ℕ, ◌≤◌, ℤ, nat_abs, w64, to_z, of_z}
use lib.Dec.{T}
use mir.Val.{SFits}
use mir.ValLaws.{to_z-of_z}
use Rattle.cell.specs.declared.operations.UnitCell.{UnitCell}
use Rattle.output.proofs.Writing.{each_none, each_ends, each_next, ends_as, wrote_as}
use Rattle.mrc.specs.Floats.{exact_limit}
use Rattle.mrc.specs.Ranges.{density}
use Rattle.mrc.specs.Mrc.{density_bytes}
use Rattle.mrc.proofs.Densities.{exact_density}
use Rattle.mrc.proofs.writing.put_row.Goals as goal

abbrev point : UnitCell → List ℤ → (z y x : ℕ) → List ℕ
point cell map z y x = density_bytes (density cell map (x, y, z))

-- the number that is handed on is the density
is-density : {n m : ℤ} → SFits w64 n → n ≡ m → to_z w64 (of_z w64 n) ≡ m
is-density f e = to_z-of_z w64 _ f ∙ e

pub loop-x-init : goal.loop-x-init
loop-x-init c = each_none _ _ _

pub put_density-place-requires : goal.put_density-place-requires
put_density-place-requires c =
    let p = c.requires in
    let a = c.args in
    let d = is-density (record { sfits = c.count_at-n.type_inv }) c.count_at-n.ensures in (
      subst (λ (n : ℤ). nat_abs n ≤ exact_limit) (sym d) (exact_density a.cell a.map.now p.0.sizes (subst T (sym p.0.exact) tt) c.loop-x.x a.y a.z c.loop-x-test.true p.2 p.1),
      ends_as (each_ends (point a.cell a.map.now a.z a.y) p.3 c.loop-x-test.true c.loop-x.invariant) (ap density_bytes (sym d)),
    )

pub loop-x-preserved : goal.loop-x-preserved
loop-x-preserved c =
    let d = is-density (record { sfits = c.count_at-n.type_inv }) c.count_at-n.ensures in
    each_next (point c.args.cell c.args.map.now c.args.z c.args.y) c.loop-x.invariant (wrote_as c.put_density-place.ensures (ap density_bytes d))
