-- Both pairs are read and tested.
use mathlib.Core.Path.{◌≡◌}
use Prim.Native.Nat.{ℕ, ◌<◌}
use native.Mathlib.Omega.{arith}
use Rattle.algebra.specs.lines.Kinds.{Kind.antisymmetric}
use Rattle.algebra.specs.cells.Cell.{Group, planes}
use Rattle.cell.specs.Volume.{line_kind}
use Rattle.cell.proofs.LineKinds.{antisymmetric_layers}
use Rattle.cell.proofs.StoredFactors.{pair_inside}
use Rattle.volume.proofs.consistent.factor_test.empty_line.Goals as goal

-- a group with antisymmetric lines stores the planes 0 to A
ends : (g : Group) (h c : ℕ) → line_kind g h ≡ antisymmetric → (0 < planes g c) × (c < planes g c)
ends g h c e = let p = antisymmetric_layers g h c e in (omega (arith, p), omega (arith, p))

pub pair_at-first-requires : goal.pair_at-first-requires
pair_at-first-requires c = let p = c.requires in pair_inside c.args.v.now.whole 0 _ _ (ends _ _ _ p.0).0 p.1 p.2

pub pair_at-last-requires : goal.pair_at-last-requires
pair_at-last-requires c = let p = c.requires in pair_inside c.args.v.now.whole _ _ _ (ends _ _ _ p.0).1 p.1 p.2
