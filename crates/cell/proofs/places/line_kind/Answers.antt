-- The kind of each group's lines along l.
use mathlib.Core.Path.{◌≡◌, refl, ap}
use Prim.Native.Nat.{ℕ, ◌%◌}
use native.Mathlib.Omega.{arith}
use Rattle.algebra.specs.lines.Kinds.{Kind.symmetric, Kind.antisymmetric}
use Rattle.cell.specs.Volume.{group_of, line_kind}
use Rattle.cell.proofs.PlaceLaws.{even_is, odd_is}
use Rattle.cell.proofs.places.line_kind.Goals as goal

even_line : (group h : ℕ) → group ≡ 3 → h % 2 ≡ 0 → symmetric ≡ line_kind (group_of group) h
even_line group h e q = rw (ap group_of e, even_is h q) refl

odd_line : (group h : ℕ) → group ≡ 3 → (h % 2 ≡ 0 → ⊥) → antisymmetric ≡ line_kind (group_of group) h
odd_line group h e q = rw (ap group_of e, odd_is h q) refl

pub returns-then-h-eq0 : goal.returns-then-h-eq0
returns-then-h-eq0 c = (omega arith, even_line _ _ c.if-group-eq3.true c.if-h-eq0.true, λ e. omega arith)

pub returns-else-h-eq0 : goal.returns-else-h-eq0
returns-else-h-eq0 c = (omega arith, odd_line _ _ c.if-group-eq3.true c.if-h-eq0.false, λ e. omega arith)
