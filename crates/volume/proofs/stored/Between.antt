-- Between the ends of l a factor is the pair at its place, whatever the kind of its line.
use mathlib.Core.Path.{◌≡◌, refl}
use mathlib.Core.Logic.{◌⊎◌, inl, inr, ⊎_elim}
use mathlib.Core.Bool.{◌||◌}
use mathlib.Core.List.{List}
use Prim.Native.Nat.{ℕ, ◌/◌, ◌<◌}
use borrow.Author.Tests.{ne_eqb}
use Rattle.algebra.specs.lines.Kinds.{Kind.alternating}
use Rattle.algebra.specs.cells.Cell.{J, Group, P1, P2₁, Pm, Pa, P2₁2₁2₁, span}
use Rattle.numbers.specs.declared.Pair.{Pair}
use Rattle.slices.specs.Pairs.{at}
use Rattle.cell.specs.declared.operations.Index.{Index}
use Rattle.cell.specs.declared.operations.UnitCell.{UnitCell}
use Rattle.cell.specs.Operations.{cell_group}
use Rattle.cell.specs.Volume.{line_kind, pair_place}
use Rattle.cell.specs.Places.{IsStoredFactor}
use Rattle.cell.specs.TestSteps.{IsVolume, IsStored, PairInside}
use Rattle.cell.proofs.LineKinds.{by_alternating, alternating_half}
use Rattle.cell.proofs.StoredFactors.{stored_inside, middle_inside, middle_value, screw_reads, pair_reads, stored_pair}

-- the groups without alternating lines
abbrev Without : Group → Type 0
Without P1 = ⊥
Without P2₁ = Unit {0}
Without Pm = ⊥
Without Pa = ⊥
Without P2₁2₁2₁ = Unit {0}

either : (g : Group) (h : ℕ) → (line_kind g h ≡ alternating) ⊎ (line_kind g h ≡ alternating → ⊥)
either P1 h = inr (by_alternating Without tt tt P1 h)
either P2₁ h = inl refl
either Pm h = inr (by_alternating Without tt tt Pm h)
either Pa h = inr (by_alternating Without tt tt Pa h)
either P2₁2₁2₁ h = inl refl

pub between_inside : {cell : UnitCell} {v : List ℕ} → IsVolume cell v → {j : Index} → IsStored cell j → (j.l ≡ cell.n3 / 2 → ⊥) → PairInside cell v j.l j.h j.k
between_inside {cell} {v} volume {j} stored n = ⊎_elim (λ k. middle_inside volume stored k n) (λ z. stored_inside volume stored z) (either (cell_group cell) j.h)

pub between_value : (g : Group) (a : J) → 0 < a.2 → (m : ℕ) (v : List ℕ) (j : J) → (j.2 ≡ 0 → ⊥) → (j.2 ≡ a.2 → ⊥) → j.2 < span g a.2 → {x : Pair} → x ≡ at v (pair_place g a j.2 j.0 j.1) → IsStoredFactor g a m v j x
between_value g a pos m v j y n s x =
    ⊎_elim (λ k. screw_reads a m v j g k (middle_value a pos m v j y n (alternating_half g j.0 k s) x))
    (λ z. pair_reads g a m v j (stored_pair a pos m v j g z (λ k i. ne_eqb j.2 0 y i || ne_eqb j.2 a.2 n i) s) x) (either g j.0)
