-- A factor written, as the code writes it.
use mathlib.Core.Path.{◌≡◌, refl, sym, ◌∙◌, ap, ap₂}
use mathlib.Core.Bool.{true, false, ◌||◌, cond}
use mathlib.Core.List.{List}
use Prim.Native.Nat.{ℕ, ◌+◌, ◌*◌}
use lib.Dec.{eqb}
use lib.ListN.{set}
use borrow.Author.Tests.{eq-eqb, ne_eqb}
use Rattle.algebra.specs.lines.Kinds.{Kind, Kind.plain, Kind.hermitian, Kind.antihermitian, Kind.alternating, Kind.symmetric, Kind.antisymmetric}
use Rattle.algebra.specs.cells.Cell.{J, Group}
use Rattle.algebra.specs.cells.CellPack.{even}
use Rattle.numbers.specs.declared.Pair.{Pair}
use Rattle.slices.specs.Pairs.{put}
use Rattle.cell.specs.Volume.{line_kind, pair_place}
use Rattle.cell.specs.Consistency.{write_alternating, write_line, write}

module _ (g : Group) (a : J) (v : List ℕ) (h k l : ℕ) (x : Pair) where
  pub first_written : l ≡ 0 → {q : ℕ} → q ≡ pair_place g a 0 h k → set v (2 * q) x.re ≡ write_alternating g a v h k l x
  unfolding write_alternating
  first_written z e = rw (eq-eqb l 0 z) (ap (λ q. set v (2 * q) x.re) e)

  pub second_written : (l ≡ 0 → ⊥) → l ≡ a.2 → {q y : ℕ} → q ≡ pair_place g a 0 h k → y ≡ cond (even a.2) x.re x.im → set v (2 * q + 1) y ≡ write_alternating g a v h k l x
  unfolding write_alternating
  second_written y z e f = rw (ne_eqb l 0 y, eq-eqb l a.2 z) (ap₂ (λ q y. set v (2 * q + 1) y) e (f ∙ ap (λ l. cond (even l) x.re x.im) (sym z)))

  pub pair_written : (l ≡ 0 → ⊥) → (l ≡ a.2 → ⊥) → {q : ℕ} {w : List ℕ} → q ≡ pair_place g a l h k → w ≡ put v q x → w ≡ write_alternating g a v h k l x
  unfolding write_alternating
  pair_written y z e f = rw (ne_eqb l 0 y, ne_eqb l a.2 z) (f ∙ ap (λ q. put v q x) e)

-- a line that is not alternating gets a pair, but not at the ends of an antisymmetric one
other_line : (g : Group) (a : J) (v : List ℕ) (j : J) (x : Pair) (K : Kind) → (K ≡ alternating → ⊥) → (K ≡ antisymmetric → (eqb j.2 0 || eqb j.2 a.2) ≡ false) → put v (pair_place g a j.2 j.0 j.1) x ≡ write_line g a K v j x
other_line g a v j x plain z y = refl
other_line g a v j x hermitian z y = refl
other_line g a v j x antihermitian z y = refl
other_line g a v j x alternating z y = absurd (z refl)
other_line g a v j x symmetric z y = refl
other_line g a v j x antisymmetric z y = rw (y refl) refl

module _ (g : Group) (a : J) (v : List ℕ) (j : J) (x : Pair) {w : List ℕ} where
  pub alternating_written : line_kind g j.0 ≡ alternating → w ≡ write_alternating g a v j.0 j.1 j.2 x → w ≡ write g a v j x
  unfolding write
  alternating_written e f = rw e f

  pub factor_written : (line_kind g j.0 ≡ alternating → ⊥) → (line_kind g j.0 ≡ antisymmetric → (eqb j.2 0 || eqb j.2 a.2) ≡ false) → {q : ℕ} → q ≡ pair_place g a j.2 j.0 j.1 → w ≡ put v q x → w ≡ write g a v j x
  unfolding write
  factor_written z y e f = f ∙ ap (λ q. put v q x) e ∙ other_line g a v j x (line_kind g j.0) z y

pub absent_written : (g : Group) (a : J) (v : List ℕ) (j : J) (x : Pair) → line_kind g j.0 ≡ antisymmetric → (eqb j.2 0 || eqb j.2 a.2) ≡ true → v ≡ write g a v j x
unfolding write
absent_written g a v j x e f = rw (e, f) refl
