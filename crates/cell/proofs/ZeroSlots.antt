-- Pa's zero slots, the pairs 0 and A of an odd h's line: no number is read there, so the orbit of such an index is free whatever the volume holds.
use mathlib.Core.Path.{◌≡◌, refl, sym, ◌∙◌, ap, subst}
use mathlib.Core.Logic.{◌⊎◌, inl, inr}
use mathlib.Core.Bool.{Bool, true, false, ◌||◌, cond}
use mathlib.Core.List.{List, []}
use Prim.Native.Nat.{ℕ, ◌*◌, ◌%◌, ◌<◌}
use native.Mathlib.Omega.{arith}
use lib.Dec.{eqb, leb}
use borrow.Author.Tests.{eq-eqb, ne_eqb}
use Rattle.algebra.specs.lines.Kinds.{Kind.symmetric, Kind.antisymmetric}
use Rattle.algebra.specs.cells.Cell.{J, Inside, Sym, Pa, full, image_of, neg_i, flip}
use Rattle.algebra.specs.cells.Cell as Cell
use Rattle.algebra.proofs.cells.CellAxis.{neg_zero, neg_pos}
use Rattle.algebra.proofs.cells.CellSym.{image_inside}
use Rattle.algebra.proofs.cells.CellTests.{Positive}
use Rattle.cell.specs.Volume.{line_kind, line_numbers, numbers_read}
use Rattle.cell.specs.Consistency.{orbit_free}
use Rattle.cell.proofs.Tests.{true_iff}
use Rattle.cell.proofs.PlaceLaws.{even_tested}
use Rattle.cell.proofs.OrbitNumbers.{Free, orbit_free_iff}

module _ (a : J) (long : Positive a) where
  -- l is 0 or A
  abbrev AtEnd : ℕ → Type 0
  AtEnd l = (l ≡ 0) ⊎ (l ≡ a.2)

  odd_negated : (h : ℕ) → h % 2 ≡ 1 → h < 2 * a.0 → neg_i a.0 h % 2 ≡ 1
  odd_negated h o l = ap (λ n. n % 2) (neg_pos a.0 h (omega (arith, o)) l) ∙ omega (arith, o)

  end_negated : (l : ℕ) → AtEnd l → AtEnd (neg_i a.2 l)
  end_negated l (inl e) = inl (ap (neg_i a.2) e ∙ neg_zero a.2)
  end_negated l (inr e) = inr (ap (neg_i a.2) e ∙ neg_pos a.2 a.2 long.2 (omega (arith, long.2)) ∙ omega arith)

  odd_image : (b : Bool) (h : ℕ) → h % 2 ≡ 1 → h < 2 * a.0 → flip b a.0 h % 2 ≡ 1
  unfolding flip
  odd_image false h o l = o
  odd_image true h o l = odd_negated h o l

  end_image : (b : Bool) (l : ℕ) → AtEnd l → AtEnd (flip b a.2 l)
  unfolding flip
  end_image false l e = e
  end_image true l e = end_negated l e

  -- ---- no number is read

  at_end : (l : ℕ) → AtEnd l → (eqb l 0 || eqb l a.2) ≡ true
  at_end l (inl e) = ap (λ t. t || eqb l a.2) (eq-eqb l 0 e)
  at_end l (inr e) = ap (λ t. eqb l 0 || t) (eq-eqb l a.2 e) ∙ or_true (eqb l 0)
    where
      or_true : (b : Bool) → (b || true) ≡ true
      or_true true = refl
      or_true false = refl

  line_none : (h k l : ℕ) → h % 2 ≡ 1 → AtEnd l → line_numbers Pa a (line_kind Pa h) h k l ≡ []
  line_none h k l o e =
      ap (λ b. line_numbers Pa a (cond b symmetric antisymmetric) h k l) (sym (even_tested h) ∙ ne_eqb (h % 2) 0 (λ z. omega (arith, o, z)))
      ∙ ap (λ t. cond t [] (line_numbers Pa a symmetric h k l)) (at_end l e)

  read_none : (j : J) → Inside a j → j.0 % 2 ≡ 1 → AtEnd j.2 → numbers_read Pa a j ≡ []
  unfolding numbers_read
  read_none j n o e = both (leb j.1 a.1) (line_none j.0 j.1 j.2 o e) (line_none (neg_i a.0 j.0) (neg_i a.1 j.1) (neg_i a.2 j.2) (odd_negated j.0 o n.0) (end_negated j.2 e))
    where
      both : (b : Bool) {x y : List ℕ} → x ≡ [] → y ≡ [] → cond b x y ≡ []
      both true p q = p
      both false p q = q

  image_none : (s : Sym) (j : J) → Inside a j → j.0 % 2 ≡ 1 → AtEnd j.2 → numbers_read Pa a (image_of a s j) ≡ []
  unfolding image_of
  image_none (Cell.sym c f g h p q r) j n o e = read_none _ (image_inside a (Cell.sym c f g h p q r) j n) (odd_image f j.0 o n.0) (end_image h j.2 e)

  pub slot_free : (v : List ℕ) (j : J) → Inside a j → j.0 % 2 ≡ 1 → AtEnd j.2 → orbit_free Pa a v j ≡ true
  unfolding orbit_free Cell.every
  slot_free v j n o e = (true_iff _).1 ((orbit_free_iff Pa a v (full Pa) j).1 (λ s m. subst (λ (l : List ℕ). Free v l) (sym (image_none s j n o e)) tt))
