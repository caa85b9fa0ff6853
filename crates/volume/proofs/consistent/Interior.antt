-- An index between the ends of k and of l: no operation but the identity leads to a stored index; but in P2₁2₁2₁ one does, that which changes the sign of h alone.
use mathlib.Core.Path.{◌≡◌, refl, sym, ◌∙◌, ap, subst}
use mathlib.Core.Bool.{Bool, true, false, ◌&&◌, ◌||◌, not}
use mathlib.Core.List.{List, [], ◌∷◌}
use Prim.Native.Nat.{ℕ, zero, suc, ◌*◌, ◌/◌, ◌≤◌, ◌<◌}
use native.Mathlib.Omega.{arith}
use lib.Dec.{T, leb, ltb, eqb}
use borrow.Author.Tests.{le-ltb, lt-leb, eqb-true, eqb-false}
use Rattle.algebra.specs.cells.Cell.{J, Sym, Sym.sym as op, friedel, Group, P1, P2₁, Pm, Pa, P2₁2₁2₁, span, image_of, flip, neg_i, every}
use Rattle.algebra.proofs.cells.CellAxis.{neg_pos}
use Rattle.algebra.proofs.cells.CellTests.{stored_iff}
use Rattle.cell.specs.Volume.{group_of}
use Rattle.cell.specs.Consistency.{line_agrees}
use Rattle.cell.specs.declared.operations.UnitCell.{UnitCell}
use Rattle.cell.specs.Operations.{cell_halves}
use Rattle.cell.specs.TestSteps.{image_agrees, mirrored, InnerAgree}
use Rattle.volume.proofs.consistent.TestLaws.{identity_agrees, image_skipped, agrees_back}

and_true : (b : Bool) → (b && true) ≡ b
and_true true = refl
and_true false = refl

module _ {A : Type 0} (P : A → Bool) where
  both : {s t : A} → P s ≡ true → P t ≡ true → every (s ∷ t ∷ []) P ≡ true
  unfolding every
  both e f = λ i. e i && (f i && true)

  four : {s t u v : A} → P s ≡ true → P t ≡ true → P u ≡ true → P v ≡ true → every (s ∷ t ∷ u ∷ v ∷ []) P ≡ true
  unfolding every
  four e f g h = λ i. e i && (f i && (g i && (h i && true)))

  last_of_eight : {s t u v w x y z : A} → P s ≡ true → P t ≡ true → P u ≡ true → P v ≡ true → P w ≡ true → P x ≡ true → P y ≡ true → every (s ∷ t ∷ u ∷ v ∷ w ∷ x ∷ y ∷ z ∷ []) P ≡ P z
  unfolding every
  last_of_eight {z = z} a b c d e f g = (λ i. a i && (b i && (c i && (d i && (e i && (f i && (g i && (P z && true)))))))) ∙ and_true (P z)

-- the groups but P2₁2₁2₁
by_four : (P : Group → Type 0) → P P1 → P P2₁ → P Pm → P Pa → (n : ℕ) → n < 5 → (n ≡ 4 → ⊥) → P (group_of n)
by_four P a b c d zero l z = a
by_four P a b c d (suc zero) l z = b
by_four P a b c d (suc (suc zero)) l z = c
by_four P a b c d (suc (suc (suc zero))) l z = d
by_four P a b c d (suc (suc (suc (suc zero)))) l z = absurd (z refl)
by_four P a b c d (suc (suc (suc (suc (suc n))))) l z = absurd (omega arith)

and_false : (b : Bool) → (b && false) ≡ false
and_false true = refl
and_false false = refl

module _ (a : J) (m : ℕ) (v : List ℕ) (j : J) where
  -- the sign of k changes
  k_skipped : (g : Group) (s : Sym) → (image_of a s j).1 ≡ neg_i a.1 j.1 → 0 < j.1 → j.1 < a.1 → image_agrees g a m v j s ≡ true
  k_skipped g s e lo hi =
      let out : a.1 < (image_of a s j).1 = omega (arith, e, neg_pos a.1 j.1 lo (omega arith)) in
      sym (image_skipped g a m v j s refl (sym (ap (λ b. b && ltb (image_of a s j).2 (span g a.2)) (lt-leb _ _ out))) refl)

  -- the sign of l changes, where the lines are stored up to A
  l_skipped : (g : Group) (s : Sym) → span g a.2 ≡ suc a.2 → (image_of a s j).2 ≡ neg_i a.2 j.2 → 0 < j.2 → j.2 < a.2 → image_agrees g a m v j s ≡ true
  l_skipped g s w e lo hi =
      let out : span g a.2 ≤ (image_of a s j).2 = omega (arith, w, e, neg_pos a.2 j.2 lo (omega arith)) in
      sym (image_skipped g a m v j s refl (sym (ap (λ b. leb (image_of a s j).1 a.1 && b) (le-ltb _ _ out) ∙ and_false (leb (image_of a s j).1 a.1))) refl)

  module _ (lo : 0 < j.1) (hi : j.1 < a.1) where
    -- Friedel's rule changes every sign
    mate : (g : Group) → image_agrees g a m v j friedel ≡ true
    unfolding image_of flip
    mate g = k_skipped g friedel refl lo hi

    pub inner_P1 : line_agrees P1 a m v j ≡ true
    inner_P1 = both (image_agrees P1 a m v j) (identity_agrees P1 a m v j) (mate P1)

    pub inner : (n : ℕ) → n < 5 → (n ≡ 4 → ⊥) → 0 < j.2 → j.2 < a.2 → line_agrees (group_of n) a m v j ≡ true
    unfolding image_of flip span
    inner n l z lo' hi' =
        by_four (λ g. line_agrees g a m v j ≡ true)
        inner_P1
        (four (image_agrees P2₁ a m v j) (identity_agrees P2₁ a m v j) (k_skipped P2₁ (op false true true false false false true) refl lo hi) (mate P2₁) (l_skipped P2₁ (op true false false true false false true) refl refl lo' hi'))
        (four (image_agrees Pm a m v j) (identity_agrees Pm a m v j) (l_skipped Pm (op false false false true false false false) refl refl lo' hi') (mate Pm) (k_skipped Pm (op true true true false false false false) refl lo hi))
        (four (image_agrees Pa a m v j) (identity_agrees Pa a m v j) (l_skipped Pa (op false false false true true false false) refl refl lo' hi') (mate Pa) (k_skipped Pa (op true true true false true false false) refl lo hi))
        n l z

    -- P2₁2₁2₁: Friedel's rule after the third operation, F(-h, k, l) = (-1)^(h + k) conj F(h, k, l), is the one image to be tried
    pub inner_4 : 0 < j.2 → j.2 < a.2 → line_agrees P2₁2₁2₁ a m v j ≡ image_agrees P2₁2₁2₁ a m v j (op true true false false true true false)
    unfolding image_of flip span
    inner_4 lo' hi' =
        last_of_eight (image_agrees P2₁2₁2₁ a m v j)
        (identity_agrees P2₁2₁2₁ a m v j)
        (k_skipped P2₁2₁2₁ (op false true true false true false true) refl lo hi)
        (l_skipped P2₁2₁2₁ (op false true false true false true true) refl refl lo' hi')
        (k_skipped P2₁2₁2₁ (op false false true true true true false) refl lo hi)
        (mate P2₁2₁2₁)
        (l_skipped P2₁2₁2₁ (op true false false true true false true) refl refl lo' hi')
        (k_skipped P2₁2₁2₁ (op true false true false false true true) refl lo hi)

-- the rows of which the ends alone are to be tried, by what the code finds of l
pub inner_rows : (c : UnitCell) (l : ℕ) → c.group < 5 → {b : Bool} → (b ≡ true → (0 < l) × (l < c.n3 / 2)) → (eqb c.group 0 || (not (eqb c.group 4) && b)) ≡ true → InnerAgree c l
inner_rows c l known {b} between t m v h k lo hi = by_either (eqb c.group 0) (eqb c.group 4) b t
    (λ e. ap (λ n. line_agrees (group_of n) (cell_halves c) m v (h, k, l)) (eqb-true c.group 0 e) ∙ inner_P1 (cell_halves c) m v (h, k, l) lo hi)
    (λ e u. let w = between u in inner (cell_halves c) m v (h, k, l) lo hi c.group known (eqb-false c.group 4 e) w.0 w.1)
  where
    by_either : {A : Type 0} (x y z : Bool) → (x || (not y && z)) ≡ true → (x ≡ true → A) → (y ≡ false → z ≡ true → A) → A
    by_either true y z t f g = f refl
    by_either false true z t f g = absurd (subst T (sym t) tt)
    by_either false false true t f g = g refl refl
    by_either false false false t f g = absurd (subst T (sym t) tt)

-- that image keeps k and l
module _ (a j : J) {i : J} (e : i ≡ image_of a mirrored j) where
  pub mirrored_k : i.1 ≡ j.1
  unfolding image_of flip
  mirrored_k = λ t. (e t).1

  pub mirrored_l : i.2 ≡ j.2
  unfolding image_of flip
  mirrored_l = λ t. (e t).2

-- it is tried at h or at -h
pub mirror_4 : (a : J) (m : ℕ) (v : List ℕ) (j : J) → j.0 < 2 * a.0 → 0 < j.1 → j.1 < a.1 → 0 < j.2 → j.2 < a.2 → line_agrees P2₁2₁2₁ a m v (neg_i a.0 j.0, j.1, j.2) ≡ true → line_agrees P2₁2₁2₁ a m v j ≡ true
unfolding image_of flip span
mirror_4 a m v j n lo hi lo' hi' e =
    inner_4 a m v j lo hi lo' hi'
    ∙ agrees_back P2₁2₁2₁ a m v j (op true true false false true true false) (n, omega arith, omega arith) ((stored_iff P2₁2₁2₁ a j).1 (omega arith, omega arith))
    (sym (inner_4 a m v (neg_i a.0 j.0, j.1, j.2) lo hi lo' hi') ∙ e)
