-- Every transform fact, for every prime of the shape: of a line of any admitted length 2 A, where A divides 1,440, and of a cell of three such lengths.
use mathlib.Core.Path.{◌≡◌, refl, sym, ◌∙◌, ap, subst}
use mathlib.Core.Bool.{Bool, true, false}
use mathlib.Core.List.{[], ◌∷◌}
use Prim.Native.Nat.{ℕ, zero, suc, ◌+◌, ◌*◌, ◌/◌, ◌<◌}
use native.Mathlib.Nat as N
use native.Mathlib.Omega.{arith}
use native.Mathlib.Decide.{dec_lt}
use Rattle.algebra.specs.ring.Ring.{pow, dft}
use Rattle.algebra.specs.fourier.Axis.{cast, Root, AxisLaws}
use Rattle.algebra.specs.lines.Kinds.{Kind}
use Rattle.algebra.proofs.ring.Laws.{pow_add, neg_one_mul}
use Rattle.algebra.proofs.ring.Solver.{ring, quote, linear}
use Rattle.algebra.proofs.fourier.Transform.{pow_mul, root_of_lem}
use Rattle.algebra.proofs.ring.Conj.{conj_pow}
use Rattle.algebra.proofs.lines.FoldAll.{forward_is, back_is, restores, restores_after}
use Rattle.algebra.proofs.lines.Rules.{before_rule, after_rule, before_pack, after_pack, transform_rule, inverse_rule}
use Rattle.algebra.specs.cells.Cell.{neg_i}
use Rattle.algebra.specs.cells.CellPack.{even}
use Rattle.algebra.proofs.cells.CellMap.{factors_map, map_factors}
use Rattle.algebra.proofs.cells.CellOps.{friedel_real}
use Rattle.algebra.proofs.cells.CellPower.{power}
use Rattle.algebra.proofs.cells.CellCorrelation.{correlation}
use Rattle.algebra.proofs.cells.CellSteps.{synthesis, analysis, hermitian}
use Rattle.algebra.proofs.cells.CellLines.{line_P2₁, line_Pm, line_Pa, line_4}
use Rattle.algebra.proofs.cells.CellLawful.{map_lawful}
use Rattle.algebra.proofs.cells.CellPack.{sign_of, pow_even}
use Rattle.prime_shape.specs.Shape.{Value, field, conj, i, part, Shape}
use Rattle.prime_shape.specs.Transform.{root_of, axis_of, forward_of, inverse_of, whole_before, whole_after, HalfTangents, LineFacts, CellFacts, SumFacts, PassFacts, EveryPrime, EveryVolume}
use Rattle.prime_shape.proofs.Inverses.{ring_of}
use Rattle.prime_shape.proofs.Packed.{pack_facts}
use Rattle.prime_shape.proofs.Shapes.{field_ring, field_star, part_law, half_law, half_turn, root_of_unity}

module _ {p c a : ℕ} {r : Value p} (S : Shape p c a r) where
  open field p use {add as ◌⊕◌, mul as ◌⊗◌, neg as ⊖◌, one as 𝟙}

  infixl 65 ◌⊕◌
  infixl 70 ◌⊗◌
  infix 75 ⊖◌
  module _ (A : ℕ) (pos : 0 < A) (divides : A * (1440 / A) ≡ 1440) where
    abbrev d : ℕ
    d = 1440 / A

    abbrev w : Value p
    w = pow (field p) r (1440 / A)

    pub root_is : root_of p r (2 * A) ≡ w
    root_is = ap (pow (field p) r) (N.div-eq_of_eq-mul_left (omega arith) (omega arith))

    pub step_pos : 0 < d
    step_pos = go d divides
      where
        go : (d : ℕ) → A * d ≡ 1440 → 0 < d
        go zero e = absurd (omega arith)
        go (suc d) e = omega arith

    order : Root (field p) (2 * A) w (conj p w) (part p (2 * A))
    order = record {
      inverse = ap (λ y. w ⊗ y) (conj_pow (field_ring S) (field_star S) r d) ∙ u.inverse;
      cycle = u.cycle;
      apart = u.apart;
      part_of = part_law S (2 * A) d (omega arith);
    }
      where
        u : Root (field p) (2 * A) w (pow (field p) (conj p r) d) (part p 2880 ⊗ cast (field p) d)
        u = root_of_lem (field_ring S) d (2 * A) r (conj p r) (part p 2880) step_pos (subst (λ n. Root (field p) n r (conj p r) (part p 2880)) (omega arith) (root_of_unity S))

    turned : pow (field p) w A ≡ ⊖ 𝟙
    turned = sym (pow_mul (field_ring S) r d A) ∙ ap (pow (field p) r) (N.mul_comm d A ∙ divides) ∙ half_turn S

    pub axis_by : (tau : ℕ → Value p) → HalfTangents p r A tau → AxisLaws (field p) (conj p) (i p) (part p 2) (axis_of p r A) tau
    axis_by tau h = record {
      positive = pos;
      root = rw root_is order;
      turn = ap (λ y. pow (field p) y A) root_is ∙ turned;
      halves = half_law S;
      tan = h;
    }

    -- 1 + w^s has an inverse, since w^(A + s) - 1 has one
    inverse_at : (s : ℕ) → s < A → (v : Value p) × (v ⊗ (pow (field p) w (A + s) ⊕ ⊖ 𝟙) ≡ 𝟙)
    inverse_at s l = order.apart (A + s) (omega arith) (omega arith)

    own_at : (s : ℕ) → Dec (s < A) → Value p
    own_at s (yes l) = let v = (inverse_at s l).0 in ⊖ (i p ⊗ (𝟙 ⊕ (v ⊕ v)))
    own_at s (no n) = 𝟙

    own_law : (s : ℕ) → s < A → (h : Dec (s < A)) → (𝟙 ⊕ ⊖ (i p ⊗ own_at s h)) ⊗ (𝟙 ⊕ pow (field p) w s) ≡ 𝟙 ⊕ 𝟙
    unfolding own_at
    own_law s l (no n) = absurd (n l)
    own_law s l (yes h) = step (i p) (inverse_at s h).0 (pow (field p) w s) (pow (field p) w (A + s)) (inverse_at s h).1 (pow_add (field_ring S) w A s ∙ ap (λ y. y ⊗ pow (field p) w s) turned) (field_star S).i_square
      where
        step : (j v e f : Value p) → v ⊗ (f ⊕ ⊖ 𝟙) ≡ 𝟙 → f ≡ ⊖ 𝟙 ⊗ e → j ⊗ j ≡ ⊖ 𝟙 → (𝟙 ⊕ ⊖ (j ⊗ ⊖ (j ⊗ (𝟙 ⊕ (v ⊕ v))))) ⊗ (𝟙 ⊕ e) ≡ 𝟙 ⊕ 𝟙
        step j v e f a b c =
            linear (field_ring S) a (𝟙 ⊕ 𝟙)
            (linear (field_ring S) b (⊖ (v ⊕ v))
            (linear (field_ring S) c ((𝟙 ⊕ (v ⊕ v)) ⊗ (𝟙 ⊕ e))
            (ring (field_ring S) (j ∷ v ∷ e ∷ f ∷ []) (search quote depth 40 fits 9999) refl)))

    pub own : ℕ → Value p
    own s = own_at s (dec_lt s A)

    pub own_tangents : HalfTangents p r A own
    unfolding own
    own_tangents s o l = rw root_is (own_law s l (dec_lt s A))

    axis : AxisLaws (field p) (conj p) (i p) (part p 2) (axis_of p r A) own
    axis = axis_by own own_tangents

    whole_forward : (k : Kind) (X : ℕ → Value p) (s : ℕ) → s < 2 * A → whole_after p r A k (forward_of p r A k X) s ≡ dft (field p) (2 * A) (root_of p r (2 * A)) (whole_before p r A k X) s
    whole_forward k X s l = after_pack (field_ring S) (field_star S) axis k _ (transform_rule (field_ring S) (field_star S) axis k _ (before_rule (field_ring S) (field_star S) axis k X)) s l

    whole_back : (k : Kind) (X : ℕ → Value p) (t : ℕ) → t < 2 * A → whole_before p r A k (inverse_of p r A k X) t ≡ part p (2 * A) ⊗ dft (field p) (2 * A) (conj p (root_of p r (2 * A))) (whole_after p r A k X) t
    whole_back k X t l = before_pack (field_ring S) (field_star S) axis k _ (inverse_rule (field_ring S) (field_star S) axis k _ (after_rule (field_ring S) (field_star S) axis k X)) t l

    pub line_facts : LineFacts p r A
    unfolding dft
    line_facts = record {
      root = rw root_is order;
      axis = axis_by;
      some_tangents = (own, own_tangents);
      forward_is_sum = whole_forward;
      back_is_sum = whole_back;
      restored = restores (field_ring S) (field_star S) axis;
      restored_after = restores_after (field_ring S) (field_star S) axis;
      fold_is = λ tau h. forward_is (field_ring S) (field_star S) (axis_by tau h);
      fold_back_is = λ tau h. back_is (field_ring S) (field_star S) (axis_by tau h);
    }

  module _ (A B C : ℕ) (x : LineFacts p r A) (y : LineFacts p r B) (z : LineFacts p r C) where
    abbrev X : AxisLaws (field p) (conj p) (i p) (part p 2) (axis_of p r A) x.some_tangents.0
    X = x.axis x.some_tangents.0 x.some_tangents.1

    abbrev Y : AxisLaws (field p) (conj p) (i p) (part p 2) (axis_of p r B) y.some_tangents.0
    Y = y.axis y.some_tangents.0 y.some_tangents.1

    abbrev Z : AxisLaws (field p) (conj p) (i p) (part p 2) (axis_of p r C) z.some_tangents.0
    Z = z.axis z.some_tangents.0 z.some_tangents.1

    pub cell_facts : CellFacts p r A B C
    cell_facts = record { factors_map = factors_map (field_ring S) X Y Z; map_factors = map_factors (field_ring S) X Y Z }

    pub sum_facts : SumFacts p r A B C
    sum_facts = record {
      real = λ F o x y z lx ly lz. sym ((friedel_real (field_ring S) (field_star S) X Y Z F).0 o (x, y, z) (lx, ly, lz));
      power = power (field_ring S) (field_star S) X Y Z;
      correlation = λ M K real s t u. correlation (field_ring S) (field_star S) X Y Z s t u M K real;
    }

    -- (-1)^h, by the parity of h
    sign_of_lem : (h : ℕ) (b : Bool) → even h ≡ b → pow (field p) (⊖ 𝟙) h ≡ sign_of (ring_of S.is_prime) b
    sign_of_lem h b e = pow_even (ring_of S.is_prime) h ∙ ap (sign_of (ring_of S.is_prime)) e

    -- i times -s conj v is s times the conjugate of i v
    turned_rule : (s v : Value p) → i p ⊗ (⊖ 𝟙 ⊗ (s ⊗ conj p v)) ≡ s ⊗ conj p (i p ⊗ v)
    turned_rule s v = step s (conj p v) ∙ ap (λ y. s ⊗ y) (ap (λ y. y ⊗ conj p v) (sym (field_star S).conj_i) ∙ sym ((field_star S).conj_mul (i p) v))
      where
        step : (s u : Value p) → i p ⊗ (⊖ 𝟙 ⊗ (s ⊗ u)) ≡ s ⊗ (⊖ i p ⊗ u)
        step s u = ring (field_ring S) (i p ∷ s ∷ u ∷ []) (search quote depth 40 fits 9999) refl

    pub pass_facts : PassFacts p r A B C
    unfolding neg_i
    pass_facts = record {
      passes = synthesis (field_ring S) (conj p) (axis_of p r A) (axis_of p r B) (axis_of p r C);
      passes_back = analysis (field_ring S) (conj p) (axis_of p r A) (axis_of p r B) (axis_of p r C);
      p21 = λ F o h k lh lk l ll. line_P2₁ (field_ring S) (field_star S) (A, B, C) F o h k l lh lk ll;
      pm = λ F o h k lh lk l ll. line_Pm (field_ring S) (field_star S) (A, B, C) F o h k l lh lk ll;
      pa_even = λ F o h k lh lk e l ll. line_Pa (field_ring S) (field_star S) (A, B, C) F o h k l lh lk ll ∙ ap (λ y. y ⊗ F h k l) (sign_of_lem h true e) ∙ (field_ring S).one_mul _;
      pa_odd = λ F o h k lh lk e l ll. line_Pa (field_ring S) (field_star S) (A, B, C) F o h k l lh lk ll ∙ ap (λ y. y ⊗ F h k l) (sign_of_lem h false e) ∙ neg_one_mul (field_ring S) _;
      p212121_even = λ F o h k lh lk e l ll. line_4 (field_ring S) (field_star S) (A, B, C) F o h k l lh lk ll ∙ ap (λ y. y ⊗ (pow (field p) (⊖ 𝟙) l ⊗ conj p (F h k l))) (sign_of_lem h true e) ∙ (field_ring S).one_mul _;
      p212121_odd = λ F o h k lh lk e l ll. ap (λ y. i p ⊗ y) (line_4 (field_ring S) (field_star S) (A, B, C) F o h k l lh lk ll ∙ ap (λ y. y ⊗ (pow (field p) (⊖ 𝟙) l ⊗ conj p (F h k l))) (sign_of_lem h false e)) ∙ turned_rule (pow (field p) (⊖ 𝟙) l) (F h k l);
      along_k_lem = λ F o x z lx lz k lk. hermitian (field_ring S) (field_star S) X Y Z F o x k z lx lk lz;
      images = map_lawful (field_ring S) (field_star S) X Y Z;
    }

pub every_prime : EveryPrime
every_prime = record {
  lines = λ p c a r S. line_facts S;
  cells = λ p c a r S A B C x y z dx dy dz. cell_facts S A B C (line_facts S A x dx) (line_facts S B y dy) (line_facts S C z dz);
  sums = λ p c a r S A B C x y z dx dy dz. sum_facts S A B C (line_facts S A x dx) (line_facts S B y dy) (line_facts S C z dz);
  passes = λ p c a r S A B C x y z dx dy dz. pass_facts S A B C (line_facts S A x dx) (line_facts S B y dy) (line_facts S C z dz);
}

pub every_volume : EveryVolume
every_volume p c a r S A B C x y z dx dy dz =
    pack_facts S A B C (line_facts S A x dx) (line_facts S B y dy) (line_facts S C z dz)
    (pass_facts S A B C (line_facts S A x dx) (line_facts S B y dy) (line_facts S C z dz))
