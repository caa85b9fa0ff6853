-- The laws of every admitted length N = 2 A, where d = 1440 / A: e(1/N) is the power d of the root, and every d-th number of a table of half tangents is one of its own.
use mathlib.Core.Path.{◌≡◌, refl, sym, ◌∙◌, ap}
use mathlib.Core.List.{List, [], ◌∷◌}
use Prim.Native.Nat.{ℕ, ◌*◌, ◌/◌, ◌<◌}
use native.Mathlib.Nat as N
use native.Mathlib.Omega.{arith}
use Rattle.algebra.specs.ring.Ring.{pow}
use Rattle.algebra.specs.fourier.Axis.{AxisLaws}
use Rattle.algebra.proofs.ring.Solver.{ring, quote}
use Rattle.algebra.proofs.ring.StarRules.{quote_star}
use Rattle.algebra.proofs.fourier.Transform.{pow_mul}
use Rattle.algebra.proofs.ring.Conj.{conj_pow}
use Rattle.numbers.specs.Value.{IsModulus, Value, field, conj, i, half, part, on_values}
use Rattle.roots.specs.Root.{root, root_of, axis}
use Rattle.roots.specs.Table.{table_root}
use Rattle.roots.specs.TableLaws.{TangentLaws, BackwardTangents}
use Rattle.numbers.proofs.Values.{field_ring, field_star, conj_real}
use Rattle.prime_shape.proofs.Lines as Lines
use Rattle.roots.proofs.Roots.{shape}
use Rattle.lengths.specs.Admitted.{AdmittedLength}
use Rattle.fold_formulas.specs.FoldFormulas.{line_root, tangent}

-- the law of a half tangent t of e goes over to the conjugate, whose half tangent is -t
module _ (m : ℕ) where
  open field m use {add as ◌⊕◌, mul as ◌⊗◌, neg as ⊖◌, one as 𝟙}

  infixl 65 ◌⊕◌
  infixl 70 ◌⊗◌
  infix 75 ⊖◌
  conj_law : (t e : Value m) → conj m t ≡ t → (𝟙 ⊕ ⊖ (i m ⊗ t)) ⊗ (𝟙 ⊕ e) ≡ 𝟙 ⊕ 𝟙 → (𝟙 ⊕ ⊖ (i m ⊗ ⊖ t)) ⊗ (𝟙 ⊕ conj m e) ≡ 𝟙 ⊕ 𝟙
  conj_law t e r h =
      ap (λ y. (𝟙 ⊕ ⊖ (i m ⊗ ⊖ y)) ⊗ (𝟙 ⊕ conj m e)) (sym r)
      ∙ ring (field_ring m) (i m ∷ conj m t ∷ conj m e ∷ []) (search (quote_star, field_star m) depth 40 fits 9999) refl
      ∙ ap (conj m) h
      ∙ ring (field_ring m) [] (search (quote_star, field_star m) depth 40 fits 9999) refl

module _ (m : ℕ) (is : IsModulus m) (A : ℕ) (pos : 0 < A) (divides : A * (1440 / A) ≡ 1440) where
  open field m use {add as ◌⊕◌, mul as ◌⊗◌, neg as ⊖◌, one as 𝟙}

  infixl 65 ◌⊕◌
  infixl 70 ◌⊗◌
  infix 75 ⊖◌
  abbrev d : ℕ
  d = 1440 / A

  abbrev w : Value m
  w = pow (field m) (root m) (1440 / A)

  root_is : root_of m (2 * A) ≡ w
  root_is = Lines.root_is (shape m) A pos divides

  below : (s : ℕ) → s < A → d * s < 1440
  below s l = omega (arith, N.mul-lt-mul_of_pos_left l (Lines.step_pos (shape m) A pos divides))

  -- every power of w is one of the root
  power : (s : ℕ) → pow (field m) (root m) (d * s) ≡ pow (field m) w s
  power s = pow_mul (field_ring m) (root m) d s

  conj_power : (s : ℕ) → conj m (pow (field m) (conj m (root m)) (d * s)) ≡ pow (field m) w s
  conj_power s = conj_pow (field_ring m) (field_star m) (conj m (root m)) (d * s) ∙ ap (λ y. pow (field m) y (d * s)) ((field_star m).conj_conj (root m)) ∙ power s

  -- with any half tangents that keep the law of w's powers
  abbrev HalfTangents : (ℕ → Value m) → Type 0
  HalfTangents tau = (s : ℕ) → 0 < s → s < A → (𝟙 ⊕ ⊖ (i m ⊗ tau s)) ⊗ (𝟙 ⊕ pow (field m) w s) ≡ 𝟙 ⊕ 𝟙

  axis_by : (tau : ℕ → Value m) → HalfTangents tau → on_values m AxisLaws (axis m A) tau
  unfolding half part
  axis_by tau h = Lines.axis_by (shape m) A pos divides tau (λ s o l. rw root_is (h s o l))

  -- the half tangents that w itself gives, for what is said of a length and of no table
  pub own : ℕ → Value m
  own = Lines.own (shape m) A pos divides

  pub axis_own : on_values m AxisLaws (axis m A) own
  unfolding own half part
  axis_own = Lines.axis_by (shape m) A pos divides (Lines.own (shape m) A pos divides) (Lines.own_tangents (shape m) A pos divides)

  module _ {tan : List ℕ} where
    pub axis_forward : TangentLaws m tan → on_values m AxisLaws (axis m A) (tangent m A tan)
    axis_forward h = axis_by (tangent m A tan) (λ s p l. rw (← power s) (h.law (d * s) (below s l)))

    pub axis_backward : BackwardTangents m tan → on_values m AxisLaws (axis m A) (λ s. ⊖ tangent m A tan s)
    axis_backward h =
        axis_by (λ s. ⊖ tangent m A tan s)
        (λ s p l. ap (λ y. (𝟙 ⊕ ⊖ (i m ⊗ ⊖ tangent m A tan s)) ⊗ (𝟙 ⊕ y)) (sym (conj_power s)) ∙ conj_law m (tangent m A tan s) _ (conj_real m _) (h.law (d * s) (below s l)))

  module _ (re im : List ℕ) where
    pub line_root_lem : table_root m re im ≡ root m → line_root m A re im ≡ root_of m (2 * A)
    line_root_lem e = ap (λ y. pow (field m) y d) e ∙ sym root_is

    -- for the lent tables of the conjugate root
    pub conj_line_root : table_root m re im ≡ conj m (root m) → conj m (line_root m A re im) ≡ root_of m (2 * A)
    conj_line_root e =
        conj_pow (field_ring m) (field_star m) (table_root m re im) d
        ∙ ap (λ y. pow (field m) (conj m y) d) e
        ∙ ap (λ y. pow (field m) y d) ((field_star m).conj_conj (root m))
        ∙ sym root_is

-- of an admitted length n = 2 A
pub axis_laws : (m : ℕ) (is : IsModulus m) {n : ℕ} (h : AdmittedLength n) → on_values m AxisLaws (axis m (n / 2)) (own m is (n / 2) h.positive h.half_turns)
axis_laws m is h = axis_own m is _ h.positive h.half_turns
