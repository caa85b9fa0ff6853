-- Kind 3, alternating, forward: X(2t) + i X(2t + 1) is transformed, and the halves are parted by half tangents.
use mathlib.Core.Path.{◌≡◌, refl, sym, ◌∙◌, ap, ap₂}
use mathlib.Core.List.{[], ◌∷◌}
use Prim.Native.Nat.{ℕ, zero, suc, ◌+◌, ◌*◌, ◌-◌, ◌%◌, ◌<◌}
use native.Mathlib.Nat as N
use native.Mathlib.Omega.{arith}
use Rattle.algebra.specs.ring.Ring.{Ops, pow, sum, dft}
use Rattle.algebra.specs.ring.RingLaws.{CRing, Star}
use Rattle.algebra.specs.fourier.Axis.{Axis, AxisLaws}
use Rattle.algebra.proofs.ring.Solver.{ring, quote, linear}
use Rattle.algebra.specs.lines.Kinds.{Reflected, sign, re, im}
use Rattle.algebra.specs.lines.Packings.{Alternating, unfold_b3}
use Rattle.algebra.specs.lines.Folds.{alternating_point as alternating-point-of, finish3 as finish3-of}
use Rattle.algebra.proofs.ring.Laws.{along}
use Rattle.algebra.proofs.fourier.Transform.{pow_zero, dft_add, dft_mul, sign_even, dft_zero}
use Rattle.algebra.proofs.ring.Conj.{conj_pow, conj_dft}
use Rattle.algebra.proofs.lines.Unfold.{at_zero, at_mirror}
use Rattle.algebra.proofs.fourier.Properties.{dft_mirror, split_time, turn_square, alternating_halves, split_time_above}
use Rattle.algebra.proofs.fourier.Axis.{pow_inverse}
use Rattle.algebra.proofs.lines.Parts.{im_sum_lem}
use Rattle.algebra.proofs.lines.Rules.{unfold_b3_rule}
use Rattle.algebra.proofs.fourier.Tangents.{cot, csc, csc_law, cot_law}

module _ {R : Type 0} {𝓞 : Ops R} {conj : R → R} {i : R} (𝓡 : CRing 𝓞) (𝓢 : Star 𝓞 conj i) {half : R} {axis : Axis R} {tau : ℕ → R} (𝓐 : AxisLaws 𝓞 conj i half axis tau) where
  open 𝓞 use {add as ◌⊕◌, mul as ◌⊗◌, neg as ⊖◌, zer as 𝟘, one as 𝟙}
  open 𝓡 use {one_mul}
  open 𝓢 use {conj_add, conj_mul, i_square, conj_i}
  open axis use {half as A, w}
  open 𝓐 use {root, turn, halves}
  open root use {inverse}

  infixl 65 ◌⊕◌
  infixl 70 ◌⊗◌
  infix 75 ⊖◌
  abbrev ℜ : R → R
  ℜ z = re 𝓞 conj i half z

  abbrev ℑ : R → R
  ℑ z = im 𝓞 conj i half z

  module _ (X : ℕ → R) where
    abbrev evens : ℕ → R
    evens = dft 𝓞 A (pow 𝓞 w 2) (λ t. X (2 * t))

    abbrev odds : ℕ → R
    odds = dft 𝓞 A (pow 𝓞 w 2) (λ t. X (2 * t + 1))

    -- the plain line of A points
    abbrev pub alternating_point : ℕ → R
    alternating_point = alternating-point-of 𝓞 i X

    alternating_point_is : (s : ℕ) → dft 𝓞 A (pow 𝓞 w 2) alternating_point s ≡ evens s ⊕ i ⊗ odds s
    unfolding alternating-point-of
    alternating_point_is s = dft_add 𝓡 A _ _ _ s ∙ ap (λ y. evens s ⊕ y) (dft_mul 𝓡 A _ i _ s)

    module _ (alt : Alternating 𝓞 conj (2 * A) X) where
      -- the even places are a Hermitian line of A values
      even_rule : Reflected 𝓞 A (λ t x. conj x) (λ t. X (2 * t))
      even_rule zero l = ap (λ k. X (2 * k)) (along (λ k. k % A) (A - 0) A (omega arith) ∙ N.mod_self A) ∙ ap X (N.mul-zero 2) ∙ at_zero 𝓡 (2 * A) (λ t x. sign 𝓞 t ⊗ conj x) X (omega arith) alt ∙ ap (λ y. y ⊗ conj (X 0)) (pow_zero 𝓡 (⊖ 𝟙)) ∙ one_mul _ ∙ ap (λ k. conj (X k)) (sym (N.mul-zero 2))
      even_rule (suc t) l = ap (λ k. X (2 * k)) (N.mod-eq_of_lt (omega arith)) ∙ at_mirror 𝓡 (2 * A) (λ t x. sign 𝓞 t ⊗ conj x) X alt (2 * suc t) (2 * (A - suc t)) (omega arith) (omega arith) (omega arith) ∙ ap (λ y. y ⊗ conj (X (2 * suc t))) (sign_even 𝓡 (suc t)) ∙ one_mul _

      pub evens_real : (s : ℕ) → conj (dft 𝓞 A (pow 𝓞 w 2) (λ t. X (2 * t)) s) ≡ dft 𝓞 A (pow 𝓞 w 2) (λ t. X (2 * t)) s
      evens_real s = conj_dft 𝓡 𝓢 A (pow 𝓞 w 2) _ s ∙ ap (λ y. dft 𝓞 A y (λ t. conj (X (2 * t))) s) (conj_pow 𝓡 𝓢 w 2) ∙ sym (dft_mirror 𝓡 A (pow 𝓞 w 2) (pow 𝓞 (conj w) 2) (pow_inverse 𝓡 𝓢 𝓐 2) (turn_square 𝓡 A w turn) (λ t x. conj x) (λ t. X (2 * t)) even_rule s)

      -- w^s odds is imaginary
      pub odds_imaginary : (s : ℕ) → conj (pow 𝓞 w s ⊗ dft 𝓞 A (pow 𝓞 w 2) (λ t. X (2 * t + 1)) s) ≡ ⊖ (pow 𝓞 w s ⊗ dft 𝓞 A (pow 𝓞 w 2) (λ t. X (2 * t + 1)) s)
      odds_imaginary s = step _ _ _ _ (sym (ap₂ ◌⊕◌ (evens_real s) refl) ∙ sym (conj_add _ _) ∙ ap conj (sym (split_time 𝓡 A w X s)) ∙ sym (alternating_halves 𝓡 𝓢 A w inverse turn X alt s) ∙ split_time_above 𝓡 A w turn X s)
        where
          step : (u c e o : R) → u ⊕ c ≡ u ⊕ ⊖ (e ⊗ o) → c ≡ ⊖ (e ⊗ o)
          step u c e o h = linear 𝓡 h 𝟙 (ring 𝓡 (u ∷ c ∷ e ∷ o ∷ []) (search quote depth 40 fits 9999) refl)

      conj_odds : (s : ℕ) → conj (odds s) ≡ ⊖ (pow 𝓞 w s ⊗ (pow 𝓞 w s ⊗ odds s))
      conj_odds s = step (pow 𝓞 w s) (pow 𝓞 (conj w) s) (pow 𝓞 w s ⊗ odds s) (conj (odds s)) (ap (λ y. y ⊗ conj (odds s)) (sym (conj_pow 𝓡 𝓢 w s)) ∙ sym (conj_mul _ _) ∙ odds_imaginary s) (pow_inverse 𝓡 𝓢 𝓐 s)
        where
          step : (e f o c : R) → f ⊗ c ≡ ⊖ o → e ⊗ f ≡ 𝟙 → c ≡ ⊖ (e ⊗ o)
          step e f o c a b = linear 𝓡 a e (linear 𝓡 b (⊖ c) (ring 𝓡 (e ∷ f ∷ o ∷ c ∷ []) (search quote depth 40 fits 9999) refl))

      conj_alternating_point : (s : ℕ) → conj (evens s ⊕ i ⊗ odds s) ≡ evens s ⊕ i ⊗ (pow 𝓞 w s ⊗ (pow 𝓞 w s ⊗ odds s))
      conj_alternating_point s = conj_add _ _ ∙ ap₂ ◌⊕◌ (evens_real s) (conj_mul _ _ ∙ ap₂ ◌⊗◌ conj_i (conj_odds s) ∙ step i _)
        where
          step : (i x : R) → (⊖ i) ⊗ (⊖ x) ≡ i ⊗ x
          step i x = ring 𝓡 (i ∷ x ∷ []) (search quote depth 40 fits 9999) refl

      -- the result from Y^ at s, 0 < s < A
      pub fold_three : (s : ℕ) → 0 < s → s < A →
          (ℜ (dft 𝓞 A (pow 𝓞 w 2) alternating_point s) ⊕ ℑ (dft 𝓞 A (pow 𝓞 w 2) alternating_point s) ⊗ cot 𝓡 𝓢 𝓐 s) ⊕ i ⊗ (ℑ (dft 𝓞 A (pow 𝓞 w 2) alternating_point s) ⊗ csc 𝓡 𝓢 𝓐 s) ≡ dft 𝓞 (2 * A) w X s
      unfolding re im
      fold_three s p l = ap₂ shape (alternating_point_is s ∙ ap (λ y. evens s ⊕ i ⊗ y) (again (pow 𝓞 w s) (pow 𝓞 (conj w) s) (odds s) (pow_inverse 𝓡 𝓢 𝓐 s))) (ap conj (alternating_point_is s) ∙ conj_alternating_point s)
          ∙ step half i (cot 𝓡 𝓢 𝓐 s) (csc 𝓡 𝓢 𝓐 s) (pow 𝓞 w s) (pow 𝓞 (conj w) s) (evens s) (pow 𝓞 w s ⊗ odds s) halves i_square (csc_law 𝓡 𝓢 𝓐 s p l) (cot_law 𝓡 𝓢 𝓐 s p l)
          ∙ sym (split_time 𝓡 A w X s)
        where
          shape : R → R → R
          shape y c = (half ⊗ (y ⊕ c) ⊕ ⊖ (half ⊗ (i ⊗ (y ⊕ ⊖ c))) ⊗ cot 𝓡 𝓢 𝓐 s) ⊕ i ⊗ (⊖ (half ⊗ (i ⊗ (y ⊕ ⊖ c))) ⊗ csc 𝓡 𝓢 𝓐 s)

          again : (e f x : R) → e ⊗ f ≡ 𝟙 → x ≡ f ⊗ (e ⊗ x)
          again e f x a = linear 𝓡 a (⊖ x) (ring 𝓡 (e ∷ f ∷ x ∷ []) (search quote depth 40 fits 9999) refl)

          step : (h i t k e f u o : R) → h ⊗ (𝟙 ⊕ 𝟙) ≡ 𝟙 → i ⊗ i ≡ ⊖ 𝟙 → h ⊗ (e ⊕ ⊖ f) ⊗ k ≡ i → t ≡ h ⊗ (e ⊕ f) ⊗ k →
              (h ⊗ ((u ⊕ i ⊗ (f ⊗ o)) ⊕ (u ⊕ i ⊗ (e ⊗ o))) ⊕ ⊖ (h ⊗ (i ⊗ ((u ⊕ i ⊗ (f ⊗ o)) ⊕ ⊖ (u ⊕ i ⊗ (e ⊗ o))))) ⊗ t) ⊕ i ⊗ (⊖ (h ⊗ (i ⊗ ((u ⊕ i ⊗ (f ⊗ o)) ⊕ ⊖ (u ⊕ i ⊗ (e ⊗ o))))) ⊗ k) ≡ u ⊕ o
          step h i t k e f u o a b c d = linear 𝓡 b (⊖ (h ⊗ (f ⊕ ⊖ e) ⊗ o ⊗ (t ⊕ i ⊗ k) ⊕ o)) (linear 𝓡 d (h ⊗ (f ⊕ ⊖ e) ⊗ o) (linear 𝓡 c (⊖ (o ⊗ (h ⊗ (e ⊕ f) ⊕ i))) (linear 𝓡 a u (ring 𝓡 (h ∷ i ∷ t ∷ k ∷ e ∷ f ∷ u ∷ o ∷ []) (search quote depth 40 fits 9999) refl))))

      -- and at 0, with m the sum of the imaginary parts at the odd places
      pub fold_three_zero : (m : R) → m ≡ sum 𝓞 A (λ t. ℑ (X (2 * t + 1))) → (ℜ (dft 𝓞 A (pow 𝓞 w 2) alternating_point 0) ⊕ m) ⊕ i ⊗ m ≡ dft 𝓞 (2 * A) w X 0
      unfolding re im
      fold_three_zero m h = ap₂ (λ y c. (half ⊗ (y ⊕ c) ⊕ m) ⊕ i ⊗ m) (alternating_point_is 0) (ap conj (alternating_point_is 0) ∙ conj_alternating_point 0 ∙ ap (λ y. evens 0 ⊕ i ⊗ y) flat2)
          ∙ ap (λ y. (half ⊗ (evens 0 ⊕ i ⊗ odds 0 ⊕ (evens 0 ⊕ i ⊗ odds 0)) ⊕ y) ⊕ i ⊗ y) (h ∙ im_sum_lem 𝓡 𝓢 half halves A _ ∙ ap ℑ (sym (dft_zero 𝓡 A _ _)) ∙ ap (λ c. ⊖ (half ⊗ (i ⊗ (odds 0 ⊕ ⊖ c)))) (conj_odds 0 ∙ ap ⊖◌ flat2))
          ∙ step half i (evens 0) (odds 0) halves i_square ∙ ap (λ y. evens 0 ⊕ y) (sym flat) ∙ sym (split_time 𝓡 A w X 0)
        where
          flat : pow 𝓞 w 0 ⊗ odds 0 ≡ odds 0
          flat = ap (λ y. y ⊗ odds 0) (pow_zero 𝓡 w) ∙ one_mul _

          flat2 : pow 𝓞 w 0 ⊗ (pow 𝓞 w 0 ⊗ odds 0) ≡ odds 0
          flat2 = ap (λ y. pow 𝓞 w 0 ⊗ y) flat ∙ flat

          step : (h i u o : R) → h ⊗ (𝟙 ⊕ 𝟙) ≡ 𝟙 → i ⊗ i ≡ ⊖ 𝟙 → (h ⊗ (u ⊕ i ⊗ o ⊕ (u ⊕ i ⊗ o)) ⊕ ⊖ (h ⊗ (i ⊗ (o ⊕ ⊖ ⊖ o)))) ⊕ i ⊗ ⊖ (h ⊗ (i ⊗ (o ⊕ ⊖ ⊖ o))) ≡ u ⊕ o
          step h i u o a b = linear 𝓡 b (⊖ (h ⊗ (𝟙 ⊕ 𝟙) ⊗ o)) (linear 𝓡 a (u ⊕ o) (ring 𝓡 (h ∷ i ∷ u ∷ o ∷ []) (search quote depth 40 fits 9999) refl))

  abbrev pub finish3 : (ℕ → R) → R → ℕ → R
  finish3 y m = finish3-of 𝓞 conj i half A tau y m

  pub forward3 : (p : ℕ → R) (s : ℕ) → s < A →
      finish3 (dft 𝓞 A (pow 𝓞 w 2) (alternating_point (unfold_b3 𝓞 conj i half A p))) (sum 𝓞 A (λ t. ℑ (unfold_b3 𝓞 conj i half A p (2 * t + 1)))) s ≡ dft 𝓞 (2 * A) w (unfold_b3 𝓞 conj i half A p) s
  unfolding finish3-of
  forward3 p zero l = fold_three_zero _ (unfold_b3_rule 𝓡 𝓢 𝓐 p) _ refl
  forward3 p (suc s) l = fold_three _ (unfold_b3_rule 𝓡 𝓢 𝓐 p) (suc s) (omega arith) l
