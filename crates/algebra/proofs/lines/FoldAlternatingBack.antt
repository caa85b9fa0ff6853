-- Kind 3, alternating, back: the packed result is slanted by half tangents, transformed, and alternating_point into the line.
use mathlib.Core.Path.{◌≡◌, refl, sym, ◌∙◌, ap, ap₂}
use mathlib.Core.List.{[], ◌∷◌}
use Prim.Native.Nat.{ℕ, zero, suc, ◌+◌, ◌*◌, ◌-◌, ◌<◌}
use native.Mathlib.Omega.{arith}
use Rattle.algebra.specs.ring.Ring.{Ops, pow, dft}
use Rattle.algebra.specs.ring.RingLaws.{CRing, Star}
use Rattle.algebra.proofs.ring.Solver.{ring, quote, linear}
use Rattle.algebra.specs.fourier.Axis.{Axis, AxisLaws}
use Rattle.algebra.specs.lines.Kinds.{re, im, unit, pack_by}
use Rattle.algebra.specs.lines.Packings.{unfold_a3, pack_b3}
use Rattle.algebra.specs.lines.Folds.{mate, alternating_spectrum as alternating-spectrum-of, twice_M as twice-M-of, line3 as line3-of}
use Rattle.algebra.proofs.fourier.Transform.{pow_zero, dft_cong, dft_add, dft_mul, pow_square}
use Rattle.algebra.proofs.lines.Parts.{parts, parts_conj, re_real, conj_pair, im_real}
use Rattle.algebra.proofs.fourier.Properties.{spike, split_even, split_odd, dft_spike, dft_neg, dft_next}
use Rattle.algebra.proofs.lines.Unfold.{interleave_all}
use Rattle.algebra.proofs.fourier.Axis.{conj_turn, pow_inverse}
use Rattle.algebra.proofs.lines.Rules.{unfold_a3_low, unfold_a3_high}
use Rattle.algebra.proofs.fourier.Tangents.{cot, csc, cot_real, csc_law, cot_law, csc_real}
use Rattle.algebra.proofs.lines.FoldHermitian.{conj_end}

module _ {R : Type 0} {𝓞 : Ops R} {conj : R → R} {i : R} (𝓡 : CRing 𝓞) (𝓢 : Star 𝓞 conj i) {half : R} {axis : Axis R} {tau : ℕ → R} (𝓐 : AxisLaws 𝓞 conj i half axis tau) where
  open 𝓞 use {add as ◌⊕◌, mul as ◌⊗◌, neg as ⊖◌, zer as 𝟘, one as 𝟙}
  open 𝓢 use {conj_add, conj_mul, i_square}
  open axis use {half as A, w, part}
  open 𝓐 use {positive, root, halves}

  infixl 65 ◌⊕◌
  infixl 70 ◌⊗◌
  infix 75 ⊖◌
  abbrev ℜ : R → R
  ℜ z = re 𝓞 conj i half z

  abbrev ℑ : R → R
  ℑ z = im 𝓞 conj i half z

  -- the plain line of A points
  abbrev pub alternating_spectrum : (ℕ → R) → ℕ → R
  alternating_spectrum q = alternating-spectrum-of 𝓞 conj i half A tau q

  module _ (q : ℕ → R) where
    abbrev Z : ℕ → R
    Z = unfold_a3 𝓞 conj i half A q

    slope_real : (s : ℕ) → 0 < s → s < A → conj (ℜ (q s) ⊗ cot 𝓡 𝓢 𝓐 s ⊕ ℑ (q s) ⊗ csc 𝓡 𝓢 𝓐 s) ≡ ℜ (q s) ⊗ cot 𝓡 𝓢 𝓐 s ⊕ ℑ (q s) ⊗ csc 𝓡 𝓢 𝓐 s
    slope_real s p l = conj_add _ _ ∙ ap₂ ◌⊕◌ (conj_mul _ _ ∙ ap₂ ◌⊗◌ (re_real 𝓡 𝓢 half halves _) (cot_real 𝓡 𝓢 𝓐 s p l)) (conj_mul _ _ ∙ ap₂ ◌⊗◌ (im_real 𝓡 𝓢 half halves _) (csc_real 𝓡 𝓢 𝓐 s p l))

    alternating_spectrum_conj : (s : ℕ) → suc s < A → conj (alternating_spectrum q (suc s)) ≡ ℜ (q (suc s)) ⊕ ⊖ (i ⊗ (ℜ (q (suc s)) ⊗ cot 𝓡 𝓢 𝓐 (suc s) ⊕ ℑ (q (suc s)) ⊗ csc 𝓡 𝓢 𝓐 (suc s)))
    unfolding alternating-spectrum-of
    alternating_spectrum_conj s l = conj_pair 𝓡 𝓢 half halves _ _ (re_real 𝓡 𝓢 half halves _) (slope_real (suc s) (omega arith) l)

    -- V + conj V = z + conj z
    alternating_spectrum_even : (s : ℕ) → s < A → q s ⊕ conj (q s) ≡ alternating_spectrum q s ⊕ conj (alternating_spectrum q s)
    unfolding alternating-spectrum-of
    alternating_spectrum_even zero l = sym (ap₂ ◌⊕◌ (parts 𝓡 𝓢 half halves (q 0)) (parts_conj 𝓡 𝓢 half halves (q 0))) ∙ step _ _ ∙ ap (λ y. ℜ (q 0) ⊕ y) (sym (re_real 𝓡 𝓢 half halves _))
      where
        step : (x y : R) → x ⊕ y ⊕ (x ⊕ ⊖ y) ≡ x ⊕ x
        step x y = ring 𝓡 (x ∷ y ∷ []) (search quote depth 40 fits 9999) refl
    alternating_spectrum_even (suc s) l = sym (ap₂ ◌⊕◌ (parts 𝓡 𝓢 half halves (q (suc s))) (parts_conj 𝓡 𝓢 half halves (q (suc s)))) ∙ step _ _ _ ∙ ap (λ y. alternating_spectrum q (suc s) ⊕ y) (sym (alternating_spectrum_conj s l))
      where
        step : (x y z : R) → x ⊕ y ⊕ (x ⊕ ⊖ y) ≡ x ⊕ z ⊕ (x ⊕ ⊖ z)
        step x y z = ring 𝓡 (x ∷ y ∷ z ∷ []) (search quote depth 40 fits 9999) refl

    -- twice re z(0) + im z(0)
    abbrev pub twice_M : R
    twice_M = twice-M-of 𝓞 conj i half A q

    -- e(-s/N)(z - conj z) = i (2M at 0 - (V + e(-s/A) conj V))
    alternating_spectrum_odd : (s : ℕ) → s < A → pow 𝓞 (conj w) s ⊗ (q s ⊕ ⊖ conj (q s)) ≡ i ⊗ (spike 𝓡 twice_M s ⊕ ⊖ (alternating_spectrum q s ⊕ pow 𝓞 (pow 𝓞 (conj w) 2) s ⊗ conj (alternating_spectrum q s)))
    unfolding alternating-spectrum-of spike twice-M-of
    alternating_spectrum_odd zero l = ap₂ ◌⊗◌ (pow_zero 𝓡 _) (ap₂ (λ x y. x ⊕ ⊖ y) (sym (parts 𝓡 𝓢 half halves (q 0))) (sym (parts_conj 𝓡 𝓢 half halves (q 0)))) ∙ step i _ _ ∙ ap (λ y. i ⊗ (twice_M ⊕ ⊖ (ℜ (q 0) ⊕ y))) (sym (ap₂ ◌⊗◌ (pow_zero 𝓡 _) (re_real 𝓡 𝓢 half halves _)))
      where
        step : (i x y : R) → 𝟙 ⊗ (x ⊕ i ⊗ y ⊕ ⊖ (x ⊕ ⊖ (i ⊗ y))) ≡ i ⊗ (((x ⊕ y) ⊕ (x ⊕ y)) ⊕ ⊖ (x ⊕ 𝟙 ⊗ x))
        step i x y = ring 𝓡 (i ∷ x ∷ y ∷ []) (search quote depth 40 fits 9999) refl
    alternating_spectrum_odd (suc s) l = ap (λ y. pow 𝓞 (conj w) (suc s) ⊗ y) (ap₂ (λ x y. x ⊕ ⊖ y) (sym (parts 𝓡 𝓢 half halves (q (suc s)))) (sym (parts_conj 𝓡 𝓢 half halves (q (suc s)))))
        ∙ sym (step half i (cot 𝓡 𝓢 𝓐 (suc s)) (csc 𝓡 𝓢 𝓐 (suc s)) (pow 𝓞 w (suc s)) (pow 𝓞 (conj w) (suc s)) (ℜ (q (suc s))) (ℑ (q (suc s))) halves i_square (csc_law 𝓡 𝓢 𝓐 (suc s) (omega arith) l) (cot_law 𝓡 𝓢 𝓐 (suc s) (omega arith) l) (pow_inverse 𝓡 𝓢 𝓐 (suc s)))
        ∙ ap (λ y. i ⊗ (𝟘 ⊕ ⊖ (alternating_spectrum q (suc s) ⊕ y))) (sym (ap₂ ◌⊗◌ (pow_square 𝓡 (conj w) (suc s)) (alternating_spectrum_conj s l)))
      where
        step : (h i t k e f x z : R) → h ⊗ (𝟙 ⊕ 𝟙) ≡ 𝟙 → i ⊗ i ≡ ⊖ 𝟙 → h ⊗ (e ⊕ ⊖ f) ⊗ k ≡ i → t ≡ h ⊗ (e ⊕ f) ⊗ k → e ⊗ f ≡ 𝟙 →
            i ⊗ (𝟘 ⊕ ⊖ (x ⊕ i ⊗ (x ⊗ t ⊕ z ⊗ k) ⊕ f ⊗ f ⊗ (x ⊕ ⊖ (i ⊗ (x ⊗ t ⊕ z ⊗ k))))) ≡ f ⊗ (x ⊕ i ⊗ z ⊕ ⊖ (x ⊕ ⊖ (i ⊗ z)))
        step h i t k e f x z a b c d g =
            linear 𝓡 g (i ⊗ x ⊕ i ⊗ i ⊗ (x ⊗ t ⊕ z ⊗ k))
            (linear 𝓡 d (⊖ (i ⊗ i ⊗ f ⊗ (e ⊕ ⊖ f) ⊗ x))
            (linear 𝓡 c (⊖ (i ⊗ i ⊗ f ⊗ (x ⊗ (e ⊕ f) ⊕ (𝟙 ⊕ 𝟙) ⊗ z)))
            (linear 𝓡 a (i ⊗ i ⊗ f ⊗ z ⊗ (e ⊕ ⊖ f) ⊗ k)
            (linear 𝓡 b (⊖ (i ⊗ f ⊗ (x ⊗ (e ⊕ f) ⊕ (𝟙 ⊕ 𝟙) ⊗ z)))
            (ring 𝓡 (h ∷ i ∷ t ∷ k ∷ e ∷ f ∷ x ∷ z ∷ []) (search quote depth 40 fits 9999) refl)))))

    abbrev y : ℕ → R
    y = dft 𝓞 A (pow 𝓞 (conj w) 2) (alternating_spectrum q)

    pub back_even : (t u c : ℕ) → t + u ≡ A * c → dft 𝓞 (2 * A) (conj w) (unfold_a3 𝓞 conj i half A q) (2 * t) ≡ dft 𝓞 A (pow 𝓞 (conj w) 2) (alternating_spectrum q) t ⊕ conj (dft 𝓞 A (pow 𝓞 (conj w) 2) (alternating_spectrum q) u)
    back_even t u c e = split_even 𝓡 A (conj w) (conj_turn 𝓡 𝓢 𝓐) Z t ∙ dft_cong 𝓡 A _ _ _ t (λ s l. ap₂ ◌⊕◌ (unfold_a3_low 𝓡 𝓢 𝓐 q s l) (unfold_a3_high 𝓡 𝓢 𝓐 q s l) ∙ alternating_spectrum_even s l) ∙ dft_add 𝓡 A _ _ _ t ∙ ap (λ x. y t ⊕ x) (sym (conj_end 𝓡 𝓢 𝓐 (alternating_spectrum q) t u c e))

    pub back_odd : (t u c : ℕ) → suc t + u ≡ A * c → dft 𝓞 (2 * A) (conj w) (unfold_a3 𝓞 conj i half A q) (2 * t + 1) ≡ i ⊗ (twice_M ⊕ ⊖ (dft 𝓞 A (pow 𝓞 (conj w) 2) (alternating_spectrum q) t ⊕ conj (dft 𝓞 A (pow 𝓞 (conj w) 2) (alternating_spectrum q) u)))
    back_odd t u c e = split_odd 𝓡 A (conj w) (conj_turn 𝓡 𝓢 𝓐) Z t
        ∙ dft_cong 𝓡 A _ _ _ t (λ s l. ap (λ x. pow 𝓞 (conj w) s ⊗ x) (ap₂ (λ x y. x ⊕ ⊖ y) (unfold_a3_low 𝓡 𝓢 𝓐 q s l) (unfold_a3_high 𝓡 𝓢 𝓐 q s l)) ∙ alternating_spectrum_odd s l)
        ∙ dft_mul 𝓡 A _ i _ t ∙ ap (λ x. i ⊗ x) (dft_add 𝓡 A _ _ _ t ∙ ap₂ ◌⊕◌ (dft_spike 𝓡 A _ twice_M t positive) (dft_neg 𝓡 A _ _ t ∙ ap ⊖◌ (dft_add 𝓡 A _ _ _ t ∙ ap (λ x. y t ⊕ x) (sym (conj_end 𝓡 𝓢 𝓐 (alternating_spectrum q) (suc t) u c e ∙ dft_next 𝓡 A _ _ t)))))

  -- the whole line from the short transform y
  abbrev pub line3 : (y : ℕ → R) (m : R) → ℕ → R
  line3 y m = line3-of 𝓞 conj i half A part y m

  pub back3 : (q : ℕ → R) (t : ℕ) → t < 2 * A → part ⊗ dft 𝓞 (2 * A) (conj w) (unfold_a3 𝓞 conj i half A q) t ≡ line3 (dft 𝓞 A (pow 𝓞 (conj w) 2) (alternating_spectrum q)) (twice_M q) t
  unfolding line3-of mate
  back3 q t l = interleave_all _ _ A (λ t. part ⊗ dft 𝓞 (2 * A) (conj w) (unfold_a3 𝓞 conj i half A q) t) even (λ s l. ap (λ x. part ⊗ x) (back_odd q s (A - suc s) 1 (omega arith))) t l
    where
      even : (s : ℕ) → s < A → part ⊗ dft 𝓞 (2 * A) (conj w) (unfold_a3 𝓞 conj i half A q) (2 * s) ≡ part ⊗ (y q s ⊕ conj (y q (mate A s)))
      even zero l = ap (λ x. part ⊗ x) (back_even q 0 0 0 (omega arith))
      even (suc s) l = ap (λ x. part ⊗ x) (back_even q (suc s) (A - suc s) 1 (omega arith))

  pub inverse3 : (q : ℕ → R) (t : ℕ) → t < A → pack_b3 𝓞 conj i half A (line3 (dft 𝓞 A (pow 𝓞 (conj w) 2) (alternating_spectrum q)) (twice_M q)) t ≡ pack_b3 𝓞 conj i half A (λ t. part ⊗ dft 𝓞 (2 * A) (conj w) (unfold_a3 𝓞 conj i half A q) t) t
  unfolding pack_by
  inverse3 q zero l = sym (ap₂ (λ x y. x ⊕ i ⊗ (conj (unit 𝓞 conj i half A A) ⊗ y)) (back3 q 0 (omega arith)) (back3 q A (omega arith)))
  inverse3 q (suc t) l = sym (back3 q (suc t) (omega arith))
