-- Kind 2, anti-Hermitian: kind 1 times i, forward and back.
use mathlib.Core.Path.{◌≡◌, refl, sym, ◌∙◌, ap, ap₂}
use mathlib.Core.List.{[], ◌∷◌}
use Prim.Native.Nat.{ℕ, zero, suc, ◌+◌, ◌*◌, ◌-◌, ◌<◌}
use native.Mathlib.Omega.{arith}
use Rattle.algebra.specs.ring.Ring.{Ops, pow, dft}
use Rattle.algebra.specs.ring.RingLaws.{CRing, Star}
use Rattle.algebra.proofs.ring.Solver.{ring, quote, linear}
use Rattle.algebra.specs.fourier.Axis.{Axis, AxisLaws}
use Rattle.algebra.specs.lines.Kinds.{im, pack_by, Kind.hermitian}
use Rattle.algebra.specs.lines.Packings.{unfold_b1, unfold_b2, unfold_a1, unfold_a2, pack_a2, pack_b2, Hermitian}
use Rattle.algebra.specs.lines.Folds.{inner_times as inner-times-of}
use Rattle.algebra.proofs.fourier.Transform.{dft_cong, dft_mul}
use native.Mathlib.Decide.{ℕ_discrete, dec_lt}
use Rattle.algebra.proofs.lines.Unfold.{unfold_zero, unfold_middle, unfold_low, unfold_high, at_zero, at_mirror}
use Rattle.algebra.proofs.lines.Rules.{unfold_a2_is, inverse_rule, unfold_a1_rule}
use Rattle.algebra.proofs.lines.FoldHermitian.{fold1, back1, real1, inverse1, forward1}
use Rattle.algebra.proofs.lines.Parts.{im_turn}

module _ {R : Type 0} {𝓞 : Ops R} {conj : R → R} {i : R} (𝓡 : CRing 𝓞) (𝓢 : Star 𝓞 conj i) {half : R} {axis : Axis R} {tau : ℕ → R} (𝓐 : AxisLaws 𝓞 conj i half axis tau) where
  open 𝓞 use {add as ◌⊕◌, mul as ◌⊗◌, neg as ⊖◌, zer as 𝟘, one as 𝟙}
  open 𝓢 use {conj_mul, conj_neg, i_square, conj_i}
  open axis use {half as A, w, part}
  open 𝓐 use {positive, root, halves}

  infixl 65 ◌⊕◌
  infixl 70 ◌⊗◌
  infix 75 ⊖◌
  abbrev ℑ : R → R
  ℑ z = im 𝓞 conj i half z

  -- pairs 1 .. A - 1 times c
  abbrev pub inner_times : R → (ℕ → R) → ℕ → R
  inner_times c p = inner-times-of 𝓞 c p

  inner_times_at : (c : R) (p : ℕ → R) (t : ℕ) → 0 < t → inner_times c p t ≡ c ⊗ p t
  unfolding inner-times-of
  inner_times_at c p zero l = absurd (omega arith)
  inner_times_at c p (suc t) l = refl

  unfold_inner_times : (p : ℕ → R) (t : ℕ) → t < 2 * A → unfold_b2 𝓞 conj i half A p t ≡ i ⊗ unfold_b1 𝓞 conj i half A (inner_times (⊖ i) p) t
  unfolding inner-times-of
  unfold_inner_times p zero l = unfold_zero A _ _ _ p ∙ ap (λ y. i ⊗ y) (sym (unfold_zero A _ _ _ (inner_times (⊖ i) p)))
  unfold_inner_times p (suc t) l = go (ℕ_discrete (suc t) A) (dec_lt (suc t) A)
    where
      q : ℕ → R
      q = inner_times (⊖ i) p

      low : (i x : R) → i ⊗ i ≡ ⊖ 𝟙 → x ≡ i ⊗ ((⊖ i) ⊗ x)
      low i x a = linear 𝓡 a x (ring 𝓡 (i ∷ x ∷ []) (search quote depth 40 fits 9999) refl)

      high : (i x : R) → i ⊗ i ≡ ⊖ 𝟙 → ⊖ x ≡ i ⊗ (⊖ ⊖ i ⊗ x)
      high i x a = linear 𝓡 a (⊖ x) (ring 𝓡 (i ∷ x ∷ []) (search quote depth 40 fits 9999) refl)

      go : Dec (suc t ≡ A) → Dec (suc t < A) → unfold_b2 𝓞 conj i half A p (suc t) ≡ i ⊗ unfold_b1 𝓞 conj i half A q (suc t)
      go (yes h) d = ap (unfold_b2 𝓞 conj i half A p) h ∙ unfold_middle A _ _ _ p positive ∙ ap (λ y. i ⊗ y) (sym (unfold_middle A _ _ _ q positive) ∙ ap (unfold_b1 𝓞 conj i half A q) (sym h))
      go (no h) (yes d) = unfold_low A _ _ _ p (suc t) (omega arith) d ∙ low i (p (suc t)) i_square ∙ ap (λ y. i ⊗ y) (sym (unfold_low A _ _ _ q (suc t) (omega arith) d))
      go (no h) (no d) = unfold_high A _ _ _ p (suc t) (2 * A - suc t) (omega arith) (omega arith) ∙ high i _ i_square ∙ ap (λ y. i ⊗ y) (sym (unfold_high A _ _ _ q (suc t) (2 * A - suc t) (omega arith) (omega arith) ∙ ap conj (inner_times_at (⊖ i) p (2 * A - suc t) (omega arith)) ∙ conj_mul _ _ ∙ ap (λ y. y ⊗ conj (p (2 * A - suc t))) (conj_neg i ∙ ap ⊖◌ conj_i)))

  pub forward2 : (p : ℕ → R) (s : ℕ) → dft 𝓞 A (pow 𝓞 w 2) (fold1 𝓡 𝓢 𝓐 (inner_times (⊖ i) p)) s ≡ pack_a2 𝓞 conj i half A (dft 𝓞 (2 * A) w (unfold_b2 𝓞 conj i half A p)) s
  forward2 p s = forward1 𝓡 𝓢 𝓐 (inner_times (⊖ i) p) s ∙ sym (ap₂ (λ x y. x ⊕ i ⊗ y) (back (2 * s)) (back (2 * s + 1)))
    where
      back : (s : ℕ) → ℑ (dft 𝓞 (2 * A) w (unfold_b2 𝓞 conj i half A p) s) ≡ dft 𝓞 (2 * A) w (unfold_b1 𝓞 conj i half A (inner_times (⊖ i) p)) s
      back s = ap ℑ (dft_cong 𝓡 (2 * A) w _ _ s (unfold_inner_times p) ∙ dft_mul 𝓡 (2 * A) w i _ s) ∙ im_turn 𝓡 𝓢 half halves _ (real1 𝓡 𝓢 𝓐 (inner_times (⊖ i) p) s)

  inner_times_sum : (q : ℕ → R) (t : ℕ) → part ⊗ dft 𝓞 (2 * A) (conj w) (unfold_a2 𝓞 conj i half A q) t ≡ i ⊗ (part ⊗ dft 𝓞 (2 * A) (conj w) (unfold_a1 𝓞 conj i half A q) t)
  inner_times_sum q t = ap (λ y. part ⊗ y) (dft_cong 𝓡 (2 * A) (conj w) _ _ t (λ s l. unfold_a2_is 𝓡 𝓢 𝓐 q s) ∙ dft_mul 𝓡 (2 * A) (conj w) i _ t) ∙ move part i _
    where
      move : (p i x : R) → p ⊗ (i ⊗ x) ≡ i ⊗ (p ⊗ x)
      move p i x = ring 𝓡 (p ∷ i ∷ x ∷ []) (search quote depth 40 fits 9999) refl

  -- the inverse of a real line is Hermitian: it is real at 0 and at A
  real_line : (q : ℕ → R) → Hermitian 𝓞 conj (2 * A) (λ t. part ⊗ dft 𝓞 (2 * A) (conj w) (unfold_a1 𝓞 conj i half A q) t)
  real_line q = inverse_rule 𝓡 𝓢 𝓐 hermitian _ (λ s l. unfold_a1_rule 𝓡 𝓢 𝓐 q s)

  pub inverse2 : (q : ℕ → R) (t : ℕ) → t < A → inner_times i (back1 𝓡 𝓢 𝓐 (dft 𝓞 A (pow 𝓞 (conj w) 2) q)) t ≡ pack_b2 𝓞 conj i half A (λ t. part ⊗ dft 𝓞 (2 * A) (conj w) (unfold_a2 𝓞 conj i half A q) t) t
  unfolding inner-times-of pack_by
  inverse2 q zero l = inverse1 𝓡 𝓢 𝓐 q zero l ∙ sym (ap₂ (λ x y. x ⊕ i ⊗ y) (at 0 (at_zero 𝓡 (2 * A) (λ t x. conj x) _ (omega arith) (real_line q))) (at A (at_mirror 𝓡 (2 * A) (λ t x. conj x) _ (real_line q) A A positive positive (omega arith))))
    where
      at : (t : ℕ) → part ⊗ dft 𝓞 (2 * A) (conj w) (unfold_a1 𝓞 conj i half A q) t ≡ conj (part ⊗ dft 𝓞 (2 * A) (conj w) (unfold_a1 𝓞 conj i half A q) t) → ℑ (part ⊗ dft 𝓞 (2 * A) (conj w) (unfold_a2 𝓞 conj i half A q) t) ≡ part ⊗ dft 𝓞 (2 * A) (conj w) (unfold_a1 𝓞 conj i half A q) t
      at t r = ap ℑ (inner_times_sum q t) ∙ im_turn 𝓡 𝓢 half halves _ (sym r)
  inverse2 q (suc t) l = ap (λ y. i ⊗ y) (inverse1 𝓡 𝓢 𝓐 q (suc t) l) ∙ sym (inner_times_sum q (suc t))
