-- Kind 1, Hermitian: two real transforms in one, forward and back.
use mathlib.Core.Path.{◌≡◌, refl, sym, ◌∙◌, ap, ap₂}
use mathlib.Core.List.{[], ◌∷◌}
use Prim.Native.Nat.{ℕ, zero, suc, ◌+◌, ◌*◌, ◌-◌, ◌<◌}
use native.Mathlib.Nat as N
use native.Mathlib.Omega.{arith}
use Rattle.algebra.specs.ring.Ring.{Ops, pow, dft}
use Rattle.algebra.specs.ring.RingLaws.{CRing, Star}
use Rattle.algebra.specs.fourier.Axis.{Axis, AxisLaws}
use Rattle.algebra.specs.lines.Kinds.{re, im, pack_by}
use Rattle.algebra.specs.lines.Packings.{unfold_b1, unfold_a1, pack_a1, pack_b1}
use Rattle.algebra.specs.lines.Folds.{hermitian_point as hermitian-point-of, fold1 as fold1-of, hermitian_value as hermitian-value-of, back1 as back1-of}
use Rattle.algebra.proofs.ring.Solver.{ring, quote, linear}
use Rattle.algebra.proofs.fourier.Transform.{pow_zero, dft_cong, dft_add, dft_mul, dft_period}
use Rattle.algebra.proofs.ring.Conj.{conj_pow, conj_dft}
use Rattle.algebra.proofs.ring.Laws.{neg_mul, neg_one_mul}
use Rattle.algebra.proofs.fourier.Properties.{split_even, hermitian_real, dft_across, split_time, turn_square, split_odd}
use Rattle.algebra.proofs.lines.Unfold.{unfold_zero, unfold_middle, interleave_even, unfold_low, interleave_odd, unfold_above}
use Rattle.algebra.proofs.fourier.Axis.{pow_inverse, conj_turn}
use Rattle.algebra.proofs.lines.Parts.{parts, re_real, im_real, re_pair, im_pair, conj_pair}
use Rattle.algebra.proofs.lines.Rules.{unfold_b1_rule}

module _ {R : Type 0} {𝓞 : Ops R} {conj : R → R} {i : R} (𝓡 : CRing 𝓞) (𝓢 : Star 𝓞 conj i) {half : R} {axis : Axis R} {tau : ℕ → R} (𝓐 : AxisLaws 𝓞 conj i half axis tau) where
  open 𝓞 use {add as ◌⊕◌, mul as ◌⊗◌, neg as ⊖◌, zer as 𝟘, one as 𝟙}
  open 𝓡 use {mul_comm, one_mul}
  open 𝓢 use {conj_conj, i_square}
  open axis use {half as A, w, part}
  open 𝓐 use {positive, root, turn, halves}
  open root use {inverse, cycle}

  infixl 65 ◌⊕◌
  infixl 70 ◌⊗◌
  infix 75 ⊖◌
  abbrev ℜ : R → R
  ℜ z = re 𝓞 conj i half z

  abbrev ℑ : R → R
  ℑ z = im 𝓞 conj i half z

  -- Y = R + i S of a pair of values, at the place t
  abbrev pub hermitian_point : ℕ → R → R → R
  hermitian_point t x y = hermitian-point-of 𝓞 conj i half A (pow 𝓞 w t) x y

  -- any line, Hermitian or not
  pub fold_one : (X : ℕ → R) (s : ℕ) → dft 𝓞 A (pow 𝓞 w 2) (λ t. hermitian_point t (X t) (X (A + t))) s ≡ dft 𝓞 (2 * A) w X (2 * s) ⊕ i ⊗ dft 𝓞 (2 * A) w X (2 * s + 1)
  unfolding hermitian-point-of
  fold_one X s = dft_add 𝓡 A (pow 𝓞 w 2) _ _ s ∙ ap₂ ◌⊕◌ (sym (split_even 𝓡 A w turn X s)) (dft_mul 𝓡 A (pow 𝓞 w 2) i _ s ∙ ap (λ y. i ⊗ y) (sym (split_odd 𝓡 A w turn X s)))

  -- Y from the packed half
  abbrev pub fold1 : (ℕ → R) → ℕ → R
  fold1 p = fold1-of 𝓞 conj i half A w p

  fold1_is : (p : ℕ → R) (t : ℕ) → t < A → fold1 p t ≡ hermitian_point t (unfold_b1 𝓞 conj i half A p t) (unfold_b1 𝓞 conj i half A p (A + t))
  unfolding fold1-of hermitian-point-of
  fold1_is p zero l = sym (ap₂ (λ x y. (x ⊕ y) ⊕ i ⊗ (pow 𝓞 w 0 ⊗ (x ⊕ ⊖ y))) (unfold_zero A _ _ _ p) (ap (unfold_b1 𝓞 conj i half A p) (N.add-zero A) ∙ unfold_middle A _ _ _ p positive) ∙ ap (λ y. (ℜ (p 0) ⊕ ℑ (p 0)) ⊕ i ⊗ y) (ap (λ y. y ⊗ (ℜ (p 0) ⊕ ⊖ ℑ (p 0))) (pow_zero 𝓡 w) ∙ one_mul _))
  fold1_is p (suc t) l = sym (ap₂ (λ x y. (x ⊕ y) ⊕ i ⊗ (pow 𝓞 w (suc t) ⊗ (x ⊕ ⊖ y))) (unfold_low A _ _ _ p (suc t) (omega arith) l) (unfold_above A _ _ _ p (suc t) (A - suc t) (omega arith) (omega arith)))

  pub forward1 : (p : ℕ → R) (s : ℕ) → dft 𝓞 A (pow 𝓞 w 2) (fold1 p) s ≡ pack_a1 𝓞 conj i half A (dft 𝓞 (2 * A) w (unfold_b1 𝓞 conj i half A p)) s
  forward1 p s = dft_cong 𝓡 A (pow 𝓞 w 2) _ _ s (fold1_is p) ∙ fold_one _ s

  pub real1 : (p : ℕ → R) (s : ℕ) → conj (dft 𝓞 (2 * A) w (unfold_b1 𝓞 conj i half A p) s) ≡ dft 𝓞 (2 * A) w (unfold_b1 𝓞 conj i half A p) s
  real1 p s = hermitian_real 𝓡 𝓢 (2 * A) w inverse cycle _ (unfold_b1_rule 𝓡 𝓢 𝓐 p) s

  -- The inverse. A real line of A values, transformed by the other root and read from the other end.
  pub square_inverse : pow 𝓞 (conj w) 2 ⊗ pow 𝓞 w 2 ≡ 𝟙
  square_inverse = mul_comm _ _ ∙ pow_inverse 𝓡 𝓢 𝓐 2

  pub square_conj : conj (pow 𝓞 (conj w) 2) ≡ pow 𝓞 w 2
  square_conj = conj_pow 𝓡 𝓢 (conj w) 2 ∙ ap (λ y. pow 𝓞 y 2) (conj_conj w)

  -- conj u(A - t) for u the transform of any line L
  pub conj_end : (L : ℕ → R) (t u c : ℕ) → t + u ≡ A * c → conj (dft 𝓞 A (pow 𝓞 (conj w) 2) L u) ≡ dft 𝓞 A (pow 𝓞 (conj w) 2) (λ s. conj (L s)) t
  conj_end L t u c e = conj_dft 𝓡 𝓢 A _ L u ∙ ap (λ y. dft 𝓞 A y (λ s. conj (L s)) u) square_conj ∙ sym (dft_across 𝓡 A (pow 𝓞 (conj w) 2) (pow 𝓞 w 2) square_inverse (turn_square 𝓡 A (conj w) (conj_turn 𝓡 𝓢 𝓐)) _ t u c e)

  -- hermitian_value: x = y(t), c = conj y(A - t); the sum R + e(-t/N) S, before the division by N
  abbrev pub hermitian_value : ℕ → R → R → R
  hermitian_value t x c = hermitian-value-of 𝓞 conj i half A (pow 𝓞 (conj w) t) x c

  -- the two real transforms out of one
  module _ (q : ℕ → R) where
    abbrev Y : ℕ → R
    Y = dft 𝓞 A (pow 𝓞 (conj w) 2) q

    abbrev evens : ℕ → R
    evens = dft 𝓞 A (pow 𝓞 (conj w) 2) (λ s. ℜ (q s))

    abbrev odds : ℕ → R
    odds = dft 𝓞 A (pow 𝓞 (conj w) 2) (λ s. ℑ (q s))

    pub hermitian_points : (t : ℕ) → dft 𝓞 A (pow 𝓞 (conj w) 2) q t ≡ dft 𝓞 A (pow 𝓞 (conj w) 2) (λ s. ℜ (q s)) t ⊕ i ⊗ dft 𝓞 A (pow 𝓞 (conj w) 2) (λ s. ℑ (q s)) t
    hermitian_points t = dft_cong 𝓡 A _ _ _ t (λ s l. sym (parts 𝓡 𝓢 half halves (q s))) ∙ dft_add 𝓡 A _ _ _ t ∙ ap (λ y. evens t ⊕ y) (dft_mul 𝓡 A _ i _ t)

    pub hermitian_points_conj : (t u c : ℕ) → t + u ≡ A * c → conj (dft 𝓞 A (pow 𝓞 (conj w) 2) q u) ≡ dft 𝓞 A (pow 𝓞 (conj w) 2) (λ s. ℜ (q s)) t ⊕ ⊖ (i ⊗ dft 𝓞 A (pow 𝓞 (conj w) 2) (λ s. ℑ (q s)) t)
    hermitian_points_conj t u c e = conj_end q t u c e ∙ dft_cong 𝓡 A _ _ _ t (λ s l. term s) ∙ dft_add 𝓡 A _ _ _ t ∙ ap (λ y. evens t ⊕ y) (dft_mul 𝓡 A _ (⊖ i) _ t ∙ neg_mul 𝓡 _ _)
      where
        term : (s : ℕ) → conj (q s) ≡ ℜ (q s) ⊕ (⊖ i) ⊗ ℑ (q s)
        term s = ap conj (sym (parts 𝓡 𝓢 half halves (q s))) ∙ conj_pair 𝓡 𝓢 half halves _ _ (re_real 𝓡 𝓢 half halves _) (im_real 𝓡 𝓢 half halves _) ∙ ap (λ y. ℜ (q s) ⊕ y) (sym (neg_mul 𝓡 i _))

    -- the whole inverse sum
    pub inverse_sum1 : (t : ℕ) → dft 𝓞 (2 * A) (conj w) (unfold_a1 𝓞 conj i half A q) t ≡ dft 𝓞 A (pow 𝓞 (conj w) 2) (λ s. ℜ (q s)) t ⊕ pow 𝓞 (conj w) t ⊗ dft 𝓞 A (pow 𝓞 (conj w) 2) (λ s. ℑ (q s)) t
    inverse_sum1 t = split_time 𝓡 A (conj w) _ t ∙ ap₂ (λ x y. x ⊕ pow 𝓞 (conj w) t ⊗ y) (dft_cong 𝓡 A _ _ _ t (λ s l. interleave_even _ _ s)) (dft_cong 𝓡 A _ _ _ t (λ s l. interleave_odd _ _ s))

    pub fold_back1 : (t u c : ℕ) → t + u ≡ A * c → hermitian_value t (dft 𝓞 A (pow 𝓞 (conj w) 2) q t) (conj (dft 𝓞 A (pow 𝓞 (conj w) 2) q u)) ≡ dft 𝓞 (2 * A) (conj w) (unfold_a1 𝓞 conj i half A q) t
    unfolding hermitian-value-of
    fold_back1 t u c e = ap₂ (hermitian_value t) (hermitian_points t) (hermitian_points_conj t u c e) ∙ step half i (pow 𝓞 (conj w) t) (evens t) (odds t) halves i_square ∙ sym (inverse_sum1 t)
      where
        step : (h i f x y : R) → h ⊗ (𝟙 ⊕ 𝟙) ≡ 𝟙 → i ⊗ i ≡ ⊖ 𝟙 → h ⊗ ((x ⊕ i ⊗ y ⊕ (x ⊕ ⊖ (i ⊗ y))) ⊕ ⊖ (i ⊗ (f ⊗ (x ⊕ i ⊗ y ⊕ ⊖ (x ⊕ ⊖ (i ⊗ y)))))) ≡ x ⊕ f ⊗ y
        step h i f x y a b = linear 𝓡 b (⊖ (h ⊗ ((𝟙 ⊕ 𝟙) ⊗ (f ⊗ y)))) (linear 𝓡 a (x ⊕ f ⊗ y) (ring 𝓡 (h ∷ i ∷ f ∷ x ∷ y ∷ []) (search quote depth 40 fits 9999) refl))

    E_real : conj (evens 0) ≡ evens 0
    E_real = conj_end (λ s. ℜ (q s)) 0 0 0 (omega arith) ∙ dft_cong 𝓡 A _ _ _ 0 (λ s l. re_real 𝓡 𝓢 half halves (q s))

    O_real : conj (odds 0) ≡ odds 0
    O_real = conj_end (λ s. ℑ (q s)) 0 0 0 (omega arith) ∙ dft_cong 𝓡 A _ _ _ 0 (λ s l. im_real 𝓡 𝓢 half halves (q s))

    re_first : ℜ (Y 0) ≡ evens 0
    re_first = ap ℜ (hermitian_points 0) ∙ re_pair 𝓡 𝓢 half halves _ _ E_real O_real

    im_first : ℑ (Y 0) ≡ odds 0
    im_first = ap ℑ (hermitian_points 0) ∙ im_pair 𝓡 𝓢 half halves _ _ E_real O_real

  -- a transform of A values has period A
  pub period : (L : ℕ → R) → dft 𝓞 A (pow 𝓞 (conj w) 2) L A ≡ dft 𝓞 A (pow 𝓞 (conj w) 2) L 0
  period L = ap (dft 𝓞 A (pow 𝓞 (conj w) 2) L) (sym (N.add-zero A)) ∙ dft_period 𝓡 A (pow 𝓞 (conj w) 2) L 0 (turn_square 𝓡 A (conj w) (conj_turn 𝓡 𝓢 𝓐))

  -- the packed half from Y, the sum over A points that is not yet divided
  abbrev pub back1 : (ℕ → R) → ℕ → R
  back1 y = back1-of 𝓞 conj i half A part w y

  pub inverse1 : (q : ℕ → R) (t : ℕ) → t < A → back1 (dft 𝓞 A (pow 𝓞 (conj w) 2) q) t ≡ pack_b1 𝓞 conj i half A (λ t. part ⊗ dft 𝓞 (2 * A) (conj w) (unfold_a1 𝓞 conj i half A q) t) t
  unfolding back1-of pack_by
  inverse1 q zero l = ap₂ (λ x y. part ⊗ ((x ⊕ y) ⊕ i ⊗ (x ⊕ ⊖ y))) (re_first q) (im_first q) ∙ step part i (evens q 0) (odds q 0) ∙ sym (ap₂ (λ x y. part ⊗ x ⊕ i ⊗ (part ⊗ y)) at_0 at_A)
    where
      step : (p i x y : R) → p ⊗ ((x ⊕ y) ⊕ i ⊗ (x ⊕ ⊖ y)) ≡ p ⊗ (x ⊕ y) ⊕ i ⊗ (p ⊗ (x ⊕ ⊖ y))
      step p i x y = ring 𝓡 (p ∷ i ∷ x ∷ y ∷ []) (search quote depth 40 fits 9999) refl

      at_0 : dft 𝓞 (2 * A) (conj w) (unfold_a1 𝓞 conj i half A q) 0 ≡ evens q 0 ⊕ odds q 0
      at_0 = inverse_sum1 q 0 ∙ ap (λ y. evens q 0 ⊕ y) (ap (λ y. y ⊗ odds q 0) (pow_zero 𝓡 (conj w)) ∙ one_mul _)

      at_A : dft 𝓞 (2 * A) (conj w) (unfold_a1 𝓞 conj i half A q) A ≡ evens q 0 ⊕ ⊖ odds q 0
      at_A = inverse_sum1 q A ∙ ap₂ ◌⊕◌ (period _) (ap₂ ◌⊗◌ (conj_turn 𝓡 𝓢 𝓐) (period _) ∙ neg_one_mul 𝓡 _)
  inverse1 q (suc t) l = ap (λ y. part ⊗ y) (fold_back1 q (suc t) (A - suc t) 1 (omega arith))
