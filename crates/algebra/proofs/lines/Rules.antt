-- The rules of the kinds: an unfolded line keeps the rule of its kind, the transform takes the rule before to the rule after and back,
-- and a line that keeps its rule is the unfolding of what is packed of it. With these the two calls undo each other, for all kinds at once.
use mathlib.Core.Path.{◌≡◌, refl, sym, ◌∙◌, ap, ap₂}
use mathlib.Core.Logic.{◌⊎◌, inl, inr}
use mathlib.Core.List.{[], ◌∷◌}
use Prim.Native.Nat.{ℕ, zero, suc, ◌+◌, ◌*◌, ◌-◌, ◌/◌, ◌%◌, ◌<◌}
use native.Mathlib.Nat as N
use native.Mathlib.Omega.{arith}
use native.Mathlib.Decide.{ℕ_discrete, dec_lt}
use Rattle.algebra.specs.ring.Ring.{Ops, pow, dft}
use Rattle.algebra.specs.ring.RingLaws.{CRing, Star}
use Rattle.algebra.specs.fourier.Axis.{Axis, AxisLaws}
use Rattle.algebra.specs.lines.Kinds.{Reflected, sign, re, im, unit, unfold_by, interleave, pack_by, Kind, Kind.plain, Kind.hermitian, Kind.antihermitian, Kind.alternating, Kind.symmetric, Kind.antisymmetric, slots, unfold_before, unfold_after, pack_before, pack_after, RuleBefore, RuleAfter}
use Rattle.algebra.specs.lines.Packings.{Hermitian, AntiHermitian, Alternating, Symmetric, Antisymmetric, unfold_b1, unfold_b2, unfold_b3, unfold4, unfold5, unfold_a1, unfold_a2, unfold_a3}
use Rattle.algebra.proofs.ring.Laws.{along, mul_neg, mul_left_comm, neg_neg, neg_zero, self_neg, pow_add}
use Rattle.algebra.proofs.ring.StarRules.{quote_star}
use Rattle.algebra.proofs.ring.Solver.{ring, quote, linear}
use Rattle.algebra.proofs.fourier.Transform.{pow_zero, sign_even}
use Rattle.algebra.proofs.ring.Conj.{conj_sign}
use Rattle.algebra.proofs.fourier.Properties.{dft_symmetric, dft_antisymmetric, hermitian_real, antihermitian_imaginary, real_hermitian, imaginary_antihermitian, alternating_halves, halves_alternating}
use Rattle.algebra.proofs.lines.Parts.{re_real, im_real, parts, re_pair, im_pair, im_turn, imaginary}
use Rattle.algebra.proofs.fourier.Axis.{conj_turn, conj_inverse, conj_cycle, conj_part}
use Rattle.algebra.proofs.lines.Unfold.{three_lt, three_eq, three_gt, unfold_zero, unfold_low, unfold_middle, unfold_high, unfold_reflected, interleave_all, interleave_even, interleave_odd, at_mirror, at_zero}

module _ {R : Type 0} {𝓞 : Ops R} {conj : R → R} {i : R} (𝓡 : CRing 𝓞) (𝓢 : Star 𝓞 conj i) {half : R} {axis : Axis R} {tau : ℕ → R} (𝓐 : AxisLaws 𝓞 conj i half axis tau) where
  open 𝓞 use {add as ◌⊕◌, mul as ◌⊗◌, neg as ⊖◌, zer as 𝟘, one as 𝟙}
  open 𝓡 use {mul_assoc, mul_comm, one_mul}
  open 𝓢 use {conj_mul, conj_neg, conj_one, conj_conj, i_square, conj_i}
  open axis use {half as A, w, part}
  open 𝓐 use {positive, root, turn, halves}
  open root use {inverse, cycle}

  infixl 65 ◌⊕◌
  infixl 70 ◌⊗◌
  infix 75 ⊖◌
  abbrev ℜ : R → R
  ℜ z = re 𝓞 conj i half z

  abbrev ℑ : R → R
  ℑ z = im 𝓞 conj i half z

  -- the units 1 and i of an alternating line's middle
  unit_fixed : (n : ℕ) → sign 𝓞 n ⊗ conj (unit 𝓞 conj i half A n) ≡ unit 𝓞 conj i half A n
  unfolding unit pow
  unit_fixed zero = one_mul _ ∙ conj_one
  unit_fixed (suc zero) = ap (λ y. (⊖ 𝟙) ⊗ 𝟙 ⊗ y) conj_i ∙ step i
    where
      step : (i : R) → (⊖ 𝟙) ⊗ 𝟙 ⊗ ⊖ i ≡ i
      step i = ring 𝓡 (i ∷ []) (search quote depth 40 fits 9999) refl
  unit_fixed (suc (suc n)) = step _ _ ∙ unit_fixed n
    where
      step : (s c : R) → (⊖ 𝟙) ⊗ ((⊖ 𝟙) ⊗ s) ⊗ c ≡ s ⊗ c
      step s c = ring 𝓡 (s ∷ c ∷ []) (search quote depth 40 fits 9999) refl

  unit_norm : (n : ℕ) → conj (unit 𝓞 conj i half A n) ⊗ unit 𝓞 conj i half A n ≡ 𝟙
  unfolding unit
  unit_norm zero = ap (λ y. y ⊗ 𝟙) conj_one ∙ one_mul 𝟙
  unit_norm (suc zero) = ap (λ y. y ⊗ i) conj_i ∙ step i i_square
    where
      step : (i : R) → i ⊗ i ≡ ⊖ 𝟙 → (⊖ i) ⊗ i ≡ 𝟙
      step i a = linear 𝓡 a (⊖ 𝟙) (ring 𝓡 (i ∷ []) (search quote depth 40 fits 9999) refl)
  unit_norm (suc (suc n)) = unit_norm n

  -- i times a real value is imaginary
  times_i_lem : (x : R) → conj x ≡ x → conj (i ⊗ x) ≡ ⊖ (i ⊗ x)
  times_i_lem x r = ring 𝓡 (i ∷ conj x ∷ []) (search (quote_star, 𝓢) depth 40 fits 9999) refl ∙ ap (λ y. ⊖ (i ⊗ y)) r

  -- 1. An unfolded line keeps its rule.
  pub unfold_b1_rule : (p : ℕ → R) → Hermitian 𝓞 conj (2 * A) (unfold_b1 𝓞 conj i half A p)
  unfold_b1_rule p = unfold_reflected A _ _ _ p 𝓞 positive (re_real 𝓡 𝓢 half halves _) (im_real 𝓡 𝓢 half halves _) (λ t u x e. conj_conj x)

  pub unfold_b2_rule : (p : ℕ → R) → AntiHermitian 𝓞 conj (2 * A) (unfold_b2 𝓞 conj i half A p)
  unfold_b2_rule p = unfold_reflected A _ _ (λ t x. ⊖ conj x) p 𝓞 positive (turn_real _ (re_real 𝓡 𝓢 half halves _)) (turn_real _ (im_real 𝓡 𝓢 half halves _)) (λ t u x e. ap ⊖◌ (conj_neg _ ∙ ap ⊖◌ (conj_conj x)) ∙ neg_neg 𝓡 x)
    where
      turn_real : (x : R) → conj x ≡ x → ⊖ conj (i ⊗ x) ≡ i ⊗ x
      turn_real x r = ap ⊖◌ (times_i_lem x r) ∙ neg_neg 𝓡 _

  pub unfold_b3_rule : (p : ℕ → R) → Alternating 𝓞 conj (2 * A) (unfold_b3 𝓞 conj i half A p)
  unfold_b3_rule p = unfold_reflected A _ _ (λ t x. sign 𝓞 t ⊗ conj x) p 𝓞 positive
      (ap₂ ◌⊗◌ (pow_zero 𝓡 (⊖ 𝟙)) (re_real 𝓡 𝓢 half halves _) ∙ one_mul _)
      (ap (λ y. sign 𝓞 A ⊗ y) (conj_mul _ _ ∙ ap (λ y. conj (unit 𝓞 conj i half A A) ⊗ y) (im_real 𝓡 𝓢 half halves _)) ∙ sym (mul_assoc _ _ _) ∙ ap (λ y. y ⊗ ℑ (p 0)) (unit_fixed A))
      (λ t u x e. ap (λ y. sign 𝓞 u ⊗ y) (conj_mul _ _ ∙ ap₂ ◌⊗◌ (conj_sign 𝓡 𝓢 t) (conj_conj x)) ∙ sym (mul_assoc _ _ _) ∙ ap (λ y. y ⊗ x) (sym (pow_add 𝓡 (⊖ 𝟙) u t) ∙ ap (pow 𝓞 (⊖ 𝟙)) (N.add_comm u t ∙ e) ∙ sign_even 𝓡 A) ∙ one_mul x)

  pub unfold4_rule : (p : ℕ → R) → Symmetric 𝓞 (2 * A) (unfold4 𝓞 conj i half A p)
  unfold4_rule p = unfold_reflected A _ _ (λ t x. x) p 𝓞 positive refl refl (λ t u x e. refl)

  pub unfold5_rule : (p : ℕ → R) → Antisymmetric 𝓞 (2 * A) (unfold5 𝓞 conj i half A p)
  unfold5_rule p = unfold_reflected A _ _ (λ t x. ⊖ x) p 𝓞 positive (neg_zero 𝓡) (neg_zero 𝓡) (λ t u x e. neg_neg 𝓡 x)

  pub before_rule : (k : Kind) (p : ℕ → R) → RuleBefore 𝓞 conj i half A k (unfold_before 𝓞 conj i half A k p)
  unfolding unfold_before
  before_rule plain p = tt
  before_rule hermitian p = unfold_b1_rule p
  before_rule antihermitian p = unfold_b2_rule p
  before_rule alternating p = unfold_b3_rule p
  before_rule symmetric p = unfold4_rule p
  before_rule antisymmetric p = unfold5_rule (λ t. p (t - 1))

  -- a line of two real parts, one after the other
  interleave_real : (f g : ℕ → R) → ((s : ℕ) → conj (f s) ≡ f s) → ((s : ℕ) → conj (g s) ≡ g s) → (s : ℕ) → conj (interleave f g s) ≡ interleave f g s
  unfolding interleave
  interleave_real f g rf rg s = go (s % 2)
    where
      go : (k : ℕ) → conj (elim k as (λ k. R) [ zero ↦ f (s / 2) | suc k ↦ g (s / 2) ]) ≡ (elim k as (λ k. R) [ zero ↦ f (s / 2) | suc k ↦ g (s / 2) ])
      go zero = rf _
      go (suc k) = rg _

  interleave_mul : (c : R) (f g : ℕ → R) (s : ℕ) → interleave (λ s. c ⊗ f s) (λ s. c ⊗ g s) s ≡ c ⊗ interleave f g s
  unfolding interleave
  interleave_mul c f g s = go (s % 2)
    where
      go : (k : ℕ) → (elim k as (λ k. R) [ zero ↦ c ⊗ f (s / 2) | suc k ↦ c ⊗ g (s / 2) ]) ≡ c ⊗ (elim k as (λ k. R) [ zero ↦ f (s / 2) | suc k ↦ g (s / 2) ])
      go zero = refl
      go (suc k) = refl

  pub unfold_a1_rule : (q : ℕ → R) (s : ℕ) → conj (unfold_a1 𝓞 conj i half A q s) ≡ unfold_a1 𝓞 conj i half A q s
  unfold_a1_rule q = interleave_real _ _ (λ s. re_real 𝓡 𝓢 half halves _) (λ s. im_real 𝓡 𝓢 half halves _)

  pub unfold_a2_is : (q : ℕ → R) (s : ℕ) → unfold_a2 𝓞 conj i half A q s ≡ i ⊗ unfold_a1 𝓞 conj i half A q s
  unfold_a2_is q s = interleave_mul i _ _ s

  pub unfold_a3_low : (q : ℕ → R) (s : ℕ) → s < A → unfold_a3 𝓞 conj i half A q s ≡ q s
  unfold_a3_low q s l = three_lt s A _ _ _ l

  pub unfold_a3_high : (q : ℕ → R) (s : ℕ) → s < A → unfold_a3 𝓞 conj i half A q (A + s) ≡ conj (q s)
  unfold_a3_high q zero l = three_eq (A + 0) A _ _ _ (omega arith) ∙ along (λ k. conj (q k)) (A + 0 - A) 0 (omega arith)
  unfold_a3_high q (suc s) l = three_gt (A + suc s) A _ _ _ (omega arith) ∙ along (λ k. conj (q k)) (A + suc s - A) (suc s) (omega arith)

  pub after_rule : (k : Kind) (q : ℕ → R) → RuleAfter 𝓞 conj i half A k (unfold_after 𝓞 conj i half A k q)
  unfolding unfold_after
  after_rule plain q = tt
  after_rule hermitian q = λ s l. unfold_a1_rule q s
  after_rule antihermitian q = λ s l. ap conj (unfold_a2_is q s) ∙ times_i_lem _ (unfold_a1_rule q s) ∙ ap ⊖◌ (sym (unfold_a2_is q s))
  after_rule alternating q = λ s l. unfold_a3_high q s l ∙ ap conj (sym (unfold_a3_low q s l))
  after_rule symmetric q = unfold4_rule q
  after_rule antisymmetric q = unfold5_rule (λ t. q (t - 1))

  -- 2. The transform takes the rule before to the rule after, and its inverse takes it back.
  pub transform_rule : (k : Kind) (X : ℕ → R) → RuleBefore 𝓞 conj i half A k X → RuleAfter 𝓞 conj i half A k (dft 𝓞 (2 * A) w X)
  transform_rule plain X r = tt
  transform_rule hermitian X r = λ s l. hermitian_real 𝓡 𝓢 (2 * A) w inverse cycle X r s
  transform_rule antihermitian X r = λ s l. antihermitian_imaginary 𝓡 𝓢 (2 * A) w inverse cycle X r s
  transform_rule alternating X r = λ s l. alternating_halves 𝓡 𝓢 A w inverse turn X r s
  transform_rule symmetric X r = dft_symmetric 𝓡 (2 * A) w (conj w) inverse cycle X r
  transform_rule antisymmetric X r = dft_antisymmetric 𝓡 (2 * A) w (conj w) inverse cycle X r

  inverse' : conj w ⊗ conj (conj w) ≡ 𝟙
  inverse' = ap (λ y. conj w ⊗ y) (conj_conj w) ∙ conj_inverse 𝓡 𝓢 𝓐

  -- a rule that does not see a real factor
  scaled : (f : ℕ → R → R) (X : ℕ → R) → ((t : ℕ) (x : R) → part ⊗ f t x ≡ f t (part ⊗ x)) → Reflected 𝓞 (2 * A) f X → Reflected 𝓞 (2 * A) f (λ t. part ⊗ X t)
  scaled f X e r t l = ap (λ y. part ⊗ y) (r t l) ∙ e t (X t)

  part_conj : (x : R) → part ⊗ conj x ≡ conj (part ⊗ x)
  part_conj x = sym (conj_mul _ _ ∙ ap (λ y. y ⊗ conj x) (conj_part 𝓡 𝓢 𝓐))

  pub inverse_rule : (k : Kind) (Z : ℕ → R) → RuleAfter 𝓞 conj i half A k Z → RuleBefore 𝓞 conj i half A k (λ t. part ⊗ dft 𝓞 (2 * A) (conj w) Z t)
  inverse_rule plain Z r = tt
  inverse_rule hermitian Z r = scaled (λ t x. conj x) _ (λ t x. part_conj x) (real_hermitian 𝓡 𝓢 (2 * A) (conj w) inverse' (conj_cycle 𝓡 𝓢 𝓐) Z r)
  inverse_rule antihermitian Z r = scaled (λ t x. ⊖ conj x) _ (λ t x. mul_neg 𝓡 _ _ ∙ ap ⊖◌ (part_conj x)) (imaginary_antihermitian 𝓡 𝓢 (2 * A) (conj w) inverse' (conj_cycle 𝓡 𝓢 𝓐) Z r)
  inverse_rule alternating Z r = scaled (λ t x. sign 𝓞 t ⊗ conj x) _ (λ t x. mul_left_comm 𝓡 _ _ _ ∙ ap (λ y. sign 𝓞 t ⊗ y) (part_conj x)) (halves_alternating 𝓡 𝓢 A (conj w) inverse' (conj_turn 𝓡 𝓢 𝓐) Z r)
  inverse_rule symmetric Z r = scaled (λ t x. x) _ (λ t x. refl) (dft_symmetric 𝓡 (2 * A) (conj w) w (conj_inverse 𝓡 𝓢 𝓐) (conj_cycle 𝓡 𝓢 𝓐) Z r)
  inverse_rule antisymmetric Z r = scaled (λ t x. ⊖ x) _ (λ t x. mul_neg 𝓡 _ _) (dft_antisymmetric 𝓡 (2 * A) (conj w) w (conj_inverse 𝓡 𝓢 𝓐) (conj_cycle 𝓡 𝓢 𝓐) Z r)

  -- 3. A line that keeps its rule is the unfolding of what is packed of it.
  unfold_again : (f : ℕ → R → R) (X : ℕ → R) → Reflected 𝓞 (2 * A) f X → (first middle : R) → first ≡ X 0 → middle ≡ X A → (p : ℕ → R) → ((t : ℕ) → 0 < t → t < A → p t ≡ X t) → (s : ℕ) → s < 2 * A → unfold_by A first middle f p s ≡ X s
  unfold_again f X r first middle e0 eA p e zero l = unfold_zero A _ _ f p ∙ e0
  unfold_again f X r first middle e0 eA p e (suc s) l = go (ℕ_discrete (suc s) A) (dec_lt (suc s) A)
    where
      go : Dec (suc s ≡ A) → Dec (suc s < A) → unfold_by A first middle f p (suc s) ≡ X (suc s)
      go (yes h) d = ap (unfold_by A first middle f p) h ∙ unfold_middle A _ _ f p positive ∙ eA ∙ ap X (sym h)
      go (no h) (yes d) = unfold_low A _ _ f p (suc s) (omega arith) d ∙ e (suc s) (omega arith) d
      go (no h) (no d) = unfold_high A _ _ f p (suc s) (2 * A - suc s) (omega arith) (omega arith) ∙ ap (f (2 * A - suc s)) (e (2 * A - suc s) (omega arith) (omega arith)) ∙ sym (at_mirror 𝓡 (2 * A) f X r (2 * A - suc s) (suc s) (omega arith) (omega arith) (omega arith))

  -- the rule at 0 and in the middle
  at_first : (f : ℕ → R → R) (X : ℕ → R) → Reflected 𝓞 (2 * A) f X → X 0 ≡ f 0 (X 0)
  at_first f X r = at_zero 𝓡 (2 * A) f X (omega arith) r

  at_middle : (f : ℕ → R → R) (X : ℕ → R) → Reflected 𝓞 (2 * A) f X → X A ≡ f A (X A)
  at_middle f X r = at_mirror 𝓡 (2 * A) f X r A A positive positive (omega arith)

  pack_low : (first : R) (X : ℕ → R) (t : ℕ) → 0 < t → t < A → pack_by first X t ≡ X t
  unfolding pack_by
  pack_low first X zero p l = absurd (omega arith)
  pack_low first X (suc t) p l = refl

  pack_first : (first : R) (X : ℕ → R) → pack_by first X 0 ≡ first
  unfolding pack_by
  pack_first first X = refl

  pair_re : (x y : R) → x ≡ conj x → y ≡ conj y → ℜ (x ⊕ i ⊗ y) ≡ x
  pair_re x y rx ry = re_pair 𝓡 𝓢 half halves x y (sym rx) (sym ry)

  pair_im : (x y : R) → x ≡ conj x → y ≡ conj y → ℑ (x ⊕ i ⊗ y) ≡ y
  pair_im x y rx ry = im_pair 𝓡 𝓢 half halves x y (sym rx) (sym ry)

  -- the real number that an alternating line's middle is a unit times
  middle_real : (x : R) → x ≡ sign 𝓞 A ⊗ conj x → conj (unit 𝓞 conj i half A A) ⊗ x ≡ conj (conj (unit 𝓞 conj i half A A) ⊗ x)
  middle_real x e = ap₂ ◌⊗◌ (sym (ap conj (unit_fixed A)) ∙ conj_mul _ _ ∙ ap₂ ◌⊗◌ (conj_sign 𝓡 𝓢 A) (conj_conj _)) e ∙ step (sign 𝓞 A) (unit 𝓞 conj i half A A) (conj x) square ∙ sym (conj_mul _ _ ∙ ap (λ y. y ⊗ conj x) (conj_conj _))
    where
      square : sign 𝓞 A ⊗ sign 𝓞 A ≡ 𝟙
      square = sym (pow_add 𝓡 (⊖ 𝟙) A A) ∙ along (pow 𝓞 (⊖ 𝟙)) (A + A) (2 * A) (omega arith) ∙ sign_even 𝓡 A

      step : (s u c : R) → s ⊗ s ≡ 𝟙 → s ⊗ u ⊗ (s ⊗ c) ≡ u ⊗ c
      step s u c h = linear 𝓡 h (u ⊗ c) (ring 𝓡 (s ∷ u ∷ c ∷ []) (search quote depth 40 fits 9999) refl)

  unit_back : (x : R) → unit 𝓞 conj i half A A ⊗ (conj (unit 𝓞 conj i half A A) ⊗ x) ≡ x
  unit_back x = sym (mul_assoc _ _ _) ∙ ap (λ y. y ⊗ x) (mul_comm _ _ ∙ unit_norm A) ∙ one_mul x

  back_unit : (x : R) → conj (unit 𝓞 conj i half A A) ⊗ (unit 𝓞 conj i half A A ⊗ x) ≡ x
  back_unit x = sym (mul_assoc _ _ _) ∙ ap (λ y. y ⊗ x) (unit_norm A) ∙ one_mul x

  -- the imaginary part of an imaginary value, times i
  image_back : (x : R) → x ≡ ⊖ conj x → i ⊗ ℑ x ≡ x
  image_back x e = imaginary 𝓡 𝓢 half halves x (sym (ap ⊖◌ e ∙ neg_neg 𝓡 _))

  real_im : (x : R) → ℑ x ≡ conj (ℑ x)
  real_im x = sym (im_real 𝓡 𝓢 half halves x)

  pub before_pack : (k : Kind) (X : ℕ → R) → RuleBefore 𝓞 conj i half A k X → (t : ℕ) → t < 2 * A → unfold_before 𝓞 conj i half A k (pack_before 𝓞 conj i half A k X) t ≡ X t
  unfolding unfold_before pack_before
  before_pack plain X r = λ t l. refl
  before_pack hermitian X r = unfold_again (λ t x. conj x) X r _ _ (ap ℜ (pack_first _ X) ∙ pair_re _ _ (at_first (λ t x. conj x) X r) (at_middle (λ t x. conj x) X r)) (ap ℑ (pack_first _ X) ∙ pair_im _ _ (at_first (λ t x. conj x) X r) (at_middle (λ t x. conj x) X r)) _ (pack_low _ X)
  before_pack antihermitian X r = unfold_again (λ t x. ⊖ conj x) X r _ _ (ap (λ y. i ⊗ y) (ap ℜ (pack_first _ X) ∙ pair_re _ _ (real_im _) (real_im _)) ∙ image_back _ (at_first (λ t x. ⊖ conj x) X r)) (ap (λ y. i ⊗ y) (ap ℑ (pack_first _ X) ∙ pair_im _ _ (real_im _) (real_im _)) ∙ image_back _ (at_middle (λ t x. ⊖ conj x) X r)) _ (pack_low _ X)
  before_pack alternating X r = unfold_again (λ t x. sign 𝓞 t ⊗ conj x) X r _ _ (ap ℜ (pack_first _ X) ∙ pair_re _ _ real_first (middle_real _ (at_middle (λ t x. sign 𝓞 t ⊗ conj x) X r))) (ap (λ y. unit 𝓞 conj i half A A ⊗ y) (ap ℑ (pack_first _ X) ∙ pair_im _ _ real_first (middle_real _ (at_middle (λ t x. sign 𝓞 t ⊗ conj x) X r))) ∙ unit_back _) _ (pack_low _ X)
    where
      real_first : X 0 ≡ conj (X 0)
      real_first = at_first (λ t x. sign 𝓞 t ⊗ conj x) X r ∙ ap (λ y. y ⊗ conj (X 0)) (pow_zero 𝓡 (⊖ 𝟙)) ∙ one_mul _
  before_pack symmetric X r = unfold_again (λ t x. x) X r _ _ refl refl _ (λ t p l. refl)
  before_pack antisymmetric X r = unfold_again (λ t x. ⊖ x) X r _ _ (sym (self_neg 𝓡 half halves _ (at_first (λ t x. ⊖ x) X r))) (sym (self_neg 𝓡 half halves _ (at_middle (λ t x. ⊖ x) X r))) _ (λ t p l. along X (suc (t - 1)) t (omega arith))

  pub after_pack : (k : Kind) (Z : ℕ → R) → RuleAfter 𝓞 conj i half A k Z → (s : ℕ) → s < 2 * A → unfold_after 𝓞 conj i half A k (pack_after 𝓞 conj i half A k Z) s ≡ Z s
  unfolding unfold_after pack_after
  after_pack plain Z r = λ s l. refl
  after_pack hermitian Z r = λ s l. sym (interleave_all _ _ A Z (λ s l. sym (re_pair 𝓡 𝓢 half halves _ _ (r (2 * s) (omega arith)) (r (2 * s + 1) (omega arith)))) (λ s l. sym (im_pair 𝓡 𝓢 half halves _ _ (r (2 * s) (omega arith)) (r (2 * s + 1) (omega arith)))) s l)
  after_pack antihermitian Z r = λ s l. sym (interleave_all _ _ A Z
      (λ s l. sym (ap (λ y. i ⊗ y) (pair_re _ _ (real_im _) (real_im _)) ∙ imaginary 𝓡 𝓢 half halves _ (r (2 * s) (omega arith))))
      (λ s l. sym (ap (λ y. i ⊗ y) (pair_im _ _ (real_im _) (real_im _)) ∙ imaginary 𝓡 𝓢 half halves _ (r (2 * s + 1) (omega arith)))) s l)
  after_pack alternating Z r = λ s l. go s l (dec_lt s A)
    where
      go : (s : ℕ) → s < 2 * A → Dec (s < A) → unfold_a3 𝓞 conj i half A Z s ≡ Z s
      go s l (yes d) = unfold_a3_low Z s d
      go s l (no d) = along (unfold_a3 𝓞 conj i half A Z) s (A + (s - A)) (omega arith) ∙ unfold_a3_high Z (s - A) (omega arith) ∙ sym (r (s - A) (omega arith)) ∙ along Z (A + (s - A)) s (omega arith)
  after_pack symmetric Z r = unfold_again (λ t x. x) Z r _ _ refl refl _ (λ t p l. refl)
  after_pack antisymmetric Z r = unfold_again (λ t x. ⊖ x) Z r _ _ (sym (self_neg 𝓡 half halves _ (at_first (λ t x. ⊖ x) Z r))) (sym (self_neg 𝓡 half halves _ (at_middle (λ t x. ⊖ x) Z r))) _ (λ t p l. along Z (suc (t - 1)) t (omega arith))

  -- 4. What is packed of an unfolded line is what it was unfolded from.
  unfold4_at : (p : ℕ → R) (t : ℕ) → t < suc A → unfold4 𝓞 conj i half A p t ≡ p t
  unfold4_at p zero l = unfold_zero A _ _ _ p
  unfold4_at p (suc t) l = go (ℕ_discrete (suc t) A)
    where
      go : Dec (suc t ≡ A) → unfold4 𝓞 conj i half A p (suc t) ≡ p (suc t)
      go (yes h) = ap (unfold4 𝓞 conj i half A p) h ∙ unfold_middle A _ _ _ p positive ∙ ap p (sym h)
      go (no h) = unfold_low A _ _ _ p (suc t) (omega arith) (omega arith)

  unfold5_at : (p : ℕ → R) (t : ℕ) → t < A - 1 → unfold5 𝓞 conj i half A (λ t. p (t - 1)) (suc t) ≡ p t
  unfold5_at p t l = unfold_low A _ _ _ (λ t. p (t - 1)) (suc t) (omega arith) (omega arith) ∙ along p (suc t - 1) t (omega arith)

  pack_unfold : (first middle again : R) (f : ℕ → R → R) (p : ℕ → R) → again ≡ p 0 → (t : ℕ) → t < A → pack_by again (unfold_by A first middle f p) t ≡ p t
  unfolding pack_by
  pack_unfold first middle again f p e zero l = e
  pack_unfold first middle again f p e (suc t) l = unfold_low A _ _ f p (suc t) (omega arith) l

  pub pack_before_unfolded : (k : Kind) (p : ℕ → R) (t : ℕ) → t < slots k A → pack_before 𝓞 conj i half A k (unfold_before 𝓞 conj i half A k p) t ≡ p t
  unfolding slots unfold_before pack_before
  pack_before_unfolded plain p t l = refl
  pack_before_unfolded hermitian p t l = pack_unfold _ _ _ _ p (ap₂ (λ x y. x ⊕ i ⊗ y) (unfold_zero A _ _ _ p) (unfold_middle A _ _ _ p positive) ∙ parts 𝓡 𝓢 half halves (p 0)) t l
  pack_before_unfolded antihermitian p t l = pack_unfold _ _ _ _ p (ap₂ (λ x y. x ⊕ i ⊗ y) (ap ℑ (unfold_zero A _ _ _ p) ∙ im_turn 𝓡 𝓢 half halves _ (re_real 𝓡 𝓢 half halves _)) (ap ℑ (unfold_middle A _ _ _ p positive) ∙ im_turn 𝓡 𝓢 half halves _ (im_real 𝓡 𝓢 half halves _)) ∙ parts 𝓡 𝓢 half halves (p 0)) t l
  pack_before_unfolded alternating p t l = pack_unfold _ _ _ _ p (ap₂ (λ x y. x ⊕ i ⊗ y) (unfold_zero A _ _ _ p) (ap (λ y. conj (unit 𝓞 conj i half A A) ⊗ y) (unfold_middle A _ _ _ p positive) ∙ back_unit _) ∙ parts 𝓡 𝓢 half halves (p 0)) t l
  pack_before_unfolded symmetric p t l = unfold4_at p t l
  pack_before_unfolded antisymmetric p t l = unfold5_at p t l

  pub pack_after_unfolded : (k : Kind) (q : ℕ → R) (s : ℕ) → s < slots k A → pack_after 𝓞 conj i half A k (unfold_after 𝓞 conj i half A k q) s ≡ q s
  unfolding slots unfold_after pack_after
  pack_after_unfolded plain q s l = refl
  pack_after_unfolded hermitian q s l = ap₂ (λ x y. x ⊕ i ⊗ y) (interleave_even _ _ s) (interleave_odd _ _ s) ∙ parts 𝓡 𝓢 half halves (q s)
  pack_after_unfolded antihermitian q s l = ap₂ (λ x y. x ⊕ i ⊗ y) (ap ℑ (interleave_even _ _ s) ∙ im_turn 𝓡 𝓢 half halves _ (re_real 𝓡 𝓢 half halves _)) (ap ℑ (interleave_odd _ _ s) ∙ im_turn 𝓡 𝓢 half halves _ (im_real 𝓡 𝓢 half halves _)) ∙ parts 𝓡 𝓢 half halves (q s)
  pack_after_unfolded alternating q s l = unfold_a3_low q s l
  pack_after_unfolded symmetric q s l = unfold4_at q s l
  pack_after_unfolded antisymmetric q s l = unfold5_at q s l

  -- What is packed depends on the line's places alone.
  pack_cong : (x y : R) (X Y : ℕ → R) → x ≡ y → ((t : ℕ) → t < 2 * A → X t ≡ Y t) → (t : ℕ) → t < A → pack_by x X t ≡ pack_by y Y t
  unfolding pack_by
  pack_cong x y X Y e f zero l = e
  pack_cong x y X Y e f (suc t) l = f (suc t) (omega arith)

  pub pack_before_cong : (k : Kind) (X Y : ℕ → R) → ((t : ℕ) → t < 2 * A → X t ≡ Y t) → (t : ℕ) → t < slots k A → pack_before 𝓞 conj i half A k X t ≡ pack_before 𝓞 conj i half A k Y t
  unfolding slots pack_before
  pack_before_cong plain X Y e t l = e t l
  pack_before_cong hermitian X Y e t l = pack_cong _ _ X Y (ap₂ (λ x y. x ⊕ i ⊗ y) (e 0 (omega arith)) (e A (omega arith))) e t l
  pack_before_cong antihermitian X Y e t l = pack_cong _ _ X Y (ap₂ (λ x y. ℑ x ⊕ i ⊗ ℑ y) (e 0 (omega arith)) (e A (omega arith))) e t l
  pack_before_cong alternating X Y e t l = pack_cong _ _ X Y (ap₂ (λ x y. x ⊕ i ⊗ (conj (unit 𝓞 conj i half A A) ⊗ y)) (e 0 (omega arith)) (e A (omega arith))) e t l
  pack_before_cong symmetric X Y e t l = e t (omega arith)
  pack_before_cong antisymmetric X Y e t l = e (suc t) (omega arith)

  pub pack_after_cong : (k : Kind) (X Y : ℕ → R) → ((t : ℕ) → t < 2 * A → X t ≡ Y t) → (s : ℕ) → s < slots k A → pack_after 𝓞 conj i half A k X s ≡ pack_after 𝓞 conj i half A k Y s
  unfolding slots pack_after
  pack_after_cong plain X Y e s l = e s l
  pack_after_cong hermitian X Y e s l = ap₂ (λ x y. x ⊕ i ⊗ y) (e (2 * s) (omega arith)) (e (2 * s + 1) (omega arith))
  pack_after_cong antihermitian X Y e s l = ap₂ (λ x y. ℑ x ⊕ i ⊗ ℑ y) (e (2 * s) (omega arith)) (e (2 * s + 1) (omega arith))
  pack_after_cong alternating X Y e s l = e s (omega arith)
  pack_after_cong symmetric X Y e s l = e s (omega arith)
  pack_after_cong antisymmetric X Y e s l = e (suc s) (omega arith)

  -- an antisymmetric line's transform is zero at both ends
  pub antisymmetric_ends : (X : ℕ → R) → RuleBefore 𝓞 conj i half A antisymmetric X → (w' : ℕ) → (w' ≡ 0) ⊎ (w' ≡ A) → dft 𝓞 (2 * A) w X w' ≡ 𝟘
  antisymmetric_ends X r w' (inl e) = ap (dft 𝓞 (2 * A) w X) e ∙ self_neg 𝓡 half halves _ (at_zero 𝓡 (2 * A) (λ t x. ⊖ x) _ (omega (arith, positive)) (transform_rule antisymmetric X r))
  antisymmetric_ends X r w' (inr e) = ap (dft 𝓞 (2 * A) w X) e ∙ self_neg 𝓡 half halves _ (at_mirror 𝓡 (2 * A) (λ t x. ⊖ x) _ (transform_rule antisymmetric X r) A A positive positive (omega arith))
