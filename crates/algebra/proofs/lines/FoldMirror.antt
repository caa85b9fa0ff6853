-- Kinds 4 and 5, symmetric and antisymmetric, forward and back.
use mathlib.Core.Path.{◌≡◌, refl, sym, ◌∙◌, ap, ap₂}
use mathlib.Core.List.{[], ◌∷◌}
use Prim.Native.Nat.{ℕ, zero, suc, ◌+◌, ◌*◌, ◌-◌, ◌%◌, ◌<◌}
use native.Mathlib.Nat as N
use native.Mathlib.Omega.{arith}
use native.Mathlib.Decide.{ℕ_discrete}
use Rattle.algebra.specs.ring.Ring.{Ops, pow, sum, dft}
use Rattle.algebra.specs.ring.RingLaws.{CRing, Star}
use Rattle.algebra.specs.fourier.Axis.{Axis, AxisLaws}
use Rattle.algebra.proofs.ring.Solver.{ring, quote, linear}
use Rattle.algebra.specs.lines.Kinds.{Reflected}
use Rattle.algebra.specs.lines.Packings.{unfold4, unfold5}
use Rattle.algebra.specs.lines.Folds.{mirror_point as mirror-point-of, mirror_value as mirror-value-of, finish as finish-of}
use Rattle.algebra.proofs.ring.Laws.{along, pow_add, neg_one_mul, neg_one_square}
use Rattle.algebra.proofs.fourier.Transform.{pow_zero, dft_add, pow_unit, dft_zero}
use Rattle.algebra.proofs.lines.Unfold.{at_zero, three_eq, at_mirror, three_lt}
use Rattle.algebra.proofs.fourier.Properties.{dft_reflected, split_time, split_time_above, turn_square, turn_twice}
use Rattle.algebra.proofs.lines.Rules.{unfold4_rule, unfold5_rule}
use Rattle.algebra.proofs.fourier.Tangents.{tan_up, tan_down}
use Rattle.algebra.proofs.fourier.Axis.{conj_turn, conj_inverse}

module _ {R : Type 0} {𝓞 : Ops R} (𝓡 : CRing 𝓞) where
  open 𝓞 use {add as ◌⊕◌, mul as ◌⊗◌, neg as ⊖◌, zer as 𝟘, one as 𝟙}
  open 𝓡 use {one_mul, left_distrib}

  infixl 65 ◌⊕◌
  infixl 70 ◌⊗◌
  infix 75 ⊖◌
  -- for either root: v with its inverse u, and th with th (1 + v^s) = v^s - 1
  module _ (A : ℕ) (v u half : R) (th : ℕ → R) (turn : pow 𝓞 v A ≡ ⊖ 𝟙) (inverse : v ⊗ u ≡ 𝟙) (halves : half ⊗ (𝟙 ⊕ 𝟙) ≡ 𝟙)
      (tangent : (s : ℕ) → 0 < s → s < A → th s ⊗ (𝟙 ⊕ pow 𝓞 v s) ≡ pow 𝓞 v s ⊕ ⊖ 𝟙) where
    -- the plain line of A points
    abbrev pub mirror_point : (ℕ → R) → ℕ → R
    mirror_point X = mirror-point-of 𝓞 X

    module _ (σ : R) (X : ℕ → R) (square : σ ⊗ σ ≡ 𝟙) (rule : Reflected 𝓞 (2 * A) (λ t x. σ ⊗ x) X) where
      abbrev evens : ℕ → R
      evens = dft 𝓞 A (pow 𝓞 v 2) (λ t. X (2 * t))

      abbrev odds : ℕ → R
      odds = dft 𝓞 A (pow 𝓞 v 2) (λ t. X (2 * t + 1))

      mirror_point_is : (s : ℕ) → dft 𝓞 A (pow 𝓞 v 2) (mirror_point X) s ≡ evens s ⊕ odds s
      unfolding mirror-point-of
      mirror_point_is s = dft_add 𝓡 A _ _ _ s

      even_rule : Reflected 𝓞 A (λ t x. σ ⊗ x) (λ t. X (2 * t))
      even_rule zero l = ap (λ k. X (2 * k)) (along (λ k. k % A) (A - 0) A (omega arith) ∙ N.mod_self A) ∙ ap X (N.mul-zero 2) ∙ at_zero 𝓡 (2 * A) (λ t x. σ ⊗ x) X (omega arith) rule ∙ ap (λ k. σ ⊗ X k) (sym (N.mul-zero 2))
      even_rule (suc t) l = ap (λ k. X (2 * k)) (N.mod-eq_of_lt (omega arith)) ∙ at_mirror 𝓡 (2 * A) (λ t x. σ ⊗ x) X rule (2 * suc t) (2 * (A - suc t)) (omega arith) (omega arith) (omega arith)

      evens_mirror : (s r : ℕ) → s + r ≡ A → evens s ≡ σ ⊗ evens r
      evens_mirror s r e = dft_reflected 𝓡 A (pow 𝓞 v 2) (pow 𝓞 u 2) (pow_unit 𝓡 v u inverse 2) (turn_square 𝓡 A v turn) σ (λ t. X (2 * t)) even_rule s r 1 (omega arith)

      line_mirror : (s r : ℕ) → s + r ≡ 2 * A → dft 𝓞 (2 * A) v X s ≡ σ ⊗ dft 𝓞 (2 * A) v X r
      line_mirror s r e = dft_reflected 𝓡 (2 * A) v u inverse (turn_twice 𝓡 A v turn) σ X rule s r 1 (omega arith)

      -- sigma L(A - s) = w^2s L(s)
      odds_mirror : (s r : ℕ) → s + r ≡ A → σ ⊗ odds r ≡ pow 𝓞 v s ⊗ (pow 𝓞 v s ⊗ odds s)
      odds_mirror s r e = step σ (pow 𝓞 v s) (pow 𝓞 v r) (evens s) (evens r) (odds s) (odds r) (sym (split_time 𝓡 A v X s) ∙ line_mirror s (A + r) (omega arith) ∙ ap (λ y. σ ⊗ y) (split_time_above 𝓡 A v turn X r)) (evens_mirror s r e) (sym (pow_add 𝓡 v s r) ∙ ap (pow 𝓞 v) e ∙ turn)
        where
          step : (σ e g a b l m : R) → a ⊕ e ⊗ l ≡ σ ⊗ (b ⊕ ⊖ (g ⊗ m)) → a ≡ σ ⊗ b → e ⊗ g ≡ ⊖ 𝟙 → σ ⊗ m ≡ e ⊗ (e ⊗ l)
          step σ e g a b l m x y z = linear 𝓡 x (⊖ e) (linear 𝓡 y e (linear 𝓡 z (σ ⊗ m) (ring 𝓡 (σ ∷ e ∷ g ∷ a ∷ b ∷ l ∷ m ∷ []) (search quote depth 40 fits 9999) refl)))

      -- the two places s and r = A - s of the short transform
      abbrev pub mirror_value : ℕ → R → R → R
      mirror_value s y z = mirror-value-of 𝓞 half σ (th s) y z

      pub fold_mirror : (s r : ℕ) → 0 < s → s < A → s + r ≡ A → mirror_value s (dft 𝓞 A (pow 𝓞 v 2) (mirror_point X) s) (dft 𝓞 A (pow 𝓞 v 2) (mirror_point X) r) ≡ dft 𝓞 (2 * A) v X s
      unfolding mirror-value-of
      fold_mirror s r p l e = ap₂ (λ y z. half ⊗ ((y ⊕ z) ⊕ th s ⊗ (y ⊕ ⊖ z))) (mirror_point_is s) (ap (λ y. σ ⊗ y) (mirror_point_is r) ∙ left_distrib _ _ _ ∙ ap₂ ◌⊕◌ (sym (evens_mirror s r e)) (odds_mirror s r e))
          ∙ step half (th s) (pow 𝓞 v s) (evens s) (odds s) halves (tangent s p l) ∙ sym (split_time 𝓡 A v X s)
        where
          step : (h t e x y : R) → h ⊗ (𝟙 ⊕ 𝟙) ≡ 𝟙 → t ⊗ (𝟙 ⊕ e) ≡ e ⊕ ⊖ 𝟙 → h ⊗ ((x ⊕ y ⊕ (x ⊕ e ⊗ (e ⊗ y))) ⊕ t ⊗ (x ⊕ y ⊕ ⊖ (x ⊕ e ⊗ (e ⊗ y)))) ≡ x ⊕ e ⊗ y
          step h t e x y a b = linear 𝓡 b (h ⊗ (𝟙 ⊕ ⊖ e) ⊗ y) (linear 𝓡 a (x ⊕ e ⊗ y) (ring 𝓡 (h ∷ t ∷ e ∷ x ∷ y ∷ []) (search quote depth 40 fits 9999) refl))

      pub fold_first : dft 𝓞 A (pow 𝓞 v 2) (mirror_point X) 0 ≡ dft 𝓞 (2 * A) v X 0
      fold_first = mirror_point_is 0 ∙ ap (λ y. evens 0 ⊕ y) (sym (ap (λ y. y ⊗ odds 0) (pow_zero 𝓡 v) ∙ one_mul _)) ∙ sym (split_time 𝓡 A v X 0)

      pub fold_middle : (o : R) → o ≡ sum 𝓞 A (λ t. X (2 * t + 1)) → dft 𝓞 A (pow 𝓞 v 2) (mirror_point X) 0 ⊕ ⊖ (o ⊕ o) ≡ dft 𝓞 (2 * A) v X A
      fold_middle o h = ap₂ (λ y z. y ⊕ ⊖ (z ⊕ z)) (mirror_point_is 0) (h ∙ sym (dft_zero 𝓡 A _ _)) ∙ step (evens 0) (odds 0) ∙ ap (λ y. evens 0 ⊕ ⊖ y) (sym (ap (λ y. y ⊗ odds 0) (pow_zero 𝓡 v) ∙ one_mul _)) ∙ sym (split_time_above 𝓡 A v turn X 0) ∙ ap (dft 𝓞 (2 * A) v X) (N.add-zero A)
        where
          step : (x y : R) → x ⊕ y ⊕ ⊖ (y ⊕ y) ≡ x ⊕ ⊖ y
          step x y = ring 𝓡 (x ∷ y ∷ []) (search quote depth 40 fits 9999) refl

    -- the places 0 .. A from the short transform y and the sum o of the odd places
    abbrev pub finish : R → (ℕ → R) → R → ℕ → R
    finish σ y o = finish-of 𝓞 half A th σ y o

    pub finish_is : (σ : R) (X : ℕ → R) → σ ⊗ σ ≡ 𝟙 → Reflected 𝓞 (2 * A) (λ t x. σ ⊗ x) X → (s : ℕ) → s < suc A →
        finish σ (dft 𝓞 A (pow 𝓞 v 2) (mirror_point X)) (sum 𝓞 A (λ t. X (2 * t + 1))) s ≡ dft 𝓞 (2 * A) v X s
    unfolding finish-of
    finish_is σ X square rule zero l = fold_first σ X square rule
    finish_is σ X square rule (suc s) l = go (ℕ_discrete (suc s) A)
      where
        go : Dec (suc s ≡ A) → finish σ (dft 𝓞 A (pow 𝓞 v 2) (mirror_point X)) (sum 𝓞 A (λ t. X (2 * t + 1))) (suc s) ≡ dft 𝓞 (2 * A) v X (suc s)
        go (yes h) = three_eq (suc s) A _ _ _ h ∙ fold_middle σ X square rule _ refl ∙ ap (dft 𝓞 (2 * A) v X) (sym h)
        go (no h) = three_lt (suc s) A _ _ _ (omega arith) ∙ fold_mirror σ X square rule (suc s) (A - suc s) (omega arith) (omega arith) (omega arith)

module _ {R : Type 0} {𝓞 : Ops R} {conj : R → R} {i : R} (𝓡 : CRing 𝓞) (𝓢 : Star 𝓞 conj i) {half : R} {axis : Axis R} {tau : ℕ → R} (𝓐 : AxisLaws 𝓞 conj i half axis tau) where
  open 𝓞 use {add as ◌⊕◌, mul as ◌⊗◌, neg as ⊖◌, zer as 𝟘, one as 𝟙}
  open 𝓡 use {one_mul}
  open axis use {half as A, w, part}
  open 𝓐 use {root, turn, halves}
  open root use {inverse}

  infixl 65 ◌⊕◌
  infixl 70 ◌⊗◌
  infix 75 ⊖◌
  -- the rules as a factor
  rule4 : (p : ℕ → R) → Reflected 𝓞 (2 * A) (λ t x. 𝟙 ⊗ x) (unfold4 𝓞 conj i half A p)
  rule4 p t l = unfold4_rule 𝓡 𝓢 𝓐 p t l ∙ sym (one_mul _)

  rule5 : (p : ℕ → R) → Reflected 𝓞 (2 * A) (λ t x. (⊖ 𝟙) ⊗ x) (unfold5 𝓞 conj i half A p)
  rule5 p t l = unfold5_rule 𝓡 𝓢 𝓐 p t l ∙ sym (neg_one_mul 𝓡 _)

  -- forward: the root w; back: the other root, the half tangents negated
  abbrev pub ahead : R → (ℕ → R) → ℕ → R
  ahead σ X s = finish-of 𝓞 half A (λ s. i ⊗ tau s) σ (dft 𝓞 A (pow 𝓞 w 2) (mirror-point-of 𝓞 X)) (sum 𝓞 A (λ t. X (2 * t + 1))) s

  abbrev pub aback : R → (ℕ → R) → ℕ → R
  aback σ X s = finish-of 𝓞 half A (λ s. ⊖ (i ⊗ tau s)) σ (dft 𝓞 A (pow 𝓞 (conj w) 2) (mirror-point-of 𝓞 X)) (sum 𝓞 A (λ t. X (2 * t + 1))) s

  pub forward4 : (p : ℕ → R) (s : ℕ) → s < suc A → ahead 𝟙 (unfold4 𝓞 conj i half A p) s ≡ dft 𝓞 (2 * A) w (unfold4 𝓞 conj i half A p) s
  forward4 p s l = finish_is 𝓡 A w (conj w) half (λ s. i ⊗ tau s) turn inverse halves (tan_up 𝓡 𝓢 𝓐) 𝟙 _ (one_mul 𝟙) (rule4 p) s l

  pub forward5 : (p : ℕ → R) (s : ℕ) → s < suc A → ahead (⊖ 𝟙) (unfold5 𝓞 conj i half A p) s ≡ dft 𝓞 (2 * A) w (unfold5 𝓞 conj i half A p) s
  forward5 p s l = finish_is 𝓡 A w (conj w) half (λ s. i ⊗ tau s) turn inverse halves (tan_up 𝓡 𝓢 𝓐) (⊖ 𝟙) _ (neg_one_square 𝓡) (rule5 p) s l

  pub inverse4 : (p : ℕ → R) (s : ℕ) → s < suc A → part ⊗ aback 𝟙 (unfold4 𝓞 conj i half A p) s ≡ part ⊗ dft 𝓞 (2 * A) (conj w) (unfold4 𝓞 conj i half A p) s
  inverse4 p s l = ap (λ y. part ⊗ y) (finish_is 𝓡 A (conj w) w half (λ s. ⊖ (i ⊗ tau s)) (conj_turn 𝓡 𝓢 𝓐) (conj_inverse 𝓡 𝓢 𝓐) halves (tan_down 𝓡 𝓢 𝓐) 𝟙 _ (one_mul 𝟙) (rule4 p) s l)

  pub inverse5 : (p : ℕ → R) (s : ℕ) → s < suc A → part ⊗ aback (⊖ 𝟙) (unfold5 𝓞 conj i half A p) s ≡ part ⊗ dft 𝓞 (2 * A) (conj w) (unfold5 𝓞 conj i half A p) s
  inverse5 p s l = ap (λ y. part ⊗ y) (finish_is 𝓡 A (conj w) w half (λ s. ⊖ (i ⊗ tau s)) (conj_turn 𝓡 𝓢 𝓐) (conj_inverse 𝓡 𝓢 𝓐) halves (tan_down 𝓡 𝓢 𝓐) (⊖ 𝟙) _ (neg_one_square 𝓡) (rule5 p) s l)
