-- The properties of the transform that document 001 lists in its Table 1, by its numbers: each for a root v of any order n with its inverse u,
-- whichever of the two roots of an axis it is. The mirror image of a line is X(N - t), indices modulo N. Of (2), inversion and inversion_after stand in Transform.
use mathlib.Core.Path.{◌≡◌, refl, sym, ◌∙◌, ap, ap₂}
use mathlib.Core.List.{[], ◌∷◌}
use Prim.Native.Nat.{ℕ, zero, suc, ◌+◌, ◌*◌, ◌-◌, ◌%◌, ◌<◌}
use native.Mathlib.Nat as N
use native.Mathlib.Omega.{arith}
use native.Mathlib.Decide.{dec_lt}
use Rattle.algebra.specs.ring.Ring.{Ops, pow, sum, dft}
use Rattle.algebra.specs.fourier.Axis.{cast, Root}
use Rattle.algebra.specs.ring.RingLaws.{CRing, Star}
use Rattle.algebra.specs.lines.Kinds.{Reflected, sign}
use Rattle.algebra.specs.lines.Packings.{Symmetric, Antisymmetric, Hermitian, AntiHermitian, Alternating}
use Rattle.algebra.proofs.ring.Laws.{along, mul_zero, mul_left_comm, right_distrib, neg_mul, neg_one_mul, neg_one_square, neg_neg, neg_zero, zero_mul, pow_add, mul_one}
use Rattle.algebra.proofs.ring.Solver.{ring, quote, linear}
use Rattle.algebra.proofs.fourier.Sums.{sum_cong, sum_add, sum_mul, sum_mul_right, sum_append, sum_swap, sum_even_odd, sum_shift_mod, sum_neg_mod, sum_all_zero, sum_single}
use Rattle.algebra.proofs.fourier.Transform.{pow_zero, pow_mul, pow_cycle, pow_mod, pow_unit, pow_across, dft_cong, dft_mul, dft_period, inversion, root_inverse, inversion_after}
use Rattle.algebra.proofs.ring.Conj.{conj_dft, conj_pow, conj_sign, conj_of_inverse, conj_cast}

module _ {R : Type 0} {𝓞 : Ops R} (𝓡 : CRing 𝓞) where
  open 𝓞 use {add as ◌⊕◌, mul as ◌⊗◌, neg as ⊖◌, zer as 𝟘, one as 𝟙}
  open 𝓡 use {add_comm, zero_add, mul_assoc, mul_comm, one_mul}

  infixl 65 ◌⊕◌
  infixl 70 ◌⊗◌
  infix 75 ⊖◌
  pub dft_neg : (n : ℕ) (v : R) (X : ℕ → R) (s : ℕ) → dft 𝓞 n v (λ t. ⊖ X t) s ≡ ⊖ dft 𝓞 n v X s
  dft_neg n v X s = dft_cong 𝓡 n v _ _ s (λ t l. sym (neg_one_mul 𝓡 (X t))) ∙ dft_mul 𝓡 n v (⊖ 𝟙) X s ∙ neg_one_mul 𝓡 _

  pub dft_all_zero : (n : ℕ) (v : R) (X : ℕ → R) (s : ℕ) → ((t : ℕ) → t < n → X t ≡ 𝟘) → dft 𝓞 n v X s ≡ 𝟘
  unfolding dft
  dft_all_zero n v X s e = sum_all_zero 𝓡 n _ (λ t l. ap (λ y. y ⊗ pow 𝓞 v (t * s)) (e t l) ∙ zero_mul 𝓡 _)

  -- (3) the shifting theorem, from the other side: a phase shift of the line is an origin shift of the result
  pub dft_phase : (n : ℕ) (v : R) (X : ℕ → R) (h s : ℕ) → dft 𝓞 n v (λ t. pow 𝓞 v (t * h) ⊗ X t) s ≡ dft 𝓞 n v X (h + s)
  unfolding dft
  dft_phase n v X h s = sum_cong 𝓡 n _ _ (λ t l. move _ _ _ ∙ ap (λ y. X t ⊗ y) (sym (pow_add 𝓡 v (t * h) (t * s)) ∙ along (pow 𝓞 v) (t * h + t * s) (t * (h + s)) (omega arith)))
    where
      move : (a x b : R) → a ⊗ x ⊗ b ≡ x ⊗ (a ⊗ b)
      move a x b = ring 𝓡 (a ∷ x ∷ b ∷ []) (search quote depth 40 fits 9999) refl

  pub dft_next : (n : ℕ) (v : R) (X : ℕ → R) (s : ℕ) → dft 𝓞 n v X (suc s) ≡ dft 𝓞 n v (λ t. pow 𝓞 v t ⊗ X t) s
  dft_next n v X s = along (dft 𝓞 n v X) (suc s) (1 + s) (omega arith) ∙ sym (dft_phase n v X 1 s) ∙ dft_cong 𝓡 n v _ _ s (λ t l. ap (λ y. pow 𝓞 v y ⊗ X t) (N.mul-one t))

  -- one value at 0
  unfoldable pub spike : R → ℕ → R
  spike c zero = c
  spike c (suc s) = 𝟘

  pub dft_spike : (n : ℕ) (v c : R) (s : ℕ) → 0 < n → dft 𝓞 n v (spike c) s ≡ c
  unfolding dft spike
  dft_spike n v c s p = sum_single 𝓡 n 0 (λ t. spike c t ⊗ pow 𝓞 v (t * s)) p (λ t l ne. off t ne) ∙ ap (λ y. c ⊗ y) (ap (pow 𝓞 v) (N.zero-mul s) ∙ pow_zero 𝓡 v) ∙ mul_one 𝓡 c
    where
      off : (t : ℕ) → (t ≡ 0 → ⊥) → spike c t ⊗ pow 𝓞 v (t * s) ≡ 𝟘
      off zero ne = absurd (ne refl)
      off (suc t) ne = zero_mul 𝓡 _

  -- a rule of a line that holds at every two places that are opposite
  pub reflected_of : (n : ℕ) (f : ℕ → R → R) (X : ℕ → R) → ((s u c : ℕ) → s + u ≡ n * c → X s ≡ f u (X u)) → Reflected 𝓞 n f X
  reflected_of n f X r zero l = ap X (along (λ k. k % n) (n - 0) n (omega arith) ∙ N.mod_self n) ∙ r 0 0 0 (omega arith)
  reflected_of n f X r (suc t) l = ap X (N.mod-eq_of_lt (omega arith)) ∙ r (n - suc t) (suc t) 1 (omega arith)

  module _ (n : ℕ) (v u : R) (inverse : v ⊗ u ≡ 𝟙) (cycle : pow 𝓞 v n ≡ 𝟙) where
    -- (3) the shifting theorem: an origin shift of the line is a phase shift of the result
    pub dft_shift : (X : ℕ → R) (h s : ℕ) → dft 𝓞 n v (λ t. X ((t + h) % n)) s ≡ pow 𝓞 u (h * s) ⊗ dft 𝓞 n v X s
    unfolding dft
    dft_shift X h s = again (pow 𝓞 v (h * s)) (pow 𝓞 u (h * s)) _ (pow_unit 𝓡 v u inverse (h * s)) ∙ ap (λ y. pow 𝓞 u (h * s) ⊗ y) (sym (sum_mul 𝓡 n (pow 𝓞 v (h * s)) _) ∙ sum_cong 𝓡 n _ _ (λ t l. term t) ∙ sum_shift_mod 𝓡 n h (λ t. X t ⊗ pow 𝓞 v (t * s)))
      where
        again : (e f x : R) → e ⊗ f ≡ 𝟙 → x ≡ f ⊗ (e ⊗ x)
        again e f x a = linear 𝓡 a (⊖ x) (ring 𝓡 (e ∷ f ∷ x ∷ []) (search quote depth 40 fits 9999) refl)

        term : (t : ℕ) → pow 𝓞 v (h * s) ⊗ (X ((t + h) % n) ⊗ pow 𝓞 v (t * s)) ≡ X ((t + h) % n) ⊗ pow 𝓞 v ((t + h) % n * s)
        term t = mul_left_comm 𝓡 _ _ _ ∙ ap (λ y. X ((t + h) % n) ⊗ y) (sym (pow_mul 𝓡 v ((t + h) % n) s ∙ ap (λ y. pow 𝓞 y s) (pow_mod 𝓡 v n (t + h) cycle) ∙ sym (pow_mul 𝓡 v (t + h) s) ∙ along (pow 𝓞 v) ((t + h) * s) (h * s + t * s) (omega arith) ∙ pow_add 𝓡 v (h * s) (t * s)))

    -- the transform at the other root is the transform at the opposite place
    pub dft_across : (X : ℕ → R) (s r c : ℕ) → s + r ≡ n * c → dft 𝓞 n v X s ≡ dft 𝓞 n u X r
    unfolding dft
    dft_across X s r c e = sum_cong 𝓡 n _ _ (λ t l. ap (λ y. X t ⊗ y) (pow_across 𝓡 v u n inverse cycle (t * s) (t * r) (t * c) (sum_out t s r ∙ ap (λ y. t * y) e ∙ mul_turn t n c)))
      where
        sum_out : (t s r : ℕ) → t * s + t * r ≡ t * (s + r)
        sum_out t s r = omega arith

        mul_turn : (t n c : ℕ) → t * (n * c) ≡ n * (t * c)
        mul_turn t n c = omega arith

    pub dft_opposite : (X : ℕ → R) (s : ℕ) → s < n → dft 𝓞 n v X ((n - s) % n) ≡ dft 𝓞 n u X s
    dft_opposite X = reflected_of n (λ s _. dft 𝓞 n u X s) (dft 𝓞 n v X) (λ s r c e. dft_across X s r c e)

    -- and that of the mirror image
    pub dft_reversed : (X : ℕ → R) (s : ℕ) → dft 𝓞 n v X s ≡ dft 𝓞 n u (λ t. X ((n - t) % n)) s
    unfolding dft
    dft_reversed X s = sym (sum_neg_mod 𝓡 n (λ t. X t ⊗ pow 𝓞 v (t * s))) ∙ sum_cong 𝓡 n _ _ (λ t l. ap (λ y. X ((n - t) % n) ⊗ y) (term t l))
      where
        term : (t : ℕ) → t < n → pow 𝓞 v ((n - t) % n * s) ≡ pow 𝓞 u (t * s)
        term t l = pow_mul 𝓡 v ((n - t) % n) s ∙ ap (λ y. pow 𝓞 y s) (pow_mod 𝓡 v n (n - t) cycle ∙ pow_across 𝓡 v u n inverse cycle (n - t) t 1 (omega arith)) ∙ sym (pow_mul 𝓡 u t s)

    pub dft_mirror : (f : ℕ → R → R) (X : ℕ → R) → Reflected 𝓞 n f X → (s : ℕ) → dft 𝓞 n v X s ≡ dft 𝓞 n u (λ t. f t (X t)) s
    dft_mirror f X r s = dft_reversed X s ∙ dft_cong 𝓡 n u _ _ s r

    -- (6) a line that is sigma times its mirror image
    pub dft_reflected : (σ : R) (X : ℕ → R) → Reflected 𝓞 n (λ t x. σ ⊗ x) X → (s r c : ℕ) → s + r ≡ n * c → dft 𝓞 n v X s ≡ σ ⊗ dft 𝓞 n v X r
    dft_reflected σ X rule s r c e = dft_mirror (λ t x. σ ⊗ x) X rule s ∙ dft_mul 𝓡 n u σ X s ∙ ap (λ y. σ ⊗ y) (sym (dft_across X r s c (N.add_comm r s ∙ e)))

    -- mirror symmetry and antisymmetry
    pub dft_symmetric : (X : ℕ → R) → Symmetric 𝓞 n X → Symmetric 𝓞 n (dft 𝓞 n v X)
    dft_symmetric X rule = reflected_of n (λ t x. x) _ (λ s r c e. dft_reflected 𝟙 X (λ t l. rule t l ∙ sym (one_mul _)) s r c e ∙ one_mul _)

    pub dft_antisymmetric : (X : ℕ → R) → Antisymmetric 𝓞 n X → Antisymmetric 𝓞 n (dft 𝓞 n v X)
    dft_antisymmetric X rule = reflected_of n (λ t x. ⊖ x) _ (λ s r c e. dft_reflected (⊖ 𝟙) X (λ t l. rule t l ∙ sym (neg_one_mul 𝓡 _)) s r c e ∙ neg_one_mul 𝓡 _)

  -- (5) inversion symmetry: the transform of the mirror image is the mirror image of the transform
  pub dft_mirror_image : (n : ℕ) (v u : R) → v ⊗ u ≡ 𝟙 → pow 𝓞 v n ≡ 𝟙 → (X : ℕ → R) (s : ℕ) → s < n → dft 𝓞 n v (λ t. X ((n - t) % n)) s ≡ dft 𝓞 n v X ((n - s) % n)
  dft_mirror_image n v u inverse cycle X s l = sym (dft_reversed n u v (mul_comm u v ∙ inverse) (other n v u inverse cycle) X s) ∙ sym (dft_opposite n v u inverse cycle X s l)
    where
      other : (n : ℕ) (v u : R) → v ⊗ u ≡ 𝟙 → pow 𝓞 v n ≡ 𝟙 → pow 𝓞 u n ≡ 𝟙
      other n v u inverse cycle = sym (pow_across 𝓡 v u n inverse cycle 0 n 1 (omega arith)) ∙ pow_zero 𝓡 v

  -- (9) the convolution theorem: the transform of a convolution is the product of the transforms, and the convolution is the inverse transform of that
  module _ (n : ℕ) (w w' part : R) (𝓦 : Root 𝓞 n w w' part) where
    abbrev pub convolved : (X Y : ℕ → R) → ℕ → R
    convolved X Y t = sum 𝓞 n (λ s. X s ⊗ Y ((t + (n - s)) % n))

    pub dft_convolved : (X Y : ℕ → R) (r : ℕ) → dft 𝓞 n w (convolved X Y) r ≡ dft 𝓞 n w X r ⊗ dft 𝓞 n w Y r
    unfolding dft
    dft_convolved X Y r =
        sum_cong 𝓡 n _ _ (λ t l. sym (sum_mul_right 𝓡 n _ _) ∙ sum_cong 𝓡 n _ _ (λ s m. mul_assoc _ _ _)) ∙ sum_swap 𝓡 n n (λ t s. X s ⊗ (Y ((t + (n - s)) % n) ⊗ pow 𝓞 w (t * r)))
        ∙ sum_cong 𝓡 n _ _ (λ s m. sum_mul 𝓡 n (X s) _ ∙ ap (λ y. X s ⊗ y) (dft_shift n w w' 𝓦.inverse 𝓦.cycle Y (n - s) r ∙ ap (λ y. y ⊗ dft 𝓞 n w Y r) (phase s m)) ∙ sym (mul_assoc _ _ _)) ∙ sum_mul_right 𝓡 n _ _
      where
        phase : (s : ℕ) → s < n → pow 𝓞 w' ((n - s) * r) ≡ pow 𝓞 w (s * r)
        phase s m = sym (pow_across 𝓡 w w' n 𝓦.inverse 𝓦.cycle (s * r) ((n - s) * r) r (sym (N.add-mul s (n - s) r) ∙ ap (λ y. y * r) (N.add-sub_of_le (omega arith))))

    pub convolution : (X Y : ℕ → R) (t : ℕ) → t < n → convolved X Y t ≡ part ⊗ dft 𝓞 n w' (λ r. dft 𝓞 n w X r ⊗ dft 𝓞 n w Y r) t
    convolution X Y t l = sym (ap (λ y. part ⊗ y) (dft_cong 𝓡 n w' _ _ t (λ r m. sym (dft_convolved X Y r))) ∙ inversion 𝓡 n w w' part 𝓦 (convolved X Y) t l)

    -- and with it Parseval's theorem, for the two roots
    twice : (K : ℕ → R) (h : ℕ) → h < n → dft 𝓞 n w (dft 𝓞 n w' K) h ≡ cast 𝓞 n ⊗ K h
    twice K h l = sym (ap (λ y. cast 𝓞 n ⊗ y) (sym (inversion_after 𝓡 n w w' part 𝓦 K h l) ∙ dft_mul 𝓡 n w part _ h) ∙ step (cast 𝓞 n) part _ 𝓦.part_of)
      where
        step : (n p d : R) → p ⊗ n ≡ 𝟙 → n ⊗ (p ⊗ d) ≡ d
        step n p d e = linear 𝓡 e d (ring 𝓡 (n ∷ p ∷ d ∷ []) (search quote depth 40 fits 9999) refl)

    opened : (G : ℕ → R) (x : ℕ) (d : R) → dft 𝓞 n w G x ⊗ d ≡ sum 𝓞 n (λ h. G h ⊗ pow 𝓞 w (h * x) ⊗ d)
    unfolding dft
    opened G x d = sym (sum_mul_right 𝓡 n d _)

    closed : (K : ℕ → R) (h : ℕ) → sum 𝓞 n (λ x. K x ⊗ pow 𝓞 w (x * h)) ≡ dft 𝓞 n w K h
    unfolding dft
    closed K h = refl

    pub parseval : (G K : ℕ → R) → sum 𝓞 n (λ x. dft 𝓞 n w G x ⊗ dft 𝓞 n w' K x) ≡ cast 𝓞 n ⊗ sum 𝓞 n (λ h. G h ⊗ K h)
    parseval G K =
        sum_cong 𝓡 n _ _ (λ x xn. opened G x (dft 𝓞 n w' K x)) ∙ sum_swap 𝓡 n n (λ x h. G h ⊗ pow 𝓞 w (h * x) ⊗ dft 𝓞 n w' K x)
        ∙ sum_cong 𝓡 n _ _ (λ h hn. sum_cong 𝓡 n _ _ (λ x xn. turn3 (G h) _ _ ∙ ap (λ y. G h ⊗ (dft 𝓞 n w' K x ⊗ pow 𝓞 w y)) (N.mul_comm h x)) ∙ sum_mul 𝓡 n (G h) _ ∙ ap (λ y. G h ⊗ y) (closed (dft 𝓞 n w' K) h ∙ twice K h hn) ∙ mul_left_comm 𝓡 (G h) (cast 𝓞 n) (K h))
        ∙ sum_mul 𝓡 n (cast 𝓞 n) _
      where
        turn3 : (g e d : R) → g ⊗ e ⊗ d ≡ g ⊗ (d ⊗ e)
        turn3 g e d = ring 𝓡 (g ∷ e ∷ d ∷ []) (search quote depth 40 fits 9999) refl

  -- (10) factoring by two, case I: R the even places of the line, S the odd ones
  pub split_time : (A : ℕ) (v : R) (X : ℕ → R) (s : ℕ) → dft 𝓞 (2 * A) v X s ≡ dft 𝓞 A (pow 𝓞 v 2) (λ t. X (2 * t)) s ⊕ pow 𝓞 v s ⊗ dft 𝓞 A (pow 𝓞 v 2) (λ t. X (2 * t + 1)) s
  unfolding dft
  split_time A v X s = sum_even_odd 𝓡 A _ ∙ ap₂ ◌⊕◌ (sum_cong 𝓡 A _ _ (λ t l. ap (λ y. X (2 * t) ⊗ y) (even t))) (sum_cong 𝓡 A _ _ (λ t l. ap (λ y. X (2 * t + 1) ⊗ y) (odd t) ∙ mul_left_comm 𝓡 _ _ _) ∙ sum_mul 𝓡 A (pow 𝓞 v s) _)
    where
      even : (t : ℕ) → pow 𝓞 v (2 * t * s) ≡ pow 𝓞 (pow 𝓞 v 2) (t * s)
      even t = along (pow 𝓞 v) (2 * t * s) (2 * (t * s)) (omega arith) ∙ pow_mul 𝓡 v 2 (t * s)

      odd : (t : ℕ) → pow 𝓞 v ((2 * t + 1) * s) ≡ pow 𝓞 v s ⊗ pow 𝓞 (pow 𝓞 v 2) (t * s)
      odd t = along (pow 𝓞 v) ((2 * t + 1) * s) (s + 2 * (t * s)) (omega arith) ∙ pow_add 𝓡 v s _ ∙ ap (λ y. pow 𝓞 v s ⊗ y) (pow_mul 𝓡 v 2 (t * s))

  module _ (A : ℕ) (v : R) (turn : pow 𝓞 v A ≡ ⊖ 𝟙) where
    pub turn_twice : pow 𝓞 v (2 * A) ≡ 𝟙
    turn_twice = along (pow 𝓞 v) (2 * A) (A + A) (omega arith) ∙ pow_add 𝓡 v A A ∙ ap₂ ◌⊗◌ turn turn ∙ neg_one_square 𝓡

    pub turn_square : pow 𝓞 (pow 𝓞 v 2) A ≡ 𝟙
    turn_square = sym (pow_mul 𝓡 v 2 A) ∙ turn_twice

    turn_on : (k m : ℕ) → pow 𝓞 v (2 * A * k + m) ≡ pow 𝓞 v m
    turn_on k m = pow_add 𝓡 v _ m ∙ ap (λ y. y ⊗ pow 𝓞 v m) (pow_cycle 𝓡 v (2 * A) k turn_twice) ∙ one_mul _

    pub turn_sign : (t : ℕ) → pow 𝓞 v (t * A) ≡ sign 𝓞 t
    turn_sign t = ap (pow 𝓞 v) (N.mul_comm t A) ∙ pow_mul 𝓡 v A t ∙ ap (λ y. pow 𝓞 y t) turn

    pub turn_half : (m : ℕ) → pow 𝓞 v (A + m) ≡ ⊖ pow 𝓞 v m
    turn_half m = pow_add 𝓡 v A m ∙ ap (λ y. y ⊗ pow 𝓞 v m) turn ∙ neg_one_mul 𝓡 _

    -- case I in the second half
    pub split_time_above : (X : ℕ → R) (s : ℕ) → dft 𝓞 (2 * A) v X (A + s) ≡ dft 𝓞 A (pow 𝓞 v 2) (λ t. X (2 * t)) s ⊕ ⊖ (pow 𝓞 v s ⊗ dft 𝓞 A (pow 𝓞 v 2) (λ t. X (2 * t + 1)) s)
    split_time_above X s = split_time A v X (A + s) ∙ ap₂ ◌⊕◌ (dft_period 𝓡 A _ _ s turn_square) (ap₂ ◌⊗◌ (turn_half s) (dft_period 𝓡 A _ _ s turn_square) ∙ neg_mul 𝓡 _ _)

    -- case II: R = X(t) + X(t + A) gives the even results, S = e(t/N)(X(t) - X(t + A)) the odd ones
    pub split_even : (X : ℕ → R) (s : ℕ) → dft 𝓞 (2 * A) v X (2 * s) ≡ dft 𝓞 A (pow 𝓞 v 2) (λ t. X t ⊕ X (A + t)) s
    unfolding dft
    split_even X s = along (λ n. sum 𝓞 n (λ t. X t ⊗ pow 𝓞 v (t * (2 * s)))) (2 * A) (A + A) (omega arith) ∙ sum_append 𝓡 A A _ ∙ sym (sum_add 𝓡 A _ _) ∙ sum_cong 𝓡 A _ _ (λ t l. term t)
      where
        low : (t : ℕ) → pow 𝓞 v (t * (2 * s)) ≡ pow 𝓞 (pow 𝓞 v 2) (t * s)
        low t = along (pow 𝓞 v) (t * (2 * s)) (2 * (t * s)) (omega arith) ∙ pow_mul 𝓡 v 2 (t * s)

        high : (t : ℕ) → pow 𝓞 v ((A + t) * (2 * s)) ≡ pow 𝓞 (pow 𝓞 v 2) (t * s)
        high t = along (pow 𝓞 v) ((A + t) * (2 * s)) (2 * A * s + t * (2 * s)) (omega arith) ∙ turn_on s (t * (2 * s)) ∙ low t

        term : (t : ℕ) → X t ⊗ pow 𝓞 v (t * (2 * s)) ⊕ X (A + t) ⊗ pow 𝓞 v ((A + t) * (2 * s)) ≡ (X t ⊕ X (A + t)) ⊗ pow 𝓞 (pow 𝓞 v 2) (t * s)
        term t = ap₂ (λ x y. X t ⊗ x ⊕ X (A + t) ⊗ y) (low t) (high t) ∙ sym (right_distrib 𝓡 _ _ _)

    pub split_odd : (X : ℕ → R) (s : ℕ) → dft 𝓞 (2 * A) v X (2 * s + 1) ≡ dft 𝓞 A (pow 𝓞 v 2) (λ t. pow 𝓞 v t ⊗ (X t ⊕ ⊖ X (A + t))) s
    unfolding dft
    split_odd X s = along (λ n. sum 𝓞 n (λ t. X t ⊗ pow 𝓞 v (t * (2 * s + 1)))) (2 * A) (A + A) (omega arith) ∙ sum_append 𝓡 A A _ ∙ sym (sum_add 𝓡 A _ _) ∙ sum_cong 𝓡 A _ _ (λ t l. term t)
      where
        low : (t : ℕ) → pow 𝓞 v (t * (2 * s + 1)) ≡ pow 𝓞 v t ⊗ pow 𝓞 (pow 𝓞 v 2) (t * s)
        low t = along (pow 𝓞 v) (t * (2 * s + 1)) (t + 2 * (t * s)) (omega arith) ∙ pow_add 𝓡 v t _ ∙ ap (λ y. pow 𝓞 v t ⊗ y) (pow_mul 𝓡 v 2 (t * s))

        high : (t : ℕ) → pow 𝓞 v ((A + t) * (2 * s + 1)) ≡ ⊖ (pow 𝓞 v t ⊗ pow 𝓞 (pow 𝓞 v 2) (t * s))
        high t = along (pow 𝓞 v) ((A + t) * (2 * s + 1)) (2 * A * s + (A + t * (2 * s + 1))) (omega arith) ∙ turn_on s _ ∙ turn_half _ ∙ ap ⊖◌ (low t)

        step : (x y e f : R) → x ⊗ (e ⊗ f) ⊕ y ⊗ ⊖ (e ⊗ f) ≡ e ⊗ (x ⊕ ⊖ y) ⊗ f
        step x y e f = ring 𝓡 (x ∷ y ∷ e ∷ f ∷ []) (search quote depth 40 fits 9999) refl

        term : (t : ℕ) → X t ⊗ pow 𝓞 v (t * (2 * s + 1)) ⊕ X (A + t) ⊗ pow 𝓞 v ((A + t) * (2 * s + 1)) ≡ pow 𝓞 v t ⊗ (X t ⊕ ⊖ X (A + t)) ⊗ pow 𝓞 (pow 𝓞 v 2) (t * s)
        term t = ap₂ (λ x y. X t ⊗ x ⊕ X (A + t) ⊗ y) (low t) (high t) ∙ step _ _ _ _

    -- what has no odd, or no even, places; with it the vice versa of (8)
    pub no_odd : (Z : ℕ → R) → ((s : ℕ) → s < A → Z (2 * s + 1) ≡ 𝟘) → (t : ℕ) → dft 𝓞 (2 * A) v Z (A + t) ≡ dft 𝓞 (2 * A) v Z t
    no_odd Z e t = split_time_above Z t ∙ ap (λ y. dft 𝓞 A (pow 𝓞 v 2) (λ t. Z (2 * t)) t ⊕ y) (ap ⊖◌ nought ∙ neg_zero 𝓡 ∙ sym nought) ∙ sym (split_time A v Z t)
      where
        nought : pow 𝓞 v t ⊗ dft 𝓞 A (pow 𝓞 v 2) (λ t. Z (2 * t + 1)) t ≡ 𝟘
        nought = ap (λ y. pow 𝓞 v t ⊗ y) (dft_all_zero A _ _ t e) ∙ mul_zero 𝓡 _

    pub no_even : (Z : ℕ → R) → ((s : ℕ) → s < A → Z (2 * s) ≡ 𝟘) → (t : ℕ) → dft 𝓞 (2 * A) v Z (A + t) ≡ ⊖ dft 𝓞 (2 * A) v Z t
    no_even Z e t = split_time_above Z t ∙ ap (λ y. y ⊕ ⊖ odd) nought ∙ zero_add _ ∙ ap ⊖◌ (sym (split_time A v Z t ∙ ap (λ y. y ⊕ odd) nought ∙ zero_add _))
      where
        odd : R
        odd = pow 𝓞 v t ⊗ dft 𝓞 A (pow 𝓞 v 2) (λ t. Z (2 * t + 1)) t

        nought : dft 𝓞 A (pow 𝓞 v 2) (λ t. Z (2 * t)) t ≡ 𝟘
        nought = dft_all_zero A _ _ t e

  module _ (A : ℕ) (w w' part : R) (𝓦 : Root 𝓞 (2 * A) w w' part) (turn : pow 𝓞 w' A ≡ ⊖ 𝟙) (X : ℕ → R) where
    back : (t : ℕ) → t < 2 * A → part ⊗ dft 𝓞 (2 * A) w' (dft 𝓞 (2 * A) w X) t ≡ X t
    back = inversion 𝓡 (2 * A) w w' part 𝓦 X

-- With a conjugation, for a root v whose inverse is its conjugate.
module _ {R : Type 0} {𝓞 : Ops R} {conj : R → R} {i : R} (𝓡 : CRing 𝓞) (𝓢 : Star 𝓞 conj i) where
  open 𝓞 use {add as ◌⊕◌, mul as ◌⊗◌, neg as ⊖◌, zer as 𝟘, one as 𝟙}
  open 𝓡 use {mul_comm}
  open 𝓢 use {conj_mul, conj_neg, conj_conj}

  infixl 65 ◌⊕◌
  infixl 70 ◌⊗◌
  infix 75 ⊖◌
  -- (2) the inverse transform is the conjugate of the transform of the conjugate, scaled by N
  pub dft_conj : (n : ℕ) (v : R) (Z : ℕ → R) (t : ℕ) → dft 𝓞 n (conj v) Z t ≡ conj (dft 𝓞 n v (λ s. conj (Z s)) t)
  dft_conj n v Z t = sym (conj_dft 𝓡 𝓢 n v _ t ∙ dft_cong 𝓡 n (conj v) _ _ t (λ s l. conj_conj (Z s)))

  module _ (n : ℕ) (v : R) (inverse : v ⊗ conj v ≡ 𝟙) (cycle : pow 𝓞 v n ≡ 𝟙) where
    -- (4) conjugate symmetry: the transform of the conjugate is the conjugate of the mirror image of the transform
    pub dft_conj_mirror : (X : ℕ → R) (s : ℕ) → s < n → dft 𝓞 n v (λ t. conj (X t)) s ≡ conj (dft 𝓞 n v X ((n - s) % n))
    dft_conj_mirror X s l = sym (ap conj (dft_opposite 𝓡 n v (conj v) inverse cycle X s l) ∙ conj_dft 𝓡 𝓢 n (conj v) X s ∙ ap (λ y. dft 𝓞 n y (λ t. conj (X t)) s) (conj_conj v))

    -- (7) Hermitian symmetry and antisymmetry: real and imaginary results
    pub hermitian_real : (X : ℕ → R) → Hermitian 𝓞 conj n X → (s : ℕ) → conj (dft 𝓞 n v X s) ≡ dft 𝓞 n v X s
    hermitian_real X r s = conj_dft 𝓡 𝓢 n v X s ∙ sym (dft_mirror 𝓡 n v (conj v) inverse cycle (λ t x. conj x) X r s)

    pub antihermitian_imaginary : (X : ℕ → R) → AntiHermitian 𝓞 conj n X → (s : ℕ) → conj (dft 𝓞 n v X s) ≡ ⊖ dft 𝓞 n v X s
    antihermitian_imaginary X r s = conj_dft 𝓡 𝓢 n v X s ∙ sym (ap ⊖◌ (dft_mirror 𝓡 n v (conj v) inverse cycle (λ t x. ⊖ conj x) X r s ∙ dft_neg 𝓡 n (conj v) _ s) ∙ neg_neg 𝓡 _)

    -- the transform of real and of imaginary values; with it the vice versa of (7)
    pub real_hermitian : (Z : ℕ → R) → ((s : ℕ) → s < n → conj (Z s) ≡ Z s) → Hermitian 𝓞 conj n (dft 𝓞 n v Z)
    real_hermitian Z r t l = dft_opposite 𝓡 n v (conj v) inverse cycle Z t l ∙ dft_conj n v Z t ∙ ap conj (dft_cong 𝓡 n v _ _ t r)

    pub imaginary_antihermitian : (Z : ℕ → R) → ((s : ℕ) → s < n → conj (Z s) ≡ ⊖ Z s) → AntiHermitian 𝓞 conj n (dft 𝓞 n v Z)
    imaginary_antihermitian Z r t l = dft_opposite 𝓡 n v (conj v) inverse cycle Z t l ∙ dft_conj n v Z t ∙ ap conj (dft_cong 𝓡 n v _ _ t r ∙ dft_neg 𝓡 n v Z t) ∙ conj_neg _

  module _ (n : ℕ) (w part : R) (𝓦 : Root 𝓞 n w (conj w) part) (X : ℕ → R) where
    abbrev w' : R
    w' = conj w

    inverse' : w' ⊗ conj w' ≡ 𝟙
    inverse' = ap (λ y. w' ⊗ y) (conj_conj w) ∙ (root_inverse 𝓡 n w w' part 𝓦).inverse

    again : (t : ℕ) → t < n → X t ≡ part ⊗ dft 𝓞 n w' (dft 𝓞 n w X) t
    again t l = sym (inversion 𝓡 n w w' part 𝓦 X t l)

    real_part : conj part ≡ part
    real_part = conj_of_inverse 𝓡 𝓢 part _ (conj_cast 𝓡 𝓢 n) 𝓦.part_of

  -- the alternating line of document 001's part (C): the second half of its results is the conjugate of the first, and vice versa
  module _ (A : ℕ) (v : R) (inverse : v ⊗ conj v ≡ 𝟙) (turn : pow 𝓞 v A ≡ ⊖ 𝟙) where
    pub alternating_halves : (X : ℕ → R) → Alternating 𝓞 conj (2 * A) X → (s : ℕ) → dft 𝓞 (2 * A) v X (A + s) ≡ conj (dft 𝓞 (2 * A) v X s)
    alternating_halves X r s = sym (ap conj (dft_mirror 𝓡 (2 * A) v (conj v) inverse (turn_twice 𝓡 A v turn) (λ t x. sign 𝓞 t ⊗ conj x) X r s ∙ dft_conj (2 * A) v _ s) ∙ conj_conj _ ∙ dft_cong 𝓡 (2 * A) v _ _ s (λ t l. term t) ∙ dft_phase 𝓡 (2 * A) v X A s)
      where
        term : (t : ℕ) → conj (sign 𝓞 t ⊗ conj (X t)) ≡ pow 𝓞 v (t * A) ⊗ X t
        term t = conj_mul _ _ ∙ ap₂ ◌⊗◌ (conj_sign 𝓡 𝓢 t ∙ sym (turn_sign 𝓡 A v turn t)) (conj_conj (X t))

    pub halves_alternating : (Z : ℕ → R) → ((s : ℕ) → s < A → Z (A + s) ≡ conj (Z s)) → Alternating 𝓞 conj (2 * A) (dft 𝓞 (2 * A) v Z)
    halves_alternating Z r t l = dft_opposite 𝓡 (2 * A) v (conj v) inverse (turn_twice 𝓡 A v turn) Z t l ∙ dft_conj (2 * A) v Z t ∙ ap conj (dft_cong 𝓡 (2 * A) v _ _ t moved ∙ dft_shift 𝓡 (2 * A) v (conj v) inverse (turn_twice 𝓡 A v turn) Z A t) ∙ conj_mul _ _ ∙ ap (λ y. y ⊗ conj (dft 𝓞 (2 * A) v Z t)) phase
      where
        moved : (s : ℕ) → s < 2 * A → conj (Z s) ≡ Z ((s + A) % (2 * A))
        moved s l = go (dec_lt s A)
          where
            go : Dec (s < A) → conj (Z s) ≡ Z ((s + A) % (2 * A))
            go (yes d) = sym (r s d) ∙ along Z (A + s) (s + A) (omega arith) ∙ ap Z (sym (N.mod-eq_of_lt (omega arith)))
            go (no d) = ap conj (along Z s (A + (s - A)) (omega arith) ∙ r (s - A) (omega arith)) ∙ conj_conj _ ∙ ap Z (sym (N.mod-eq-sub-mod (omega arith) ∙ along (λ k. k % (2 * A)) (s + A - 2 * A) (s - A) (omega arith) ∙ N.mod-eq_of_lt (omega arith)))

        phase : conj (pow 𝓞 (conj v) (A * t)) ≡ sign 𝓞 t
        phase = conj_pow 𝓡 𝓢 (conj v) (A * t) ∙ ap (λ y. pow 𝓞 y (A * t)) (conj_conj v) ∙ ap (pow 𝓞 v) (N.mul_comm A t) ∙ turn_sign 𝓡 A v turn t
