-- The transform over a ring with a root of unity: the geometric sum, orthogonality, inversion both ways, and one step of Cooley and Tukey.
use mathlib.Core.Path.{◌≡◌, refl, sym, ◌∙◌, ap, ap₂}
use mathlib.Core.Logic.{◌≢◌}
use mathlib.Core.List.{[], ◌∷◌}
use Prim.Native.Nat.{ℕ, zero, suc, ◌+◌, ◌*◌, ◌-◌, ◌/◌, ◌%◌, ◌<◌}
use native.Mathlib.Nat as N
use native.Mathlib.Omega.{arith}
use native.Mathlib.Decide.{dec_lt}
use Rattle.algebra.specs.ring.Ring.{Ops, pow, sum, dft}
use Rattle.algebra.specs.fourier.Axis.{cast, Root}
use Rattle.algebra.specs.ring.RingLaws.{CRing}
use Rattle.algebra.specs.fourier.Split.{T}
use Rattle.algebra.proofs.ring.Laws.{inverse_unique, along, add_neg, mul_one, right_distrib, mul_left_comm, mul_zero, pow_add, cast_mul}
use Rattle.algebra.proofs.ring.Solver.{ring, quote, linear}
use Rattle.algebra.proofs.fourier.Sums.{sum_cong, sum_add, sum_mul, sum_mul_right, sum_swap, sum_const, sum_single, sum_strided}

module _ {R : Type 0} {𝓞 : Ops R} (𝓡 : CRing 𝓞) where
  open 𝓞 use {add as ◌⊕◌, mul as ◌⊗◌, neg as ⊖◌, zer as 𝟘, one as 𝟙}
  open 𝓡 use {zero_add, mul_assoc, mul_comm, one_mul, left_distrib}

  infixl 65 ◌⊕◌
  infixl 70 ◌⊗◌
  infix 75 ⊖◌
  pub pow_zero : (x : R) → pow 𝓞 x 0 ≡ 𝟙
  unfolding pow
  pow_zero x = refl

  pub pow_suc : (x : R) (n : ℕ) → pow 𝓞 x (suc n) ≡ x ⊗ pow 𝓞 x n
  unfolding pow
  pow_suc x n = refl

  pub one_pow : (n : ℕ) → pow 𝓞 𝟙 n ≡ 𝟙
  unfolding pow
  one_pow zero = refl
  one_pow (suc n) = one_mul _ ∙ one_pow n

  pub mul_pow : (x y : R) (n : ℕ) → pow 𝓞 (x ⊗ y) n ≡ pow 𝓞 x n ⊗ pow 𝓞 y n
  unfolding pow
  mul_pow x y zero = sym (one_mul 𝟙)
  mul_pow x y (suc n) = ap (λ z. x ⊗ y ⊗ z) (mul_pow x y n) ∙ step _ _
    where
      step : (p q : R) → x ⊗ y ⊗ (p ⊗ q) ≡ x ⊗ p ⊗ (y ⊗ q)
      step p q = ring 𝓡 (x ∷ y ∷ p ∷ q ∷ []) (search quote depth 40 fits 9999) refl

  pub pow_mul : (x : R) (m n : ℕ) → pow 𝓞 x (m * n) ≡ pow 𝓞 (pow 𝓞 x m) n
  unfolding pow
  pow_mul x m zero = rw N.mul-zero
  pow_mul x m (suc n) = along (pow 𝓞 x) (m * suc n) (m + m * n) (omega arith) ∙ pow_add 𝓡 x m (m * n) ∙ ap (λ z. pow 𝓞 x m ⊗ z) (pow_mul x m n)

  -- an exponent counts modulo the order
  pub pow_cycle : (x : R) (n k : ℕ) → pow 𝓞 x n ≡ 𝟙 → pow 𝓞 x (n * k) ≡ 𝟙
  pow_cycle x n k h = pow_mul x n k ∙ rw h (one_pow k)

  pub pow_mod : (x : R) (n k : ℕ) → pow 𝓞 x n ≡ 𝟙 → pow 𝓞 x (k % n) ≡ pow 𝓞 x k
  pow_mod x n k h = sym (ap (pow 𝓞 x) (sym (N.mod-add-div k n)) ∙ pow_add 𝓡 x (k % n) (n * (k / n)) ∙ ap (λ z. pow 𝓞 x (k % n) ⊗ z) (pow_cycle x n (k / n) h) ∙ mul_one 𝓡 _)

  -- the powers of a value and of its inverse, and the value at n - k for x^n = 1
  pub pow_unit : (x y : R) → x ⊗ y ≡ 𝟙 → (k : ℕ) → pow 𝓞 x k ⊗ pow 𝓞 y k ≡ 𝟙
  pow_unit x y h k = sym (mul_pow x y k) ∙ rw h (one_pow k)

  pub pow_across : (x y : R) (n : ℕ) → x ⊗ y ≡ 𝟙 → pow 𝓞 x n ≡ 𝟙 → (a b c : ℕ) → a + b ≡ n * c → pow 𝓞 x a ≡ pow 𝓞 y b
  pow_across x y n h k a b c e = inverse_unique 𝓡 _ (pow 𝓞 x b) _ (sym (pow_add 𝓡 x a b) ∙ ap (pow 𝓞 x) e ∙ pow_cycle x n c k) (mul_comm _ _ ∙ pow_unit x y h b)

  pub pow_square : (x : R) (s : ℕ) → pow 𝓞 (pow 𝓞 x 2) s ≡ pow 𝓞 x s ⊗ pow 𝓞 x s
  pow_square x s = sym (pow_mul x 2 s) ∙ along (pow 𝓞 x) (2 * s) (s + s) (omega arith) ∙ pow_add 𝓡 x s s

  -- the powers of -1
  pub sign_even : (t : ℕ) → pow 𝓞 (⊖ 𝟙) (2 * t) ≡ 𝟙
  sign_even t = pow_mul (⊖ 𝟙) 2 t ∙ ap (λ y. pow 𝓞 y t) (ring 𝓡 [] (search quote depth 40 fits 9999) refl) ∙ one_pow t

  pub sign_odd : (t : ℕ) → pow 𝓞 (⊖ 𝟙) (2 * t + 1) ≡ ⊖ 𝟙
  sign_odd t = along (pow 𝓞 (⊖ 𝟙)) (2 * t + 1) (suc (2 * t)) (omega arith) ∙ pow_suc (⊖ 𝟙) (2 * t) ∙ ap (λ y. (⊖ 𝟙) ⊗ y) (sign_even t) ∙ mul_one 𝓡 _

  -- the geometric sum
  pub geometric : (x : R) (n : ℕ) → (x ⊕ ⊖ 𝟙) ⊗ sum 𝓞 n (λ i. pow 𝓞 x i) ≡ pow 𝓞 x n ⊕ ⊖ 𝟙
  unfolding sum pow
  geometric x zero = mul_zero 𝓡 _ ∙ sym (add_neg 𝓡 𝟙)
  geometric x (suc n) = left_distrib _ _ _ ∙ ap (λ y. y ⊕ (x ⊕ ⊖ 𝟙) ⊗ pow 𝓞 x n) (geometric x n) ∙ step _
    where
      step : (p : R) → (p ⊕ ⊖ 𝟙) ⊕ (x ⊕ ⊖ 𝟙) ⊗ p ≡ x ⊗ p ⊕ ⊖ 𝟙
      step p = ring 𝓡 (x ∷ p ∷ []) (search quote depth 40 fits 9999) refl

  -- a sum over a root z of order n, where z - 1 has an inverse
  pub geometric_zero : (z v : R) (n : ℕ) → pow 𝓞 z n ≡ 𝟙 → v ⊗ (z ⊕ ⊖ 𝟙) ≡ 𝟙 → sum 𝓞 n (λ i. pow 𝓞 z i) ≡ 𝟘
  geometric_zero z v n h e =
      sym (one_mul _) ∙ ap (λ y. y ⊗ S) (sym e) ∙ mul_assoc _ _ _ ∙ ap (λ y. v ⊗ y) (geometric z n ∙ ap (λ y. y ⊕ ⊖ 𝟙) h ∙ add_neg 𝓡 𝟙) ∙ mul_zero 𝓡 v
    where
      S : R
      S = sum 𝓞 n (λ i. pow 𝓞 z i)

  -- the transform is a function of the line's values, and linear
  pub dft_cong : (n : ℕ) (v : R) (X Y : ℕ → R) (s : ℕ) → ((t : ℕ) → t < n → X t ≡ Y t) → dft 𝓞 n v X s ≡ dft 𝓞 n v Y s
  unfolding dft
  dft_cong n v X Y s e = sum_cong 𝓡 n _ _ (λ t l. ap (λ y. y ⊗ pow 𝓞 v (t * s)) (e t l))

  pub dft_add : (n : ℕ) (v : R) (X Y : ℕ → R) (s : ℕ) → dft 𝓞 n v (λ t. X t ⊕ Y t) s ≡ dft 𝓞 n v X s ⊕ dft 𝓞 n v Y s
  unfolding dft
  dft_add n v X Y s = sum_cong 𝓡 n _ _ (λ t l. right_distrib 𝓡 (X t) (Y t) _) ∙ sum_add 𝓡 n _ _

  pub dft_mul : (n : ℕ) (v a : R) (X : ℕ → R) (s : ℕ) → dft 𝓞 n v (λ t. a ⊗ X t) s ≡ a ⊗ dft 𝓞 n v X s
  unfolding dft
  dft_mul n v a X s = sum_cong 𝓡 n _ _ (λ t l. mul_assoc a (X t) _) ∙ sum_mul 𝓡 n a _

  -- at 0, and going round
  pub dft_zero : (n : ℕ) (v : R) (X : ℕ → R) → dft 𝓞 n v X 0 ≡ sum 𝓞 n X
  unfolding dft
  dft_zero n v X = sum_cong 𝓡 n _ _ (λ t l. ap (λ y. X t ⊗ y) (ap (pow 𝓞 v) (N.mul-zero t) ∙ pow_zero _) ∙ mul_one 𝓡 _)

  pub dft_period : (n : ℕ) (v : R) (X : ℕ → R) (s : ℕ) → pow 𝓞 v n ≡ 𝟙 → dft 𝓞 n v X (n + s) ≡ dft 𝓞 n v X s
  unfolding dft
  dft_period n v X s h = sum_cong 𝓡 n _ _ (λ t l. ap (λ y. X t ⊗ y) (along (pow 𝓞 v) (t * (n + s)) (n * t + t * s) (omega arith) ∙ pow_add 𝓡 v (n * t) (t * s) ∙ ap (λ y. y ⊗ pow 𝓞 v (t * s)) (pow_cycle v n t h) ∙ one_mul _))

  pub dft_mod : (n : ℕ) (v : R) (X : ℕ → R) (s : ℕ) → pow 𝓞 v n ≡ 𝟙 → dft 𝓞 n v X (s % n) ≡ dft 𝓞 n v X s
  unfolding dft
  dft_mod n v X s h = sum_cong 𝓡 n _ _ (λ t l. ap (λ y. X t ⊗ y) (pow_mul v t (s % n) ∙ pow_mod (pow 𝓞 v t) n s (sym (pow_mul v t n) ∙ ap (pow 𝓞 v) (N.mul_comm t n) ∙ pow_cycle v n t h) ∙ sym (pow_mul v t s)))

  module _ (n : ℕ) (w w' part : R) (𝓦 : Root 𝓞 n w w' part) where
    open 𝓦 use {inverse, cycle, apart, part_of}

    pub inverse_pow : (k : ℕ) → pow 𝓞 w k ⊗ pow 𝓞 w' k ≡ 𝟙
    inverse_pow k = pow_unit w w' inverse k

    pub inverse_cycle : pow 𝓞 w' n ≡ 𝟙
    inverse_cycle = sym (one_mul _) ∙ ap (λ y. y ⊗ pow 𝓞 w' n) (sym cycle) ∙ inverse_pow n

    -- w^t w'^u for t = u + k, and for u = t + k
    ahead : (u k : ℕ) → pow 𝓞 w (u + k) ⊗ pow 𝓞 w' u ≡ pow 𝓞 w k
    ahead u k = ap (λ y. y ⊗ pow 𝓞 w' u) (pow_add 𝓡 w u k) ∙ step _ _ _ (inverse_pow u)
      where
        step : (a b c : R) → a ⊗ c ≡ 𝟙 → a ⊗ b ⊗ c ≡ b
        step a b c h = linear 𝓡 h b (ring 𝓡 (a ∷ b ∷ c ∷ []) (search quote depth 40 fits 9999) refl)

    ratio : (t u k : ℕ) → pow 𝓞 w (u + k) ≡ pow 𝓞 w t → pow 𝓞 w t ⊗ pow 𝓞 w' u ≡ pow 𝓞 w k
    ratio t u k e = ap (λ y. y ⊗ pow 𝓞 w' u) (sym e) ∙ ahead u k

    -- orthogonality
    pub orthogonal : (t u : ℕ) → t < n → u < n → t ≢ u → sum 𝓞 n (λ s. pow 𝓞 (pow 𝓞 w t ⊗ pow 𝓞 w' u) s) ≡ 𝟘
    orthogonal t u tn un ne = go (dec_lt u t)
      where
        at : (k : ℕ) → 0 < k → k < n → pow 𝓞 w (u + k) ≡ pow 𝓞 w t → sum 𝓞 n (λ s. pow 𝓞 (pow 𝓞 w t ⊗ pow 𝓞 w' u) s) ≡ 𝟘
        at k pos below e = rw (ratio t u k e) (geometric_zero (pow 𝓞 w k) (apart k pos below).0 n (sym (pow_mul w k n) ∙ ap (pow 𝓞 w) (N.mul_comm k n) ∙ pow_cycle w n k cycle) (apart k pos below).1)

        go : Dec (u < t) → sum 𝓞 n (λ s. pow 𝓞 (pow 𝓞 w t ⊗ pow 𝓞 w' u) s) ≡ 𝟘
        go (yes l) = at (t - u) (omega arith) (omega arith) (ap (pow 𝓞 w) (N.add-sub_of_le (omega arith)))
        go (no l) = at (n + t - u) (omega arith) (omega arith) (ap (pow 𝓞 w) (N.add-sub_of_le (omega arith)) ∙ pow_add 𝓡 w n t ∙ rw cycle (one_mul _))

    pub orthogonal_same : (u : ℕ) → sum 𝓞 n (λ s. pow 𝓞 (pow 𝓞 w u ⊗ pow 𝓞 w' u) s) ≡ cast 𝓞 n
    orthogonal_same u = rw (inverse_pow u) (sum_cong 𝓡 n _ _ (λ i l. one_pow i) ∙ sum_const 𝓡 n 𝟙 ∙ mul_one 𝓡 _)

    -- inversion
    pub inversion : (X : ℕ → R) (u : ℕ) → u < n → part ⊗ dft 𝓞 n w' (dft 𝓞 n w X) u ≡ X u
    unfolding dft
    inversion X u un =
        ap (λ y. part ⊗ y)
        (sum_cong 𝓡 n _ _ (λ s sn. sym (sum_mul_right 𝓡 n _ _) ∙ sum_cong 𝓡 n _ _ (λ t tn. one_term s t)) ∙ sum_swap 𝓡 n n _
        ∙ sum_cong 𝓡 n _ _ (λ t tn. sum_mul 𝓡 n (X t) _)
        ∙ sum_single 𝓡 n u _ un (λ t tn ne. ap (λ y. X t ⊗ y) (orthogonal t u tn un ne) ∙ mul_zero 𝓡 (X t))
        ∙ ap (λ y. X u ⊗ y) (orthogonal_same u))
        ∙ step part (X u) (cast 𝓞 n) part_of
      where
        one_term : (s t : ℕ) → X t ⊗ pow 𝓞 w (t * s) ⊗ pow 𝓞 w' (s * u) ≡ X t ⊗ pow 𝓞 (pow 𝓞 w t ⊗ pow 𝓞 w' u) s
        one_term s t = mul_assoc _ _ _ ∙ ap (λ y. X t ⊗ y) (ap₂ ◌⊗◌ (pow_mul w t s) (along (pow 𝓞 w') (s * u) (u * s) (omega arith) ∙ pow_mul w' u s) ∙ sym (mul_pow _ _ s))

        step : (p x c : R) → p ⊗ c ≡ 𝟙 → p ⊗ (x ⊗ c) ≡ x
        step p x c h = linear 𝓡 h x (ring 𝓡 (p ∷ x ∷ c ∷ []) (search quote depth 40 fits 9999) refl)

    -- the inverse root is a root
    pub root_inverse : Root 𝓞 n w' w part
    root_inverse = record {
      inverse = mul_comm w' w ∙ inverse;
      cycle = inverse_cycle;
      apart = λ k h l. let a = apart (n - k) (omega arith) (omega arith) in (a.0, ap (λ y. a.0 ⊗ (y ⊕ ⊖ 𝟙)) (sym (pow_across w w' n inverse cycle (n - k) k 1 (omega arith))) ∙ a.1);
      part_of = part_of;
    }

  -- and the other way round: the transform after the inverse
  pub inversion_after : (n : ℕ) (w w' part : R) → Root 𝓞 n w w' part → (X : ℕ → R) (u : ℕ) → u < n → dft 𝓞 n w (λ s. part ⊗ dft 𝓞 n w' X s) u ≡ X u
  inversion_after n w w' part 𝓦 X u l = dft_mul n w part _ u ∙ inversion n w' w part (root_inverse n w w' part 𝓦) X u l

  -- one step of Cooley and Tukey
  pub cooley_tukey : (X : ℕ → R) (m l f : ℕ) (v : R) → pow 𝓞 (pow 𝓞 v f) l ≡ 𝟙 → (q s c : ℕ) →
      T 𝓞 X m (f * l) v q (s + l * c) ≡ sum 𝓞 f (λ b. pow 𝓞 v (b * (s + l * c)) ⊗ T 𝓞 X (m * f) l (pow 𝓞 v f) (q + m * b) s)
  unfolding T
  cooley_tukey X m l f v h q s c = sum_strided 𝓡 f l _ ∙ sum_cong 𝓡 f _ _ (λ b bf. sum_cong 𝓡 l _ _ (λ a al. term a b) ∙ sum_mul 𝓡 l _ _)
    where
      term : (a b : ℕ) → X (q + m * (b + a * f)) ⊗ pow 𝓞 v ((b + a * f) * (s + l * c)) ≡ pow 𝓞 v (b * (s + l * c)) ⊗ (X (q + m * b + m * f * a) ⊗ pow 𝓞 (pow 𝓞 v f) (a * s))
      term a b =
          ap₂ ◌⊗◌ (along X (q + m * (b + a * f)) (q + m * b + m * f * a) (omega arith))
          (along (pow 𝓞 v) ((b + a * f) * (s + l * c)) (b * (s + l * c) + (f * (a * s) + f * l * (a * c))) (omega arith)
          ∙ pow_add 𝓡 v _ _
          ∙ ap (λ y. pow 𝓞 v (b * (s + l * c)) ⊗ y) (pow_add 𝓡 v _ _ ∙ ap₂ ◌⊗◌ (pow_mul v f (a * s)) (pow_cycle v (f * l) (a * c) (pow_mul v f l ∙ h)) ∙ mul_one 𝓡 _))
          ∙ mul_left_comm 𝓡 _ _ _

  -- before the first step, and after the last
  pub T_start : (X : ℕ → R) (m : ℕ) (v : R) (q : ℕ) → T 𝓞 X m 1 v q 0 ≡ X q
  unfolding T sum
  T_start X m v q = zero_add _ ∙ ap₂ ◌⊗◌ (along X (q + m * 0) q (omega arith)) (ap (pow 𝓞 v) (N.mul-zero 0) ∙ pow_zero v) ∙ mul_one 𝓡 (X q)

  pub T_end : (X : ℕ → R) (n : ℕ) (w : R) (s : ℕ) → T 𝓞 X 1 n w 0 s ≡ dft 𝓞 n w X s
  unfolding T dft
  T_end X n w s = sum_cong 𝓡 n _ _ (λ a an. ap (λ y. y ⊗ pow 𝓞 w (a * s)) (along X (0 + 1 * a) a (omega arith)))

  -- a root of a divisor of the order
  pub root_of_lem : (d n : ℕ) (w w' part : R) → 0 < d → Root 𝓞 (d * n) w w' part → Root 𝓞 n (pow 𝓞 w d) (pow 𝓞 w' d) (part ⊗ cast 𝓞 d)
  root_of_lem d n w w' part pos 𝓦 = record {
    inverse = inverse_pow (d * n) w w' part 𝓦 d;
    cycle = sym (pow_mul w d n) ∙ 𝓦.cycle;
    apart = λ k h l. let a = 𝓦.apart (d * k) (N.mul-pos pos h) (N.mul-lt-mul_of_pos_left l pos) in (a.0, ap (λ y. a.0 ⊗ (y ⊕ ⊖ 𝟙)) (sym (pow_mul w d k)) ∙ a.1);
    part_of = mul_assoc _ _ _ ∙ ap (λ y. part ⊗ y) (sym (cast_mul 𝓡 d n)) ∙ 𝓦.part_of;
  }
