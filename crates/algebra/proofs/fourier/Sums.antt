-- Finite sums over the numbers below a bound.
use mathlib.Core.Path.{◌≡◌, refl, sym, ◌∙◌, ap, ap₂}
use mathlib.Core.Logic.{◌≢◌}
use mathlib.Core.List.{[], ◌∷◌}
use Prim.Native.Nat.{ℕ, zero, suc, ◌+◌, ◌*◌, ◌-◌, ◌%◌, ◌<◌}
use native.Mathlib.Nat as N
use native.Mathlib.Omega.{arith}
use native.Mathlib.Decide.{ℕ_discrete}
use Rattle.algebra.specs.ring.Ring.{Ops, sum}
use Rattle.algebra.specs.fourier.Axis.{cast}
use Rattle.algebra.specs.ring.RingLaws.{CRing}
use Rattle.algebra.proofs.ring.Laws.{along, add_zero, mul_zero, zero_mul, add_left_cancel}
use Rattle.algebra.proofs.ring.Solver.{ring, quote}

module _ {R : Type 0} {𝓞 : Ops R} (𝓡 : CRing 𝓞) where
  open 𝓞 use {add as ◌⊕◌, mul as ◌⊗◌, neg as ⊖◌, zer as 𝟘, one as 𝟙}
  open 𝓡 use {add_assoc, add_comm, zero_add, mul_comm, left_distrib}

  infixl 65 ◌⊕◌
  infixl 70 ◌⊗◌
  infix 75 ⊖◌
  pub sum_cong : (n : ℕ) (f g : ℕ → R) → ((i : ℕ) → i < n → f i ≡ g i) → sum 𝓞 n f ≡ sum 𝓞 n g
  unfolding sum
  sum_cong zero f g e = refl
  sum_cong (suc n) f g e = ap₂ ◌⊕◌ (sum_cong n f g (λ i h. e i (omega arith))) (e n (omega arith))

  pub sum_add : (n : ℕ) (f g : ℕ → R) → sum 𝓞 n (λ i. f i ⊕ g i) ≡ sum 𝓞 n f ⊕ sum 𝓞 n g
  unfolding sum
  sum_add zero f g = sym (zero_add 𝟘)
  sum_add (suc n) f g = ap (λ y. y ⊕ (f n ⊕ g n)) (sum_add n f g) ∙ step _ _ _ _
    where
      step : (a b c d : R) → (a ⊕ b) ⊕ (c ⊕ d) ≡ (a ⊕ c) ⊕ (b ⊕ d)
      step a b c d = ring 𝓡 (a ∷ b ∷ c ∷ d ∷ []) (search quote depth 40 fits 9999) refl

  pub sum_mul : (n : ℕ) (a : R) (f : ℕ → R) → sum 𝓞 n (λ i. a ⊗ f i) ≡ a ⊗ sum 𝓞 n f
  unfolding sum
  sum_mul zero a f = sym (mul_zero 𝓡 a)
  sum_mul (suc n) a f = ap (λ y. y ⊕ a ⊗ f n) (sum_mul n a f) ∙ sym (left_distrib _ _ _)

  pub sum_mul_right : (n : ℕ) (a : R) (f : ℕ → R) → sum 𝓞 n (λ i. f i ⊗ a) ≡ sum 𝓞 n f ⊗ a
  sum_mul_right n a f = sum_cong n _ _ (λ i l. mul_comm (f i) a) ∙ sum_mul n a f ∙ mul_comm a (sum 𝓞 n f)

  pub sum_zero : (n : ℕ) → sum 𝓞 n (λ i. 𝟘) ≡ 𝟘
  unfolding sum
  sum_zero zero = refl
  sum_zero (suc n) = add_comm (sum 𝓞 n (λ i. 𝟘)) 𝟘 ∙ zero_add _ ∙ sum_zero n

  pub sum_all_zero : (n : ℕ) (f : ℕ → R) → ((i : ℕ) → i < n → f i ≡ 𝟘) → sum 𝓞 n f ≡ 𝟘
  sum_all_zero n f e = sum_cong n f (λ i. 𝟘) e ∙ sum_zero n

  pub sum_const : (n : ℕ) (a : R) → sum 𝓞 n (λ i. a) ≡ cast 𝓞 n ⊗ a
  unfolding sum cast
  sum_const zero a = sym (zero_mul 𝓡 a)
  sum_const (suc n) a = ap (λ y. y ⊕ a) (sum_const n a) ∙ step _ _
    where
      step : (c a : R) → c ⊗ a ⊕ a ≡ (𝟙 ⊕ c) ⊗ a
      step c a = ring 𝓡 (c ∷ a ∷ []) (search quote depth 40 fits 9999) refl

  pub sum_swap : (m n : ℕ) (f : ℕ → ℕ → R) → sum 𝓞 m (λ i. sum 𝓞 n (λ j. f i j)) ≡ sum 𝓞 n (λ j. sum 𝓞 m (λ i. f i j))
  unfolding sum
  sum_swap zero n f = sym (sum_zero n)
  sum_swap (suc m) n f = ap (λ y. y ⊕ sum 𝓞 n (λ j. f m j)) (sum_swap m n f) ∙ sym (sum_add n (λ j. sum 𝓞 m (λ i. f i j)) (λ j. f m j))

  pub sum_append : (m n : ℕ) (f : ℕ → R) → sum 𝓞 (m + n) f ≡ sum 𝓞 m f ⊕ sum 𝓞 n (λ i. f (m + i))
  unfolding sum
  sum_append m zero f = rw N.add-zero (sym (add_zero 𝓡 (sum 𝓞 m f)))
  sum_append m (suc n) f = rw N.add-suc (ap (λ y. y ⊕ f (m + n)) (sum_append m n f) ∙ add_assoc _ _ _)

  pub sum_first : (n : ℕ) (f : ℕ → R) → sum 𝓞 (suc n) f ≡ f 0 ⊕ sum 𝓞 n (λ i. f (suc i))
  unfolding sum
  sum_first zero f = add_comm 𝟘 (f 0)
  sum_first (suc n) f = ap (λ y. y ⊕ f (suc n)) (sum_first n f) ∙ add_assoc _ _ _

  -- in blocks: t = i * b + j
  pub sum_blocks : (a b : ℕ) (f : ℕ → R) → sum 𝓞 (a * b) f ≡ sum 𝓞 a (λ i. sum 𝓞 b (λ j. f (i * b + j)))
  unfolding sum
  sum_blocks zero b f = rw N.zero-mul
  sum_blocks (suc a) b f = rw N.suc-mul (sum_append (a * b) b f ∙ ap (λ y. y ⊕ sum 𝓞 b (λ j. f (a * b + j))) (sum_blocks a b f))

  -- by strides: t = i + j * a
  pub sum_strided : (a b : ℕ) (f : ℕ → R) → sum 𝓞 (a * b) f ≡ sum 𝓞 a (λ i. sum 𝓞 b (λ j. f (i + j * a)))
  sum_strided a b f = rw N.mul_comm (sum_blocks b a f ∙ sum_swap b a (λ j i. f (j * a + i)) ∙ simp (N.add_comm))

  -- the even places and the odd ones
  pub sum_even_odd : (n : ℕ) (f : ℕ → R) → sum 𝓞 (2 * n) f ≡ sum 𝓞 n (λ t. f (2 * t)) ⊕ sum 𝓞 n (λ t. f (2 * t + 1))
  unfolding sum
  sum_even_odd n f = sum_strided 2 n f ∙ ap₂ ◌⊕◌ (zero_add _ ∙ sum_cong n _ _ (λ t l. along f (0 + t * 2) (2 * t) (omega arith))) (sum_cong n _ _ (λ t l. along f (1 + t * 2) (2 * t + 1) (omega arith)))

  -- one term that is not zero
  pub sum_single : (n u : ℕ) (f : ℕ → R) → u < n → ((i : ℕ) → i < n → i ≢ u → f i ≡ 𝟘) → sum 𝓞 n f ≡ f u
  unfolding sum
  sum_single zero u f h e = absurd (omega arith)
  sum_single (suc n) u f h e = go (ℕ_discrete u n) (λ l. sum_single n u f l (λ i l. e i (omega arith)))
    where
      go : Dec (u ≡ n) → (u < n → sum 𝓞 n f ≡ f u) → sum 𝓞 n f ⊕ f n ≡ f u
      go (yes p) ih = rw p (ap (λ y. y ⊕ f n) (sum_all_zero n f (λ i l. e i (omega arith) (omega arith))) ∙ zero_add (f n))
      go (no np) ih = ap₂ ◌⊕◌ (ih (omega arith)) (e n (omega arith) (omega arith)) ∙ add_zero 𝓡 (f u)

  -- one term that is more by d
  pub sum_one : (n u : ℕ) (d : R) (f g : ℕ → R) → u < n → g u ≡ f u ⊕ d → ((i : ℕ) → i < n → i ≢ u → g i ≡ f i) → sum 𝓞 n g ≡ sum 𝓞 n f ⊕ d
  unfolding sum
  sum_one zero u d f g h at e = absurd (omega arith)
  sum_one (suc n) u d f g h at e = go (ℕ_discrete u n) (λ l. sum_one n u d f g l at (λ i l. e i (omega arith)))
    where
      swap : (x y z : R) → x ⊕ y ⊕ z ≡ x ⊕ z ⊕ y
      swap x y z = ring 𝓡 (x ∷ y ∷ z ∷ []) (search quote depth 40 fits 9999) refl

      go : Dec (u ≡ n) → (u < n → sum 𝓞 n g ≡ sum 𝓞 n f ⊕ d) → sum 𝓞 n g ⊕ g n ≡ sum 𝓞 n f ⊕ f n ⊕ d
      go (yes p) ih = ap₂ ◌⊕◌ (sum_cong n g f (λ i l. e i (omega arith) (omega arith))) (ap g (sym p) ∙ at ∙ ap (λ k. f k ⊕ d) p) ∙ sym (add_assoc (sum 𝓞 n f) (f n) d)
      go (no np) ih = ap₂ ◌⊕◌ (ih (omega arith)) (e n (omega arith) (omega arith)) ∙ swap _ _ _

  -- going round: a function with period n, moved
  pub sum_turn : (n : ℕ) (f : ℕ → R) → f n ≡ f 0 → sum 𝓞 n (λ i. f (suc i)) ≡ sum 𝓞 n f
  unfolding sum
  sum_turn n f p = add_left_cancel 𝓡 (f 0) _ _ (sym (sum_first n f) ∙ ap (λ y. sum 𝓞 n f ⊕ y) p ∙ add_comm (sum 𝓞 n f) (f 0))

  pub sum_shift : (n c : ℕ) (f : ℕ → R) → ((i : ℕ) → f (i + n) ≡ f i) → sum 𝓞 n (λ i. f (i + c)) ≡ sum 𝓞 n f
  sum_shift n zero f p = simp N.add-zero
  sum_shift n (suc c) f p = sum_cong n _ _ (λ i l. ap f (N.add-suc i c ∙ sym (N.suc-add i c))) ∙ sum_turn n (λ i. f (i + c)) (ap f (N.add_comm n c) ∙ p c ∙ ap f (sym (N.zero-add c))) ∙ sum_shift n c f p

  pub sum_shift_mod : (n c : ℕ) (f : ℕ → R) → sum 𝓞 n (λ i. f ((i + c) % n)) ≡ sum 𝓞 n f
  sum_shift_mod n c f = sum_shift n c (λ i. f (i % n)) (λ i. ap f (N.add-mod_right i n)) ∙ sum_cong n _ _ (λ i l. ap f (N.mod-eq_of_lt l))

  pub sum_rev : (n : ℕ) (f : ℕ → R) → sum 𝓞 n (λ i. f (n - suc i)) ≡ sum 𝓞 n f
  unfolding sum
  sum_rev zero f = refl
  sum_rev (suc n) f = sum_first n (λ i. f (suc n - suc i)) ∙ ap₂ ◌⊕◌ (ap f (omega arith)) (sum_cong n _ _ (λ i l. ap f (N.suc-sub-suc n (suc i))) ∙ sum_rev n f) ∙ add_comm (f n) (sum 𝓞 n f)

  -- t to -t
  pub sum_neg_mod : (n : ℕ) (f : ℕ → R) → sum 𝓞 n (λ i. f ((n - i) % n)) ≡ sum 𝓞 n f
  unfolding sum
  sum_neg_mod zero f = refl
  sum_neg_mod (suc m) f = sum_first m (λ i. f ((suc m - i) % suc m)) ∙ ap₂ ◌⊕◌ (ap f (rw N.sub-zero (N.mod_self (suc m)))) (sum_cong m _ _ (λ i l. ap f (N.mod-eq_of_lt (omega arith) ∙ omega arith)) ∙ sum_rev m (λ i. f (suc i))) ∙ sym (sum_first m f)
