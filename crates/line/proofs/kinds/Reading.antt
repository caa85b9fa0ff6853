-- A packed line is read at its pairs alone: two that agree there unfold to the same line, and transform to the same.
use mathlib.Core.Path.{◌≡◌, refl, sym, ◌∙◌, ap}
use Prim.Native.Nat.{ℕ, zero, suc, ◌+◌, ◌*◌, ◌-◌, ◌<◌}
use native.Mathlib.Omega.{arith}
use native.Mathlib.Decide.{ℕ_discrete, dec_lt}
use Rattle.algebra.specs.ring.Ring.{Ops, dft}
use Rattle.algebra.specs.ring.RingLaws.{CRing, Star}
use Rattle.algebra.specs.fourier.Axis.{Axis, AxisLaws}
use Rattle.algebra.specs.lines.Kinds.{re, im, unit, unfold_by, interleave, Kind, Kind.plain, Kind.hermitian, Kind.antihermitian, Kind.alternating, Kind.symmetric, Kind.antisymmetric, slots, unfold_before, unfold_after, forward, inverse}
use Rattle.algebra.specs.lines.Packings.{unfold_a3}
use Rattle.algebra.proofs.fourier.Transform.{dft_cong}
use Rattle.algebra.proofs.lines.Rules.{pack_before_cong, pack_after_cong}
use Rattle.algebra.proofs.lines.Unfold.{three_lt, three_eq, three_gt, unfold_zero, unfold_low, unfold_middle, unfold_high, interleave_all, interleave_even, interleave_odd}

module _ {R : Type 0} (A : ℕ) (pos : 0 < A) where
  unfold_cong : {a b c d : R} (f : ℕ → R → R) (p q : ℕ → R) → a ≡ b → c ≡ d → ((t : ℕ) → 0 < t → t < A → p t ≡ q t) → (t : ℕ) → t < 2 * A → unfold_by A a c f p t ≡ unfold_by A b d f q t
  unfold_cong f p q first middle e zero l = unfold_zero A _ _ f p ∙ first ∙ sym (unfold_zero A _ _ f q)
  unfold_cong {a} {b} {c} {d} f p q first middle e (suc t) l = go (dec_lt (suc t) A) (ℕ_discrete (suc t) A)
    where
      go : Dec (suc t < A) → Dec (suc t ≡ A) → unfold_by A a c f p (suc t) ≡ unfold_by A b d f q (suc t)
      go (yes h) o = unfold_low A a c f p (suc t) (omega arith) h ∙ e (suc t) (omega arith) h ∙ sym (unfold_low A b d f q (suc t) (omega arith) h)
      go (no n) (yes h) = ap (unfold_by A a c f p) h ∙ unfold_middle A a c f p pos ∙ middle ∙ sym (unfold_middle A b d f q pos) ∙ ap (unfold_by A b d f q) (sym h)
      go (no n) (no o) = unfold_high A a c f p (suc t) u (omega arith) (omega arith) ∙ ap (f u) (e u (omega arith) (omega arith)) ∙ sym (unfold_high A b d f q (suc t) u (omega arith) (omega arith))
        where
          u : ℕ
          u = 2 * A - suc t

  interleave_cong : (f g h k : ℕ → R) → ((s : ℕ) → s < A → f s ≡ h s) → ((s : ℕ) → s < A → g s ≡ k s) → (s : ℕ) → s < 2 * A → interleave f g s ≡ interleave h k s
  interleave_cong f g h k e o s l = interleave_all h k A (interleave f g) (λ s l. interleave_even f g s ∙ e s l) (λ s l. interleave_odd f g s ∙ o s l) s l

module _ {R : Type 0} (𝓞 : Ops R) (conj : R → R) (i half : R) (A : ℕ) (pos : 0 < A) where
  open 𝓞 use {mul as ◌⊗◌, neg as ⊖◌}

  infixl 70 ◌⊗◌
  infix 75 ⊖◌
  abbrev ℜ : R → R
  ℜ z = re 𝓞 conj i half z

  abbrev ℑ : R → R
  ℑ z = im 𝓞 conj i half z

  halves_cong : (p q : ℕ → R) → ((s : ℕ) → s < A → p s ≡ q s) → (s : ℕ) → s < 2 * A → unfold_a3 𝓞 conj i half A p s ≡ unfold_a3 𝓞 conj i half A q s
  halves_cong p q e s l = go (dec_lt s A) (ℕ_discrete s A)
    where
      go : Dec (s < A) → Dec (s ≡ A) → unfold_a3 𝓞 conj i half A p s ≡ unfold_a3 𝓞 conj i half A q s
      go (yes h) o = three_lt s A _ _ _ h ∙ e s h ∙ sym (three_lt s A _ _ _ h)
      go (no n) (yes h) = three_eq s A _ _ _ h ∙ ap conj (e (s - A) (omega arith)) ∙ sym (three_eq s A _ _ _ h)
      go (no n) (no o) = three_gt s A _ _ _ (omega arith) ∙ ap conj (e (s - A) (omega arith)) ∙ sym (three_gt s A _ _ _ (omega arith))

  pub before_cong : (k : Kind) (p q : ℕ → R) → ((j : ℕ) → j < slots k A → p j ≡ q j) → (t : ℕ) → t < 2 * A → unfold_before 𝓞 conj i half A k p t ≡ unfold_before 𝓞 conj i half A k q t
  unfolding slots unfold_before
  before_cong plain p q e t l = e t l
  before_cong hermitian p q e t l = unfold_cong A pos _ p q (ap ℜ (e 0 pos)) (ap ℑ (e 0 pos)) (λ t o l. e t l) t l
  before_cong antihermitian p q e t l = unfold_cong A pos _ p q (ap (λ y. i ⊗ ℜ y) (e 0 pos)) (ap (λ y. i ⊗ ℑ y) (e 0 pos)) (λ t o l. e t l) t l
  before_cong alternating p q e t l = unfold_cong A pos _ p q (ap ℜ (e 0 pos)) (ap (λ y. unit 𝓞 conj i half A A ⊗ ℑ y) (e 0 pos)) (λ t o l. e t l) t l
  before_cong symmetric p q e t l = unfold_cong A pos _ p q (e 0 (omega arith)) (e A (omega arith)) (λ t o l. e t (omega arith)) t l
  before_cong antisymmetric p q e t l = unfold_cong A pos _ (λ t. p (t - 1)) (λ t. q (t - 1)) refl refl (λ t o l. e (t - 1) (omega arith)) t l

  pub after_cong : (k : Kind) (p q : ℕ → R) → ((j : ℕ) → j < slots k A → p j ≡ q j) → (s : ℕ) → s < 2 * A → unfold_after 𝓞 conj i half A k p s ≡ unfold_after 𝓞 conj i half A k q s
  unfolding slots unfold_after
  after_cong plain p q e s l = e s l
  after_cong hermitian p q e s l = interleave_cong A pos _ _ _ _ (λ s l. ap ℜ (e s l)) (λ s l. ap ℑ (e s l)) s l
  after_cong antihermitian p q e s l = interleave_cong A pos _ _ _ _ (λ s l. ap (λ y. i ⊗ ℜ y) (e s l)) (λ s l. ap (λ y. i ⊗ ℑ y) (e s l)) s l
  after_cong alternating p q e s l = halves_cong p q e s l
  after_cong symmetric p q e s l = unfold_cong A pos _ p q (e 0 (omega arith)) (e A (omega arith)) (λ t o l. e t (omega arith)) s l
  after_cong antisymmetric p q e s l = unfold_cong A pos _ (λ t. p (t - 1)) (λ t. q (t - 1)) refl refl (λ t o l. e (t - 1) (omega arith)) s l

module _ {R : Type 0} {𝓞 : Ops R} {conj : R → R} {i : R} (𝓡 : CRing 𝓞) (𝓢 : Star 𝓞 conj i) {half : R} {axis : Axis R} {tau : ℕ → R} (𝓐 : AxisLaws 𝓞 conj i half axis tau) where
  open axis use {half as A, w, part}
  open 𝓐 use {positive}

  pub forward_cong : (k : Kind) (p q : ℕ → R) → ((j : ℕ) → j < slots k A → p j ≡ q j) → (s : ℕ) → s < slots k A → forward 𝓞 conj i half A w k p s ≡ forward 𝓞 conj i half A w k q s
  forward_cong k p q e s l = pack_after_cong 𝓡 𝓢 𝓐 k _ _ (λ s l. dft_cong 𝓡 (2 * A) w _ _ s (before_cong 𝓞 conj i half A positive k p q e)) s l

  pub back_cong : (k : Kind) (p q : ℕ → R) → ((j : ℕ) → j < slots k A → p j ≡ q j) → (t : ℕ) → t < slots k A → inverse 𝓞 conj i half A w part k p t ≡ inverse 𝓞 conj i half A w part k q t
  back_cong k p q e t l = pack_before_cong 𝓡 𝓢 𝓐 k _ _ (λ t l. ap (𝓞.mul part) (dft_cong 𝓡 (2 * A) (conj w) _ _ t (after_cong 𝓞 conj i half A positive k p q e))) t l
