-- All kinds at once: the folds compute the direct sums, and each call undoes the other.
use mathlib.Core.Path.{◌≡◌, refl, ◌∙◌, ap}
use Prim.Native.Nat.{ℕ, suc, ◌*◌, ◌-◌, ◌<◌}
use native.Mathlib.Omega.{arith}
use Rattle.algebra.specs.ring.Ring.{Ops}
use Rattle.algebra.specs.ring.RingLaws.{CRing, Star}
use Rattle.algebra.specs.fourier.Axis.{Axis, AxisLaws}
use Rattle.algebra.specs.lines.Kinds.{Kind, Kind.plain, Kind.hermitian, Kind.antihermitian, Kind.alternating, Kind.symmetric, Kind.antisymmetric, slots, unfold_before, unfold_after, pack_before, pack_after, forward, inverse}
use Rattle.algebra.specs.lines.FoldKinds.{fold_forward, fold_back}
use Rattle.algebra.proofs.fourier.Transform.{inversion, dft_cong, inversion_after}
use Rattle.algebra.proofs.lines.FoldMirror.{forward4, forward5, inverse4, inverse5}
use Rattle.algebra.proofs.lines.FoldHermitian.{forward1, inverse1}
use Rattle.algebra.proofs.lines.Rules.{pack_before_cong, pack_after_cong, after_pack, before_pack, transform_rule, inverse_rule, before_rule, after_rule, pack_before_unfolded, pack_after_unfolded}
use Rattle.algebra.proofs.lines.FoldAntiHermitian.{forward2, inverse2}
use Rattle.algebra.proofs.lines.FoldAlternating.{forward3}
use Rattle.algebra.proofs.lines.FoldAlternatingBack.{inverse3}

module _ {R : Type 0} {𝓞 : Ops R} {conj : R → R} {i : R} (𝓡 : CRing 𝓞) (𝓢 : Star 𝓞 conj i) {half : R} {axis : Axis R} {tau : ℕ → R} (𝓐 : AxisLaws 𝓞 conj i half axis tau) where
  open 𝓞 use {add as ◌⊕◌, mul as ◌⊗◌, neg as ⊖◌, zer as 𝟘, one as 𝟙}
  open axis use {half as A, w, part}
  open 𝓐 use {root}

  infixl 65 ◌⊕◌
  infixl 70 ◌⊗◌
  infix 75 ⊖◌
  pub forward_is : (k : Kind) (p : ℕ → R) (s : ℕ) → s < slots k A → fold_forward 𝓞 conj i half A w part tau k p s ≡ forward 𝓞 conj i half A w k p s
  unfolding slots unfold_before pack_after fold_forward
  forward_is plain p s l = refl
  forward_is hermitian p s l = forward1 𝓡 𝓢 𝓐 p s
  forward_is antihermitian p s l = forward2 𝓡 𝓢 𝓐 p s
  forward_is alternating p s l = forward3 𝓡 𝓢 𝓐 p s l
  forward_is symmetric p s l = forward4 𝓡 𝓢 𝓐 p s l
  forward_is antisymmetric p s l = forward5 𝓡 𝓢 𝓐 (λ t. p (t - 1)) (suc s) (omega arith)

  pub back_is : (k : Kind) (q : ℕ → R) (t : ℕ) → t < slots k A → fold_back 𝓞 conj i half A w part tau k q t ≡ inverse 𝓞 conj i half A w part k q t
  unfolding slots unfold_after pack_before fold_back
  back_is plain q t l = refl
  back_is hermitian q t l = inverse1 𝓡 𝓢 𝓐 q t l
  back_is antihermitian q t l = inverse2 𝓡 𝓢 𝓐 q t l
  back_is alternating q t l = inverse3 𝓡 𝓢 𝓐 q t l
  back_is symmetric q t l = inverse4 𝓡 𝓢 𝓐 q t l
  back_is antisymmetric q t l = inverse5 𝓡 𝓢 𝓐 (λ t. q (t - 1)) (suc t) (omega arith)

  -- the inverse call after the forward one restores the packed line: the line keeps its rule, so its result is known by what is packed of it ..
  pub restores : (k : Kind) (p : ℕ → R) (t : ℕ) → t < slots k A → inverse 𝓞 conj i half A w part k (forward 𝓞 conj i half A w k p) t ≡ p t
  restores k p t l = pack_before_cong 𝓡 𝓢 𝓐 k _ _ (λ t l. ap (λ y. part ⊗ y) (dft_cong 𝓡 (2 * A) (conj w) _ _ t (after_pack 𝓡 𝓢 𝓐 k _ (transform_rule 𝓡 𝓢 𝓐 k _ (before_rule 𝓡 𝓢 𝓐 k p)))) ∙ inversion 𝓡 (2 * A) w (conj w) part root _ t l) t l ∙ pack_before_unfolded 𝓡 𝓢 𝓐 k p t l

  -- .. and the forward call after the inverse one restores the packed result
  pub restores_after : (k : Kind) (q : ℕ → R) (s : ℕ) → s < slots k A → forward 𝓞 conj i half A w k (inverse 𝓞 conj i half A w part k q) s ≡ q s
  restores_after k q s l = pack_after_cong 𝓡 𝓢 𝓐 k _ _ (λ s l. dft_cong 𝓡 (2 * A) w _ _ s (before_pack 𝓡 𝓢 𝓐 k _ (inverse_rule 𝓡 𝓢 𝓐 k _ (after_rule 𝓡 𝓢 𝓐 k q))) ∙ inversion_after 𝓡 (2 * A) w (conj w) part root _ s l) s l ∙ pack_after_unfolded 𝓡 𝓢 𝓐 k q s l
