-- What a lawful axis says of its other root, and of 1/N.
use mathlib.Core.Path.{◌≡◌, sym, ◌∙◌, ap}
use Prim.Native.Nat.{ℕ, ◌*◌}
use Rattle.algebra.specs.ring.Ring.{Ops, pow}
use Rattle.algebra.specs.ring.RingLaws.{CRing, Star}
use Rattle.algebra.specs.fourier.Axis.{AxisLaws, Axis}
use Rattle.algebra.proofs.fourier.Transform.{pow_unit, inverse_cycle}
use Rattle.algebra.proofs.ring.Conj.{conj_pow, conj_of_inverse, conj_cast}

module _ {R : Type 0} {𝓞 : Ops R} {conj : R → R} {i : R} (𝓡 : CRing 𝓞) (𝓢 : Star 𝓞 conj i) where
  open 𝓞 use {add as ◌⊕◌, mul as ◌⊗◌, neg as ⊖◌, zer as 𝟘, one as 𝟙}
  open 𝓡 use {mul_comm}
  open 𝓢 use {conj_neg, conj_one}

  infixl 65 ◌⊕◌
  infixl 70 ◌⊗◌
  infix 75 ⊖◌
  -- what a lawful axis says of its other root, and of 1/N
  module _ {half : R} {axis : Axis R} {tau : ℕ → R} (𝓐 : AxisLaws 𝓞 conj i half axis tau) where
    open axis use {half as A, w, part}
    open 𝓐 use {positive, root, turn, halves, tan}
    open root use {inverse, part_of}

    pub conj_turn : pow 𝓞 (conj w) A ≡ ⊖ 𝟙
    conj_turn = sym (conj_pow 𝓡 𝓢 w A) ∙ ap conj turn ∙ conj_neg 𝟙 ∙ ap ⊖◌ conj_one

    pub conj_inverse : conj w ⊗ w ≡ 𝟙
    conj_inverse = mul_comm _ _ ∙ inverse

    pub pow_inverse : (k : ℕ) → pow 𝓞 w k ⊗ pow 𝓞 (conj w) k ≡ 𝟙
    pow_inverse k = pow_unit 𝓡 w (conj w) inverse k

    pub conj_cycle : pow 𝓞 (conj w) (2 * A) ≡ 𝟙
    conj_cycle = inverse_cycle 𝓡 (2 * A) w (conj w) part root

    pub conj_part : conj part ≡ part
    conj_part = conj_of_inverse 𝓡 𝓢 part _ (conj_cast 𝓡 𝓢 (2 * A)) part_of
