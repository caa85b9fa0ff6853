-- One axis of even length: indices going round, signs, and the transform at images.
use mathlib.Core.Path.{◌≡◌, refl, sym as inv, ◌∙◌, ap}
use mathlib.Core.Bool.{Bool, true, false}
use Prim.Native.Nat.{ℕ, zero, suc, ◌+◌, ◌*◌, ◌-◌, ◌%◌, ◌≤◌, ◌<◌}
use native.Mathlib.Nat as N
use native.Mathlib.Omega.{arith}
use native.Mathlib.Decide.{dec_lt}
use Rattle.algebra.specs.ring.Ring.{Ops, pow, dft}
use Rattle.algebra.specs.ring.RingLaws.{CRing, Star}
use Rattle.algebra.specs.fourier.Axis.{Axis, AxisLaws}
use Rattle.algebra.specs.cells.Cell.{neg_i, half_i, flip, shifted, xor, sgn, star}
use Rattle.algebra.proofs.ring.Laws.{along, mul_one, neg_one_square}
use Rattle.algebra.proofs.fourier.Transform.{pow_mod, dft_cong, pow_unit, pow_across, sign_even, dft_mod}
use Rattle.algebra.proofs.ring.Conj.{conj_sign}
use Rattle.algebra.proofs.fourier.Properties.{dft_mirror_image, turn_sign, dft_conj_mirror, dft_phase}

-- indices
pub neg_zero : (a : ℕ) → neg_i a 0 ≡ 0
unfolding neg_i
neg_zero a = rw N.sub-zero (N.mod_self (2 * a))

pub neg_pos : (a h : ℕ) → 0 < h → h < 2 * a → neg_i a h ≡ 2 * a - h
unfolding neg_i
neg_pos a h p l = N.mod-eq_of_lt (omega arith)

pub neg_lt : (a h : ℕ) → h < 2 * a → neg_i a h < 2 * a
unfolding neg_i
neg_lt a h l = N.mod-lt (2 * a - h) (omega arith)

pub neg_neg' : (a h : ℕ) → h < 2 * a → neg_i a (neg_i a h) ≡ h
neg_neg' a zero l = rw (neg_zero, neg_zero)
neg_neg' a (suc h) l = rw (neg_pos a (suc h) (omega arith) l) (neg_pos a (2 * a - suc h) (omega arith) (omega arith) ∙ omega arith)

pub half_lt : (a x : ℕ) → x < 2 * a → half_i a x < 2 * a
unfolding half_i
half_lt a x l = N.mod-lt (x + a) (omega arith)

pub half_low : (a x : ℕ) → x < a → half_i a x ≡ x + a
unfolding half_i
half_low a x l = N.mod-eq_of_lt (omega arith)

pub half_high : (a x : ℕ) → a ≤ x → x < 2 * a → half_i a x ≡ x - a
unfolding half_i
half_high a x g l = N.mod-eq-sub-mod (omega arith) ∙ along (λ y. y % (2 * a)) (x + a - 2 * a) (x - a) (omega arith) ∙ N.mod-eq_of_lt (omega arith)

pub half_half : (a x : ℕ) → x < 2 * a → half_i a (half_i a x) ≡ x
half_half a x l = go (dec_lt x a)
  where
    go : Dec (x < a) → half_i a (half_i a x) ≡ x
    go (yes p) = rw (half_low a x p) (half_high a (x + a) (omega arith) (omega arith) ∙ omega arith)
    go (no p) = rw (half_high a x (omega arith) l) (half_low a (x - a) (omega arith) ∙ omega arith)

pub neg_half : (a x : ℕ) → x < 2 * a → neg_i a (half_i a x) ≡ half_i a (neg_i a x)
neg_half a zero l = rw (half_low a 0 (omega arith), neg_zero a, half_low a 0 (omega arith)) (neg_pos a (0 + a) (omega arith) (omega arith) ∙ omega arith)
neg_half a (suc x) l = go (dec_lt (suc x) a) (dec_lt a (suc x))
  where
    go : Dec (suc x < a) → Dec (a < suc x) → neg_i a (half_i a (suc x)) ≡ half_i a (neg_i a (suc x))
    go (yes p) d = rw (half_low a (suc x) p, neg_pos a (suc x) (omega arith) l) (neg_pos a (suc x + a) (omega arith) (omega arith) ∙ inv (half_high a (2 * a - suc x) (omega arith) (omega arith) ∙ omega arith))
    go (no p) (yes d) = rw (half_high a (suc x) (omega arith) l, neg_pos a (suc x) (omega arith) l) (neg_pos a (suc x - a) (omega arith) (omega arith) ∙ inv (half_low a (2 * a - suc x) (omega arith) ∙ omega arith))
    go (no p) (no d) = rw (half_high a (suc x) (omega arith) l, neg_pos a (suc x) (omega arith) l) (along (neg_i a) (suc x - a) 0 (omega arith) ∙ neg_zero a ∙ inv (half_high a (2 * a - suc x) (omega arith) (omega arith) ∙ omega arith))

pub flip_lt : (f : Bool) (a h : ℕ) → h < 2 * a → flip f a h < 2 * a
unfolding flip
flip_lt false a h l = l
flip_lt true a h l = neg_lt a h l

pub shifted_lt : (p : Bool) (a h : ℕ) → h < 2 * a → shifted p a h < 2 * a
unfolding shifted
shifted_lt false a h l = l
shifted_lt true a h l = half_lt a h l

pub flip_flip : (f g : Bool) (a h : ℕ) → h < 2 * a → flip f a (flip g a h) ≡ flip (xor f g) a h
unfolding flip
flip_flip false g a h l = refl
flip_flip true false a h l = refl
flip_flip true true a h l = neg_neg' a h l

pub shifted_shifted : (f g : Bool) (a h : ℕ) → h < 2 * a → shifted f a (shifted g a h) ≡ shifted (xor f g) a h
unfolding shifted
shifted_shifted false g a h l = refl
shifted_shifted true false a h l = refl
shifted_shifted true true a h l = half_half a h l

pub flip_shifted : (f p : Bool) (a h : ℕ) → h < 2 * a → flip f a (shifted p a h) ≡ shifted p a (flip f a h)
unfolding flip shifted
flip_shifted false p a h l = refl
flip_shifted true false a h l = refl
flip_shifted true true a h l = neg_half a h l

pub both_both : (f p g q : Bool) (a h : ℕ) → h < 2 * a → shifted p a (flip f a (shifted q a (flip g a h))) ≡ shifted (xor p q) a (flip (xor f g) a h)
both_both f p g q a h l = ap (shifted p a) (flip_shifted f q a (flip g a h) (flip_lt g a h l)) ∙ shifted_shifted p q a _ (flip_lt f a _ (flip_lt g a h l)) ∙ ap (shifted (xor p q) a) (flip_flip f g a h l)

module _ {R : Type 0} {𝓞 : Ops R} {conj : R → R} {i : R} (𝓡 : CRing 𝓞) (𝓢 : Star 𝓞 conj i) where
  open 𝓞 use {add as ◌⊕◌, mul as ◌⊗◌, neg as ⊖◌, zer as 𝟘, one as 𝟙}
  open 𝓡 use {one_mul}
  open 𝓢 use {conj_mul, conj_one, conj_conj}

  infixl 65 ◌⊕◌
  infixl 70 ◌⊗◌
  infix 75 ⊖◌
  -- signs
  pub sgn_square : (p : Bool) (h : ℕ) → sgn 𝓞 p h ⊗ sgn 𝓞 p h ≡ 𝟙
  unfolding sgn
  sgn_square false h = one_mul 𝟙
  sgn_square true h = pow_unit 𝓡 (⊖ 𝟙) (⊖ 𝟙) (neg_one_square 𝓡) h

  pub sgn_sgn : (p q : Bool) (h : ℕ) → sgn 𝓞 p h ⊗ sgn 𝓞 q h ≡ sgn 𝓞 (xor p q) h
  unfolding sgn
  sgn_sgn false q h = one_mul _
  sgn_sgn true false h = mul_one 𝓡 _
  sgn_sgn true true h = sgn_square true h

  pub conj_sgn : (p : Bool) (h : ℕ) → conj (sgn 𝓞 p h) ≡ sgn 𝓞 p h
  unfolding sgn
  conj_sgn false h = conj_one
  conj_sgn true h = conj_sign 𝓡 𝓢 h

  -- a power at -h, where x^N = 1
  pub pow_neg : (x x' : R) (a h : ℕ) → x ⊗ x' ≡ 𝟙 → pow 𝓞 x (2 * a) ≡ 𝟙 → h < 2 * a → pow 𝓞 x (neg_i a h) ≡ pow 𝓞 x' h
  unfolding neg_i
  pow_neg x x' a h e c l = pow_mod 𝓡 x (2 * a) (2 * a - h) c ∙ pow_across 𝓡 x x' (2 * a) e c (2 * a - h) h 1 (omega arith)

  pub sgn_flip : (p f : Bool) (a h : ℕ) → h < 2 * a → sgn 𝓞 p (flip f a h) ≡ sgn 𝓞 p h
  unfolding sgn flip
  sgn_flip false f a h l = refl
  sgn_flip true false a h l = refl
  sgn_flip true true a h l = pow_neg (⊖ 𝟙) (⊖ 𝟙) a h (neg_one_square 𝓡) (sign_even 𝓡 a) l

  pub star_star : (c d : Bool) (v : R) → star conj c (star conj d v) ≡ star conj (xor c d) v
  unfolding star
  star_star false d v = refl
  star_star true false v = refl
  star_star true true v = conj_conj v

  pub star_sgn : (c p : Bool) (h : ℕ) (v : R) → star conj c (sgn 𝓞 p h ⊗ v) ≡ sgn 𝓞 p h ⊗ star conj c v
  unfolding star
  star_sgn false p h v = refl
  star_sgn true p h v = conj_mul _ v ∙ ap (λ y. y ⊗ conj v) (conj_sgn p h)

  module _ {half : R} {axis : Axis R} {tau : ℕ → R} (𝓐 : AxisLaws 𝓞 conj i half axis tau) where
    open axis use {half as A, w}
    open 𝓐 use {root, turn as minus}
    open root use {inverse, cycle}

    -- the transform along the axis
    abbrev D : (ℕ → R) → ℕ → R
    D G x = dft 𝓞 (2 * A) w G x

    D_flip : (f : Bool) (G : ℕ → R) (x : ℕ) → x < 2 * A → D (λ h. G (flip f A h)) x ≡ D G (flip f A x)
    unfolding flip neg_i
    D_flip false G x l = refl
    D_flip true G x l = dft_mirror_image 𝓡 (2 * A) w (conj w) inverse cycle G x l

    D_shifted : (p : Bool) (G : ℕ → R) (x : ℕ) → D (λ h. sgn 𝓞 p h ⊗ G h) x ≡ D G (shifted p A x)
    unfolding shifted sgn half_i
    D_shifted false G x = dft_cong 𝓡 (2 * A) w _ _ x (λ h l. one_mul (G h))
    D_shifted true G x = dft_cong 𝓡 (2 * A) w _ _ x (λ h l. ap (λ y. y ⊗ G h) (inv (turn_sign 𝓡 A w minus h))) ∙ dft_phase 𝓡 (2 * A) w G A x ∙ along (D G) (A + x) (x + A) (omega arith) ∙ inv (dft_mod 𝓡 (2 * A) w G (x + A) cycle)

    -- the transform of what an operation makes of G is the transform of G at the image
    pub D_image : (f p : Bool) (G : ℕ → R) (x : ℕ) → x < 2 * A → D (λ h. sgn 𝓞 p h ⊗ G (flip f A h)) x ≡ D G (shifted p A (flip f A x))
    D_image f p G x l = D_shifted p (λ h. G (flip f A h)) x ∙ D_flip f G (shifted p A x) (shifted_lt p A x l) ∙ ap (D G) (flip_shifted f p A x l)

    pub D_conj : (G : ℕ → R) (x : ℕ) → x < 2 * A → D (λ h. conj (G h)) x ≡ conj (D G (neg_i A x))
    unfolding neg_i
    D_conj G x l = dft_conj_mirror 𝓡 𝓢 (2 * A) w inverse cycle G x l

    -- a conjugated transform
    pub conj_D : (G : ℕ → R) (x : ℕ) → x < 2 * A → conj (D G x) ≡ D (λ h. conj (G (neg_i A h))) x
    unfolding flip shifted sgn
    conj_D G x l = ap (λ y. conj (D G y)) (inv (neg_neg' A x l)) ∙ inv (D_conj G (neg_i A x) (neg_lt A x l)) ∙ inv (dft_cong 𝓡 (2 * A) w _ _ x (λ h m. inv (one_mul _)) ∙ D_image true false (λ h. conj (G h)) x l)

pub flip_neg : (f : Bool) (a x : ℕ) → x < 2 * a → flip f a (neg_i a x) ≡ flip (xor true f) a x
unfolding flip
flip_neg false a x l = refl
flip_neg true a x l = neg_neg' a x l
