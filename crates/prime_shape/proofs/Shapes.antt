-- What follows from the shape alone: the root is on the unit circle, its half turn is -1, it has order 2,880 with an inverse of r^k - 1 for every smaller k,
-- and 1/N is exact.
-- That r^k - 1 has an inverse uses that p is prime: its norm 2 - (w + conj w), w = r^k, is a residue, and were it 0, w would be 1 + e with e e = 0, so
-- w^n = 1 + n e, and e = 0.
use mathlib.Core.Path.{◌≡◌, refl, sym, ◌∙◌, ap, ap₂}
use mathlib.Core.List.{[], ◌∷◌}
use Prim.Native.Nat.{ℕ, zero, suc, ◌+◌, ◌*◌, ◌-◌, ◌/◌, ◌%◌, ◌<◌, ◌≤◌}
use native.Mathlib.Nat as N
use native.Mathlib.Omega.{arith}
use native.Mathlib.Decide.{ℕ_discrete}
use Rattle.algebra.specs.ring.Ring.{Ops, pow, Res, residue, residues, gauss}
use Rattle.algebra.specs.fourier.Axis.{cast, Root}
use Rattle.algebra.specs.ring.RingLaws.{CRing, Star}
use Rattle.algebra.specs.ring.Ring as Gauss
use Rattle.algebra.proofs.ring.Laws.{along}
use Rattle.algebra.proofs.ring.Solver.{ring, quote, linear}
use Rattle.algebra.proofs.ring.ResidueRing.{val_residue, residue_val, residue_ring, residue_add}
use Rattle.algebra.proofs.ring.GaussRing.{gauss_ring, gauss_star}
use Rattle.algebra.proofs.fourier.Transform.{pow_mul, pow_unit, mul_pow, one_pow}
use Rattle.algebra.proofs.ring.Conj.{conj_pow}
use Rattle.algebra.proofs.fourier.Divisors.{root_2880}
use Rattle.algebra.proofs.fourier.RootOrder as RootOrder
use Rattle.numbers.proofs.Parts.{part_of}
use Rattle.numbers.proofs.Values.{value_path}
use Rattle.prime_shape.specs.Shape.{Value, field, conj, i, number, part, Candidate, Shape}
use Rattle.prime_shape.proofs.Inverses.{inverse_of_lem}

-- real values of R[i]
module _ {R : Type 0} {𝓞 : Ops R} (𝓡 : CRing 𝓞) where
  real_mul : (x y : R) → (gauss 𝓞).mul (x, 𝓞.zer) (y, 𝓞.zer) ≡ (𝓞.mul x y, 𝓞.zer)
  unfolding gauss
  real_mul x y = value_path
      (ring 𝓡 (x ∷ y ∷ []) (search quote depth 40 fits 9999) refl)
      (ring 𝓡 (x ∷ y ∷ []) (search quote depth 40 fits 9999) refl)

  real_conj : (x : R) → Gauss.conj 𝓞 (x, 𝓞.zer) ≡ (x, 𝓞.zer)
  unfolding Gauss.conj
  real_conj x = value_path refl (ring 𝓡 [] (search quote depth 40 fits 9999) refl)

  cast_real : (n : ℕ) → cast (gauss 𝓞) n ≡ (cast 𝓞 n, 𝓞.zer)
  unfolding gauss cast
  cast_real zero = refl
  cast_real (suc n) = ap ((gauss 𝓞).add (gauss 𝓞).one) (cast_real n) ∙ value_path refl (𝓡.zero_add _)

  -- 2 - (w + conj w) is real
  norm_real : (w : R × R) → (gauss 𝓞).add ((gauss 𝓞).add (gauss 𝓞).one (gauss 𝓞).one) ((gauss 𝓞).neg ((gauss 𝓞).add w (Gauss.conj 𝓞 w))) ≡ (𝓞.add (𝓞.add 𝓞.one 𝓞.one) (𝓞.neg (𝓞.add w.0 w.0)), 𝓞.zer)
  unfolding gauss Gauss.conj
  norm_real w = value_path
      (ring 𝓡 (w.0 ∷ w.1 ∷ []) (search quote depth 40 fits 9999) refl)
      (ring 𝓡 (w.0 ∷ w.1 ∷ []) (search quote depth 40 fits 9999) refl)

-- over any ring
module _ {R : Type 0} {𝓞 : Ops R} (𝓡 : CRing 𝓞) where
  open 𝓞 use {add as ◌⊕◌, mul as ◌⊗◌, neg as ⊖◌, zer as 𝟘, one as 𝟙}

  infixl 65 ◌⊕◌
  infixl 70 ◌⊗◌
  infix 75 ⊖◌
  norm : (w w' : R) → w ⊗ w' ≡ 𝟙 → (w' ⊕ ⊖ 𝟙) ⊗ (w ⊕ ⊖ 𝟙) ≡ 𝟙 ⊕ 𝟙 ⊕ ⊖ (w ⊕ w')
  norm w w' h = linear 𝓡 h 𝟙 (ring 𝓡 (w ∷ w' ∷ []) (search quote depth 40 fits 9999) refl)

  -- (1 + e)^n = 1 + n e where e e = 0
  power_next : (e x n : R) → e ⊗ e ≡ 𝟘 → x ≡ 𝟙 ⊕ n ⊗ e → (𝟙 ⊕ e) ⊗ x ≡ 𝟙 ⊕ (𝟙 ⊕ n) ⊗ e
  power_next e x n h k = linear 𝓡 h n (linear 𝓡 k (𝟙 ⊕ e) (ring 𝓡 (e ∷ x ∷ n ∷ []) (search quote depth 40 fits 9999) refl))

  power_near : (e : R) → e ⊗ e ≡ 𝟘 → (n : ℕ) → pow 𝓞 (𝟙 ⊕ e) n ≡ 𝟙 ⊕ cast 𝓞 n ⊗ e
  unfolding pow cast
  power_near e h zero = ring 𝓡 (e ∷ []) (search quote depth 40 fits 9999) refl
  power_near e h (suc n) = power_next e _ (cast 𝓞 n) h (power_near e h n)

  around : (w : R) → 𝟙 ⊕ (w ⊕ ⊖ 𝟙) ≡ w
  around w = ring 𝓡 (w ∷ []) (search quote depth 40 fits 9999) refl

  -- a root of 1 whose distance from 1 has the norm 0 is 1
  near_one : (w w' part : R) (n : ℕ) → w ⊗ w' ≡ 𝟙 → pow 𝓞 w n ≡ 𝟙 → part ⊗ cast 𝓞 n ≡ 𝟙 → (w' ⊕ ⊖ 𝟙) ⊗ (w ⊕ ⊖ 𝟙) ≡ 𝟘 → w ≡ 𝟙
  near_one w w' part n h c q z = last w part (cast 𝓞 n) (sym (power_near (w ⊕ ⊖ 𝟙) (square w w' h z) n) ∙ ap (λ y. pow 𝓞 y n) (around w) ∙ c) q
    where
      square : (w w' : R) → w ⊗ w' ≡ 𝟙 → (w' ⊕ ⊖ 𝟙) ⊗ (w ⊕ ⊖ 𝟙) ≡ 𝟘 → (w ⊕ ⊖ 𝟙) ⊗ (w ⊕ ⊖ 𝟙) ≡ 𝟘
      square w w' h z = linear 𝓡 z (⊖ w) (linear 𝓡 h (w ⊕ ⊖ 𝟙) (ring 𝓡 (w ∷ w' ∷ []) (search quote depth 40 fits 9999) refl))

      last : (w q n : R) → 𝟙 ⊕ n ⊗ (w ⊕ ⊖ 𝟙) ≡ 𝟙 → q ⊗ n ≡ 𝟙 → w ≡ 𝟙
      last w q n h k = linear 𝓡 h q (linear 𝓡 k (⊖ (w ⊕ ⊖ 𝟙)) (ring 𝓡 (w ∷ q ∷ n ∷ []) (search quote depth 40 fits 9999) refl))

  unit_by : (b b' x y : R) → b' ⊗ x ≡ 𝟙 → b ⊗ y ≡ 𝟙 → b ⊗ x ⊗ (b' ⊗ y) ≡ 𝟙
  unit_by b b' x y h k = linear 𝓡 h (b ⊗ y) (linear 𝓡 k 𝟙 (ring 𝓡 (b ∷ b' ∷ x ∷ y ∷ []) (search quote depth 40 fits 9999) refl))

  inverse_step : (u d d' t : R) → d' ⊗ d ≡ t → u ⊗ t ≡ 𝟙 → u ⊗ d' ⊗ d ≡ 𝟙
  inverse_step u d d' t h k = linear 𝓡 h u (linear 𝓡 k 𝟙 (ring 𝓡 (u ∷ d ∷ d' ∷ t ∷ []) (search quote depth 40 fits 9999) refl))

module _ {p c a : ℕ} {r : Value p} (S : Shape p c a r) where
  open field p use {add as ◌⊕◌, mul as ◌⊗◌, neg as ⊖◌, zer as 𝟘, one as 𝟙}
  open residues p use {add as ◌⊞◌, mul as ◌⊠◌, neg as ⊟◌, zer as 𝟎, one as 𝟏}

  infixl 65 ◌⊕◌
  infixl 70 ◌⊗◌
  infix 75 ⊖◌
  infixl 65 ◌⊞◌
  infixl 70 ◌⊠◌
  infix 75 ⊟◌
  infixl 80 ◌^◌
  abbrev ◌^◌ : Value p → ℕ → Value p
  z ^ k = pow (field p) z k

  positive : 0 < p
  positive = N.le_of_lt S.is_prime.above

  pub res_ring : CRing (residues p)
  res_ring = residue_ring p positive

  pub field_ring : CRing (field p)
  field_ring = gauss_ring res_ring

  pub field_star : Star (field p) (conj p) (i p)
  field_star = gauss_star res_ring

  distinct : 𝟘 ≡ 𝟙 → ⊥
  unfolding residues gauss
  distinct e = never (sym (val_residue p 0 positive) ∙ ap (λ z. z.0.val) e ∙ val_residue p 1 S.is_prime.above)
    where
      never : ◌≡◌ {A = ℕ} 0 1 → ⊥
      never h = omega arith

  -- numbers
  number_mul : (x y : ℕ) → number p x ⊗ number p y ≡ (residue p x ⊠ residue p y, residue p 0)
  unfolding residues
  number_mul x y = real_mul res_ring (residue p x) (residue p y)

  pub number_conj : (x : ℕ) → conj p (number p x) ≡ number p x
  unfolding residues
  number_conj x = real_conj res_ring (residue p x)

  cast_residue : (n : ℕ) → cast (residues p) n ≡ residue p n
  unfolding cast residues
  cast_residue zero = refl
  cast_residue (suc n) = ap ((residues p).add (residue p 1)) (cast_residue n) ∙ sym (residue_add p 1 n) ∙ along (residue p) (1 + n) (suc n) (omega arith)

  cast_number : (n : ℕ) → cast (field p) n ≡ number p n
  unfolding residues
  cast_number n = cast_real res_ring n ∙ ap (λ x. (x, residue p 0)) (cast_residue n)

  pub part_law : (n k : ℕ) → n * k ≡ 2880 → part p n ⊗ cast (field p) n ≡ 𝟙
  unfolding gauss residues
  part_law n k e = ap (λ y. part p n ⊗ y) (cast_number n) ∙ number_mul ((p + 1) / n) n ∙ ap (λ x. (x, residue p 0)) (part_of p n (k * c) (first n e) whole)
    where
      first : (n : ℕ) → n * k ≡ 2880 → 0 < n
      first zero h = absurd (omega arith)
      first (suc n) h = omega arith

      whole : p + 1 ≡ n * (k * c)
      whole = S.next ∙ ap (λ x. x * c) (sym e) ∙ N.mul_assoc n k c

  pub half_law : part p 2 ⊗ (𝟙 ⊕ 𝟙) ≡ 𝟙
  half_law = ap (λ y. part p 2 ⊗ y) two ∙ part_law 2 1440 refl
    where
      two : 𝟙 ⊕ 𝟙 ≡ cast (field p) 2
      two = ring field_ring [] (search quote depth 40 fits 9999) refl

  -- the root is (a + i)/(a - i), a power of it: conjugation inverts it
  pub circle : r ⊗ conj p r ≡ 𝟙
  circle =
      ap (λ y. y ⊗ conj p y) h.power
      ∙ ap (λ y. (b ⊗ h.inverse) ^ c ⊗ y) (conj_pow field_ring field_star (b ⊗ h.inverse) c)
      ∙ sym (mul_pow field_ring (b ⊗ h.inverse) (conj p (b ⊗ h.inverse)) c)
      ∙ ap (λ y. y ^ c) (ap (λ y. b ⊗ h.inverse ⊗ y) (field_star.conj_mul b h.inverse ∙ ap (λ y. y ⊗ conj p h.inverse) conj_b) ∙ unit_by field_ring b b' h.inverse (conj p h.inverse) h.inverts other)
      ∙ one_pow field_ring c
    where
      h : Candidate p c a r
      h = S.candidate

      b : Value p
      b = number p a ⊕ i p

      b' : Value p
      b' = number p a ⊕ ⊖ i p

      conj_b : conj p b ≡ b'
      conj_b = field_star.conj_add (number p a) (i p) ∙ ap₂ ◌⊕◌ (number_conj a) field_star.conj_i

      other : b ⊗ conj p h.inverse ≡ 𝟙
      other = ap (λ y. y ⊗ conj p h.inverse) (sym (ap (conj p) (sym conj_b) ∙ field_star.conj_conj b)) ∙ sym (field_star.conj_mul b' h.inverse) ∙ ap (conj p) h.inverts ∙ field_star.conj_one

  pub quarter_turn : r ^ 720 ≡ ⊖ i p
  quarter_turn = S.suits.quarter

  pub full_turn : r ^ 2880 ≡ 𝟙
  full_turn = S.suits.order.cycle

  square : (x : Value p) → x ^ 2 ≡ x ⊗ x
  unfolding pow
  square x = ring field_ring (x ∷ []) (search quote depth 40 fits 9999) refl

  pub half_turn : r ^ 1440 ≡ ⊖ 𝟙
  half_turn = pow_mul field_ring r 720 2 ∙ square _ ∙ ap (λ y. y ⊗ y) quarter_turn ∙ step (i p) field_star.i_square
    where
      step : (x : Value p) → x ⊗ x ≡ ⊖ 𝟙 → (⊖ x) ⊗ (⊖ x) ≡ ⊖ 𝟙
      step x h = linear field_ring h 𝟙 (ring field_ring (x ∷ []) (search quote depth 40 fits 9999) refl)

  opposite : ⊖ part p 2 ⊗ (r ^ 1440 ⊕ ⊖ 𝟙) ≡ 𝟙
  opposite = ap (λ y. ⊖ part p 2 ⊗ (y ⊕ ⊖ 𝟙)) half_turn ∙ step (part p 2) half_law
    where
      step : (h : Value p) → h ⊗ (𝟙 ⊕ 𝟙) ≡ 𝟙 → ⊖ h ⊗ (⊖ 𝟙 ⊕ ⊖ 𝟙) ≡ 𝟙
      step h e = linear field_ring e 𝟙 (ring field_ring (h ∷ []) (search quote depth 40 fits 9999) refl)

  -- w - 1 has an inverse, for a value w of the unit circle that is not 1 and whose n-th power is 1
  module _ (w : Value p) (n k : ℕ) (e : n * k ≡ 2880) (unit : w ⊗ conj p w ≡ 𝟙) (cycle : w ^ n ≡ 𝟙) (other : w ≡ 𝟙 → ⊥) where
    abbrev t : Res p
    t = 𝟏 ⊞ 𝟏 ⊞ ⊟ (w.0 ⊞ w.0)

    norm_is : (conj p w ⊕ ⊖ 𝟙) ⊗ (w ⊕ ⊖ 𝟙) ≡ (t, 𝟎)
    norm_is = norm field_ring w (conj p w) unit ∙ norm_real res_ring w

    vanishes : t.val ≡ 0 → (t, 𝟎) ≡ 𝟘
    unfolding gauss residues
    vanishes z = value_path (sym (residue_val p t) ∙ ap (residue p) z) refl

    inverted : (u : Res p) → u ⊠ t ≡ 𝟏 → ◌⊗◌ (u, 𝟎) (t, 𝟎) ≡ 𝟙
    unfolding gauss
    inverted u f = real_mul res_ring u t ∙ ap (λ x. (x, 𝟎)) f

    apart_from_one : (v : Value p) × (v ⊗ (w ⊕ ⊖ 𝟙) ≡ 𝟙)
    apart_from_one = go (ℕ_discrete t.val 0)
      where
        by : (u : Res p) × (u ⊠ t ≡ 𝟏) → (v : Value p) × (v ⊗ (w ⊕ ⊖ 𝟙) ≡ 𝟙)
        by (u, f) = (◌⊗◌ (u, 𝟎) (conj p w ⊕ ⊖ 𝟙), inverse_step field_ring (u, 𝟎) (w ⊕ ⊖ 𝟙) (conj p w ⊕ ⊖ 𝟙) (t, 𝟎) norm_is (inverted u f))

        go : Dec (t.val ≡ 0) → (v : Value p) × (v ⊗ (w ⊕ ⊖ 𝟙) ≡ 𝟙)
        go (yes z) = absurd (other (near_one field_ring w (conj p w) (part p n) n unit cycle (part_law n k e) (norm_is ∙ vanishes z)))
        go (no z) = by (inverse_of_lem S.is_prime t z)

  on_circle : (k : ℕ) → r ^ k ⊗ conj p (r ^ k) ≡ 𝟙
  on_circle k = ap (λ y. r ^ k ⊗ y) (conj_pow field_ring field_star r k) ∙ pow_unit field_ring r (conj p r) circle k

  third : (v : Value p) × (v ⊗ (r ^ 960 ⊕ ⊖ 𝟙) ≡ 𝟙)
  third = apart_from_one (r ^ 960) 3 960 refl (on_circle 960) (sym (pow_mul field_ring r 960 3) ∙ full_turn) (λ e. never (S.suits.order.only 960 e))
    where
      never : ◌≡◌ {A = ℕ} (960 % 2880) 0 → ⊥
      never h = omega arith

  fifth : (v : Value p) × (v ⊗ (r ^ 576 ⊕ ⊖ 𝟙) ≡ 𝟙)
  fifth = apart_from_one (r ^ 576) 5 576 refl (on_circle 576) (sym (pow_mul field_ring r 576 5) ∙ full_turn) (λ e. never (S.suits.order.only 576 e))
    where
      never : ◌≡◌ {A = ℕ} (576 % 2880) 0 → ⊥
      never h = omega arith

  -- r, its inverse, 1/2,880, and an inverse of r^k - 1 for 0 < k < 2,880
  pub root_of_unity : Root (field p) 2880 r (conj p r) (part p 2880)
  root_of_unity = root_2880 field_ring r (conj p r) (part p 2880) _ _ _ circle full_turn (part_law 2880 1 refl) opposite third.1 fifth.1

  pub conj_power : (k : ℕ) → k ≤ 2880 → conj p (r ^ k) ≡ r ^ (2880 - k)
  conj_power k h = RootOrder.conj_power field_ring field_star 2880 r _ root_of_unity k h
