-- What the formulas compute are the outer sums.
use mathlib.Core.Path.{◌≡◌, refl, sym, ◌∙◌, ap}
use mathlib.Core.List.{List}
use Prim.Native.Nat.{ℕ, ◌*◌}
use lib.Dec.{lit<}
use Rattle.algebra.specs.ring.Ring.{pow}
use Rattle.algebra.proofs.ring.Laws.{pow_add, mul_one, neg_one_mul}
use Rattle.algebra.proofs.fourier.Transform.{pow_zero, pow_suc, pow_mul, sign_even}
use Rattle.numbers.specs.declared.Pair.{Pair}
use Rattle.numbers.specs.Value.{Value, field, i, real, pair_of}
use Rattle.numbers.specs.Bounds.{res}
use Rattle.roots.specs.Table.{entry_at, table_root, RootTable}
use Rattle.numbers.proofs.Values.{field_ring}
use Rattle.butterflies.specs.Equation3.{outer}
use Rattle.butterflies.specs.Butterflies.{Butterfly, even_part, odd_part}
use Rattle.butterflies.proofs.Cases.{below_2, below_3, below_4, below_5}
use Rattle.butterflies.proofs.OuterSums.{outer_powers, two_0, two_1, three_0, three_1, three_2, four_0, four_1, four_2, four_3, five_0, five_1, five_2, five_3, five_4}
use Rattle.butterflies.proofs.quarter_turn.Powers.{half_turn, power_parts, mate_parts}

module _ (m : ℕ) where
  open field m use {add as ◌⊕◌, mul as ◌⊗◌, neg as ⊖◌, one as 𝟙}

  infixl 65 ◌⊕◌
  infixl 70 ◌⊗◌
  infix 75 ⊖◌
  pow_one : (w : Value m) → pow (field m) w 1 ≡ w
  pow_one w = pow_suc (field_ring m) w 0 ∙ ap ((field m).mul w) (pow_zero (field_ring m) w) ∙ mul_one (field_ring m) w

  -- ---- radix 2

  module _ (W : Value m) (half : pow (field m) W 1440 ≡ ⊖ 𝟙) (X : ℕ → Value m) (y : ℕ → Pair) where
    two_cycle : pow (field m) (pow (field m) W 1440) 2 ≡ 𝟙
    two_cycle = ap (λ y. pow (field m) y 2) half ∙ sign_even (field_ring m) 1

    pub two_butterfly : y 0 ≡ pair_of (X 0 ⊕ X 1) → y 1 ≡ pair_of (X 0 ⊕ ⊖ X 1) → Butterfly m W 2 X y
    two_butterfly e0 e1 = record {
      sums = below_2 (λ c. y c ≡ pair_of (outer (field m) W 2 X c))
          (e0 ∙ ap pair_of (sym (outer_powers (field_ring m) W 2 X 0 two_cycle ∙ two_0 (field_ring m) P X p0 p1)))
          (e1 ∙ ap pair_of (sym (outer_powers (field_ring m) W 2 X 1 two_cycle ∙ two_1 (field_ring m) P X p0 p1)));
    }
      where
        P : ℕ → Value m
        P = pow (field m) (pow (field m) W 1440)

        p0 : P 0 ≡ 𝟙
        p0 = pow_zero (field_ring m) (pow (field m) W 1440)

        p1 : P 1 ≡ ⊖ 𝟙
        p1 = pow_one (pow (field m) W 1440) ∙ half

  module _ {re im : List ℕ} (h : RootTable m re im) (X : ℕ → Value m) (y : ℕ → Pair) where
    abbrev W : Value m
    W = table_root m re im

    -- a power of a power
    powers : (a b : ℕ) → pow (field m) (pow (field m) W a) b ≡ pow (field m) W (a * b)
    powers a b = sym (pow_mul (field_ring m) W a b)

    -- ---- radix 3

    module _ {w : Pair} (e : w ≡ entry_at re im 960) where
      abbrev even_3 : Value m
      even_3 = X 0 ⊕ real m (res m w.re) ⊗ (X 1 ⊕ X 2)

      abbrev odd_3 : Value m
      odd_3 = real m (res m w.im) ⊗ (i m ⊗ (X 1 ⊕ ⊖ X 2))

      pub three_butterfly : y 0 ≡ pair_of (X 0 ⊕ (X 1 ⊕ X 2)) → y 1 ≡ pair_of (even_3 ⊕ odd_3) → y 2 ≡ pair_of (even_3 ⊕ ⊖ odd_3) → Butterfly m W 3 X y
      three_butterfly e0 e1 e2 = record {
        sums = below_3 (λ c. y c ≡ pair_of (outer (field m) W 3 X c))
            (e0 ∙ ap pair_of (sym (outer_powers (field_ring m) W 3 X 0 cycle ∙ three_0 (field_ring m) P X p0 _ _ _ p1 p2)))
            (e1 ∙ ap pair_of (sym (outer_powers (field_ring m) W 3 X 1 cycle ∙ three_1 (field_ring m) P X p0 _ _ _ p1 p2)))
            (e2 ∙ ap pair_of (sym (outer_powers (field_ring m) W 3 X 2 cycle ∙ three_2 (field_ring m) P X p0 _ _ _ p1 p2)));
      }
        where
          P : ℕ → Value m
          P = pow (field m) (pow (field m) W 960)

          cycle : P 3 ≡ 𝟙
          cycle = powers 960 3 ∙ h.cycle

          p0 : P 0 ≡ 𝟙
          p0 = pow_zero (field_ring m) (pow (field m) W 960)

          p1 : P 1 ≡ real m (res m w.re) ⊕ i m ⊗ real m (res m w.im)
          p1 = pow_one (pow (field m) W 960) ∙ power_parts h (lit< tt) e

          p2 : P 2 ≡ real m (res m w.re) ⊕ ⊖ (i m ⊗ real m (res m w.im))
          p2 = powers 960 2 ∙ mate_parts h (lit< tt) e 1920 refl

    -- ---- radix 4

    abbrev quarter_4 : Value m
    quarter_4 = pow (field m) W 720 ⊗ (X 1 ⊕ ⊖ X 3)

    pub four_butterfly : y 0 ≡ pair_of ((X 0 ⊕ X 2) ⊕ (X 1 ⊕ X 3)) → y 1 ≡ pair_of ((X 0 ⊕ ⊖ X 2) ⊕ quarter_4)
        → y 2 ≡ pair_of ((X 0 ⊕ X 2) ⊕ ⊖ (X 1 ⊕ X 3)) → y 3 ≡ pair_of ((X 0 ⊕ ⊖ X 2) ⊕ ⊖ quarter_4) → Butterfly m W 4 X y
    four_butterfly e0 e1 e2 e3 = record {
      sums = below_4 (λ c. y c ≡ pair_of (outer (field m) W 4 X c))
          (e0 ∙ ap pair_of (sym (outer_powers (field_ring m) W 4 X 0 cycle ∙ four_0 (field_ring m) P X p0 _ p1 p2 p3)))
          (e1 ∙ ap pair_of (sym (outer_powers (field_ring m) W 4 X 1 cycle ∙ four_1 (field_ring m) P X p0 _ p1 p2 p3)))
          (e2 ∙ ap pair_of (sym (outer_powers (field_ring m) W 4 X 2 cycle ∙ four_2 (field_ring m) P X p0 _ p1 p2 p3)))
          (e3 ∙ ap pair_of (sym (outer_powers (field_ring m) W 4 X 3 cycle ∙ four_3 (field_ring m) P X p0 _ p1 p2 p3)));
    }
      where
        P : ℕ → Value m
        P = pow (field m) (pow (field m) W 720)

        cycle : P 4 ≡ 𝟙
        cycle = powers 720 4 ∙ h.cycle

        p0 : P 0 ≡ 𝟙
        p0 = pow_zero (field_ring m) (pow (field m) W 720)

        p1 : P 1 ≡ pow (field m) W 720
        p1 = pow_one (pow (field m) W 720)

        p2 : P 2 ≡ ⊖ 𝟙
        p2 = powers 720 2 ∙ half_turn h

        p3 : P 3 ≡ ⊖ pow (field m) W 720
        p3 = powers 720 3 ∙ pow_add (field_ring m) W 1440 720 ∙ ap (λ y. y ⊗ pow (field m) W 720) (half_turn h) ∙ neg_one_mul (field_ring m) (pow (field m) W 720)

    -- ---- radix 5

    module _ {w z : Pair} (e : w ≡ entry_at re im 576) (f : z ≡ entry_at re im 1152) where
      abbrev near : Value m
      near = even_part m w z (X 0) (X 1) (X 2) (X 3) (X 4)

      abbrev far : Value m
      far = even_part m z w (X 0) (X 1) (X 3) (X 2) (X 4)

      abbrev near_odd : Value m
      near_odd = odd_part m w z (X 1) (X 2) (X 3) (X 4)

      abbrev far_odd : Value m
      far_odd = odd_part m z w (X 1) (X 3) (X 2) (X 4)

      pub five_butterfly : y 0 ≡ pair_of (X 0 ⊕ (X 1 ⊕ X 4) ⊕ (X 2 ⊕ X 3)) → y 1 ≡ pair_of (near ⊕ near_odd) → y 2 ≡ pair_of (far ⊕ far_odd)
          → y 3 ≡ pair_of (far ⊕ ⊖ far_odd) → y 4 ≡ pair_of (near ⊕ ⊖ near_odd) → Butterfly m W 5 X y
      unfolding even_part odd_part
      five_butterfly e0 e1 e2 e3 e4 = record {
        sums = below_5 (λ c. y c ≡ pair_of (outer (field m) W 5 X c))
            (e0 ∙ ap pair_of (sym (outer_powers (field_ring m) W 5 X 0 cycle ∙ five_0 (field_ring m) P X p0 _ _ _ _ _ p1 p2 p3 p4)))
            (e1 ∙ ap pair_of (sym (outer_powers (field_ring m) W 5 X 1 cycle ∙ five_1 (field_ring m) P X p0 _ _ _ _ _ p1 p2 p3 p4)))
            (e2 ∙ ap pair_of (sym (outer_powers (field_ring m) W 5 X 2 cycle ∙ five_2 (field_ring m) P X p0 _ _ _ _ _ p1 p2 p3 p4)))
            (e3 ∙ ap pair_of (sym (outer_powers (field_ring m) W 5 X 3 cycle ∙ five_3 (field_ring m) P X p0 _ _ _ _ _ p1 p2 p3 p4)))
            (e4 ∙ ap pair_of (sym (outer_powers (field_ring m) W 5 X 4 cycle ∙ five_4 (field_ring m) P X p0 _ _ _ _ _ p1 p2 p3 p4)));
      }
        where
          P : ℕ → Value m
          P = pow (field m) (pow (field m) W 576)

          cycle : P 5 ≡ 𝟙
          cycle = powers 576 5 ∙ h.cycle

          p0 : P 0 ≡ 𝟙
          p0 = pow_zero (field_ring m) (pow (field m) W 576)

          p1 : P 1 ≡ real m (res m w.re) ⊕ i m ⊗ real m (res m w.im)
          p1 = pow_one (pow (field m) W 576) ∙ power_parts h (lit< tt) e

          p2 : P 2 ≡ real m (res m z.re) ⊕ i m ⊗ real m (res m z.im)
          p2 = powers 576 2 ∙ power_parts h (lit< tt) f

          p3 : P 3 ≡ real m (res m z.re) ⊕ ⊖ (i m ⊗ real m (res m z.im))
          p3 = powers 576 3 ∙ mate_parts h (lit< tt) f 1728 refl

          p4 : P 4 ≡ real m (res m w.re) ⊕ ⊖ (i m ⊗ real m (res m w.im))
          p4 = powers 576 4 ∙ mate_parts h (lit< tt) e 2304 refl
