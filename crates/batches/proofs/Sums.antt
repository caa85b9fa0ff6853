-- The sums of a lane are the outer sums of its values, and stay small.
use mathlib.Core.Path.{◌≡◌, refl, sym, ◌∙◌, ap, ap₂}
use mathlib.Core.Bool.{Bool, true, false, cond}
use mathlib.Core.List.{List, [], ◌∷◌}
use Prim.Native.Nat.{ℕ, ◌+◌, ◌*◌, ◌-◌, ◌<◌, ◌≤◌}
use native.Mathlib.Omega.{arith}
use lib.Dec.{lit<}
use Rattle.algebra.specs.ring.Ring.{pow}
use Rattle.algebra.proofs.ring.Solver.{ring, quote}
use Rattle.numbers.specs.declared.Pair.{Pair}
use Rattle.numbers.specs.Value.{prime, Value, Residue, field, i, value, real, value_of, pair_of}
use Rattle.numbers.specs.Value as Value
use Rattle.numbers.specs.Bounds.{res}
use Rattle.numbers.proofs.RealValues.{real_neg}
use Rattle.numbers.proofs.Values.{value_pair, value_add, field_ring}
use Rattle.roots.specs.Table.{entry_at, table_root, RootTable}
use Rattle.butterflies.specs.Equation3.{outer}
use Rattle.butterflies.specs.Butterflies.{Butterfly, even_part, odd_part}
use Rattle.butterflies.proofs.Butterflies.{two_butterfly, three_butterfly, four_butterfly, five_butterfly}
use Rattle.butterflies.proofs.Cases.{below_2, below_3, below_4, below_5}
use Rattle.butterflies.proofs.quarter_turn.Powers.{half_turn, quarter_is, quarter_other}
use Rattle.batches.specs.declared.lane.Factor.{Factor}
use Rattle.batches.specs.declared.lane.Three.{Three}
use Rattle.batches.specs.declared.lane.Four.{Four}
use Rattle.batches.specs.declared.lane.Five.{Five}
use Rattle.batches.specs.Reduction.{Shifted, Zero}
use Rattle.batches.specs.Formulas.{ThreeOf, FourOf, FiveOf}
use Rattle.batches.specs.Lanes.{Good, two_pairs, three_pairs, four_pairs, five_pairs}
use Rattle.batches.proofs.Meaning.{apart_value, times_i_value, scaled_value, weighed_value}

pub eight : {m o : ℕ} → o ≡ 8 * prime m → Zero m o
eight {m} e = record { times = 8; is = omega (arith, e) }

double : {m o : ℕ} → Zero m o → Zero m (o + o)
double {m} z = record { times = z.times + z.times; is = omega (arith, z.is) }

module _ {m : ℕ} {re im : List ℕ} (h : RootTable m re im) (U : ℕ → Value m) {o : ℕ} (eights : o ≡ 8 * prime m) where
  open field m use {add as ◌⊕◌, mul as ◌⊗◌, neg as ⊖◌}

  infixl 65 ◌⊕◌
  infixl 70 ◌⊗◌
  infix 75 ⊖◌
  abbrev W : Value m
  W = table_root m re im

  none : Zero m o
  none = eight eights

  by_sums : {B : ℕ} (f : ℕ → Pair) → Butterfly m W B U (λ c. pair_of (value_of m (f c))) → (c : ℕ) → c < B → value_of m (f c) ≡ outer (field m) W B U c
  by_sums {B} f b c l = sym (value_pair m (value_of m (f c))) ∙ ap (value_of m) (b.sums c l) ∙ value_pair m (outer (field m) W B U c)

  -- ---- radix 2

  module _ (r0 s0 r1 s1 : ℕ) (v0 : value m r0 s0 ≡ U 0) (v1 : value m r1 s1 ≡ U 1) (lr : r1 ≤ o) (ls : s1 ≤ o) where
    two_values : (c : ℕ) → c < 2 → value_of m (two_pairs o r0 s0 r1 s1 c) ≡ outer (field m) W 2 U c
    unfolding value_of
    two_values = by_sums (two_pairs o r0 s0 r1 s1) (two_butterfly m W (half_turn h) U (λ c. pair_of (value_of m (two_pairs o r0 s0 r1 s1 c)))
        (ap pair_of (value_add m r0 s0 r1 s1 ∙ ap₂ ◌⊕◌ v0 v1))
        (ap pair_of (apart_value m none r0 s0 r1 s1 lr ls ∙ ap₂ (λ x y. x ⊕ ⊖ y) v0 v1)))

    pub two_good : {X : ℕ} → r0 ≤ X → s0 ≤ X → (c : ℕ) → c < 2 → Good m (X + 32 * prime m) (two_pairs o r0 s0 r1 s1 c) (outer (field m) W 2 U c)
    two_good {X} hr hs = below_2 (λ c. Good m (X + 32 * prime m) (two_pairs o r0 s0 r1 s1 c) (outer (field m) W 2 U c))
        (record { re = omega arith; im = omega arith; is = two_values 0 (lit< tt) })
        (record { re = omega arith; im = omega arith; is = two_values 1 (lit< tt) })

  -- ---- radix 4: the quarter turn

  pub quarter_value : {w : Pair} (up : Bool) (r1 s1 r3 s3 : ℕ) {g k : ℕ} → w ≡ entry_at re im 720 → (up ≡ true → w.im ≡ 1) → (up ≡ false → w.im ≡ 1 → ⊥)
      → r1 ≤ o → s1 ≤ o → r3 ≤ o → s3 ≤ o → g ≡ cond up (s3 + (o - s1)) (s1 + (o - s3)) → k ≡ cond up (r1 + (o - r3)) (r3 + (o - r1))
      → value m g k ≡ pow (field m) W 720 ⊗ (value m r1 s1 ⊕ ⊖ value m r3 s3)
  quarter_value {w} true r1 s1 r3 s3 e is isnt l1 l2 l3 l4 eg ek =
      ap₂ (value m) eg ek ∙ times_i_value m none r1 s1 r3 s3 l2 l3 ∙ ap (λ z. z ⊗ (value m r1 s1 ⊕ ⊖ value m r3 s3)) (sym (quarter_is h e (is refl)))
  quarter_value {w} false r1 s1 r3 s3 e is isnt l1 l2 l3 l4 eg ek =
      ap₂ (value m) eg ek ∙ times_i_value m none r3 s3 r1 s1 l4 l1 ∙ turned (value m r1 s1) (value m r3 s3) ∙ ap (λ z. z ⊗ (value m r1 s1 ⊕ ⊖ value m r3 s3)) (sym (quarter_other h e (isnt refl)))
    where
      turned : (x y : Value m) → i m ⊗ (y ⊕ ⊖ x) ≡ ⊖ i m ⊗ (x ⊕ ⊖ y)
      turned x y = ring (field_ring m) (i m ∷ x ∷ y ∷ []) (search quote depth 40 fits 9999) refl

  module _ {r0 s0 r1 s1 r2 s2 r3 s3 g k : ℕ} {p q : Four} (hp : FourOf o r0 r1 r2 r3 g p) (hq : FourOf o s0 s1 s2 s3 k q)
      (v0 : value m r0 s0 ≡ U 0) (v1 : value m r1 s1 ≡ U 1) (v2 : value m r2 s2 ≡ U 2) (v3 : value m r3 s3 ≡ U 3)
      (turn : value m g k ≡ pow (field m) W 720 ⊗ (value m r1 s1 ⊕ ⊖ value m r3 s3))
      (l1 : r1 ≤ o) (k1 : s1 ≤ o) (l2 : r2 ≤ o) (k2 : s2 ≤ o) (l3 : r3 ≤ o) (k3 : s3 ≤ o) (lg : g ≤ o + o) (lk : k ≤ o + o) where
    sums_even : value m (r0 + r2) (s0 + s2) ≡ U 0 ⊕ U 2
    sums_even = value_add m r0 s0 r2 s2 ∙ ap₂ ◌⊕◌ v0 v2

    sums_odd : value m (r1 + r3) (s1 + s3) ≡ U 1 ⊕ U 3
    sums_odd = value_add m r1 s1 r3 s3 ∙ ap₂ ◌⊕◌ v1 v3

    sums_away : value m (r0 + (o - r2)) (s0 + (o - s2)) ≡ U 0 ⊕ ⊖ U 2
    sums_away = apart_value m none r0 s0 r2 s2 l2 k2 ∙ ap₂ (λ x y. x ⊕ ⊖ y) v0 v2

    sums_turn : value m g k ≡ pow (field m) W 720 ⊗ (U 1 ⊕ ⊖ U 3)
    sums_turn = turn ∙ ap₂ (λ x y. pow (field m) W 720 ⊗ (x ⊕ ⊖ y)) v1 v3

    four_values : (c : ℕ) → c < 4 → value_of m (four_pairs p q c) ≡ outer (field m) W 4 U c
    unfolding value_of
    four_values = by_sums (four_pairs p q) (four_butterfly m h U (λ c. pair_of (value_of m (four_pairs p q c)))
        (ap pair_of (ap₂ (value m) hp.x0 hq.x0 ∙ value_add m (r0 + r2) (s0 + s2) (r1 + r3) (s1 + s3) ∙ ap₂ ◌⊕◌ sums_even sums_odd))
        (ap pair_of (ap₂ (value m) hp.x1 hq.x1 ∙ value_add m (r0 + (o - r2)) (s0 + (o - s2)) g k ∙ ap₂ ◌⊕◌ sums_away sums_turn))
        (ap pair_of (ap₂ (value m) hp.x2 hq.x2 ∙ apart_value m (double none) (r0 + r2) (s0 + s2) (r1 + r3) (s1 + s3) (omega arith) (omega arith) ∙ ap₂ (λ x y. x ⊕ ⊖ y) sums_even sums_odd))
        (ap pair_of (ap₂ (value m) hp.x3 hq.x3 ∙ apart_value m (double none) (r0 + (o - r2)) (s0 + (o - s2)) g k lg lk ∙ ap₂ (λ x y. x ⊕ ⊖ y) sums_away sums_turn)))

    pub four_good : {X : ℕ} → r0 ≤ X → s0 ≤ X → (c : ℕ) → c < 4 → Good m (X + 32 * prime m) (four_pairs p q c) (outer (field m) W 4 U c)
    four_good {X} hr hs = below_4 (λ c. Good m (X + 32 * prime m) (four_pairs p q c) (outer (field m) W 4 U c))
        (record { re = omega (arith, hp.x0); im = omega (arith, hq.x0); is = four_values 0 (lit< tt) })
        (record { re = omega (arith, hp.x1); im = omega (arith, hq.x1); is = four_values 1 (lit< tt) })
        (record { re = omega (arith, hp.x2); im = omega (arith, hq.x2); is = four_values 2 (lit< tt) })
        (record { re = omega (arith, hp.x3); im = omega (arith, hq.x3); is = four_values 3 (lit< tt) })

  -- ---- radix 3

  module _ {z : Factor} {r0 s0 r1 s1 r2 s2 : ℕ} {p q : Three} (hp : ThreeOf m z o r0 r1 r2 (s2 + (o - s1)) p) (hq : ThreeOf m z o s0 s1 s2 (r1 + (o - r2)) q)
      (sh : Shifted m z (res m (entry_at re im 960).re, res m (entry_at re im 960).im))
      (v0 : value m r0 s0 ≡ U 0) (v1 : value m r1 s1 ≡ U 1) (v2 : value m r2 s2 ≡ U 2)
      (l1 : r1 ≤ o) (k1 : s1 ≤ o) (l2 : r2 ≤ o) (k2 : s2 ≤ o) where
    both_3 : value m (r1 + r2) (s1 + s2) ≡ U 1 ⊕ U 2
    both_3 = value_add m r1 s1 r2 s2 ∙ ap₂ ◌⊕◌ v1 v2

    even_3 : value m (r0 + hp.even) (s0 + hq.even) ≡ U 0 ⊕ real m (res m (entry_at re im 960).re) ⊗ (U 1 ⊕ U 2)
    even_3 = value_add m r0 s0 hp.even hq.even
        ∙ ap₂ ◌⊕◌ v0 (scaled_value m z.re (r1 + r2) (s1 + s2) hp.even_is hq.even_is sh.re ∙ ap (λ y. real m (res m (entry_at re im 960).re) ⊗ y) both_3)

    odd_3 : value m hp.odd hq.odd ≡ real m (res m (entry_at re im 960).im) ⊗ (i m ⊗ (U 1 ⊕ ⊖ U 2))
    odd_3 = scaled_value m z.im (s2 + (o - s1)) (r1 + (o - r2)) hp.odd_is hq.odd_is sh.im
        ∙ ap (λ y. real m (res m (entry_at re im 960).im) ⊗ y) (times_i_value m none r1 s1 r2 s2 k1 l2 ∙ ap₂ (λ x y. i m ⊗ (x ⊕ ⊖ y)) v1 v2)

    three_values : (c : ℕ) → c < 3 → value_of m (three_pairs p q c) ≡ outer (field m) W 3 U c
    unfolding value_of
    three_values = by_sums (three_pairs p q) (three_butterfly m h U (λ c. pair_of (value_of m (three_pairs p q c))) {w = entry_at re im 960} refl
        (ap pair_of (ap₂ (value m) hp.x0 hq.x0 ∙ value_add m r0 s0 (r1 + r2) (s1 + s2) ∙ ap₂ ◌⊕◌ v0 both_3))
        (ap pair_of (ap₂ (value m) hp.x1 hq.x1 ∙ value_add m (r0 + hp.even) (s0 + hq.even) hp.odd hq.odd ∙ ap₂ ◌⊕◌ even_3 odd_3))
        (ap pair_of (ap₂ (value m) hp.x2 hq.x2 ∙ apart_value m none (r0 + hp.even) (s0 + hq.even) hp.odd hq.odd (omega (arith, hp.odd_is.low)) (omega (arith, hq.odd_is.low)) ∙ ap₂ (λ x y. x ⊕ ⊖ y) even_3 odd_3)))

    pub three_good : {X : ℕ} → r0 ≤ X → s0 ≤ X → (c : ℕ) → c < 3 → Good m (X + 32 * prime m) (three_pairs p q c) (outer (field m) W 3 U c)
    three_good {X} hr hs = below_3 (λ c. Good m (X + 32 * prime m) (three_pairs p q c) (outer (field m) W 3 U c))
        (record { re = omega (arith, hp.x0); im = omega (arith, hq.x0); is = three_values 0 (lit< tt) })
        (record { re = omega (arith, hp.x1, hp.even_is.low, hp.odd_is.low); im = omega (arith, hq.x1, hq.even_is.low, hq.odd_is.low); is = three_values 1 (lit< tt) })
        (record { re = omega (arith, hp.x2, hp.even_is.low); im = omega (arith, hq.x2, hq.even_is.low); is = three_values 2 (lit< tt) })

  -- ---- radix 5

  module _ {w z : Factor} {r0 s0 r1 s1 r2 s2 r3 s3 r4 s4 : ℕ} {p q : Five}
      (hp : FiveOf m w z o r0 r1 r2 r3 r4 (s4 + (o - s1)) (s3 + (o - s2)) p) (hq : FiveOf m w z o s0 s1 s2 s3 s4 (r1 + (o - r4)) (r2 + (o - r3)) q)
      (sw : Shifted m w (res m (entry_at re im 576).re, res m (entry_at re im 576).im)) (sz : Shifted m z (res m (entry_at re im 1152).re, res m (entry_at re im 1152).im))
      (v0 : value m r0 s0 ≡ U 0) (v1 : value m r1 s1 ≡ U 1) (v2 : value m r2 s2 ≡ U 2) (v3 : value m r3 s3 ≡ U 3) (v4 : value m r4 s4 ≡ U 4)
      (l1 : r1 ≤ o) (k1 : s1 ≤ o) (l2 : r2 ≤ o) (k2 : s2 ≤ o) (l3 : r3 ≤ o) (k3 : s3 ≤ o) (l4 : r4 ≤ o) (k4 : s4 ≤ o) where
    abbrev w₀ : Pair
    w₀ = entry_at re im 576

    abbrev z₀ : Pair
    z₀ = entry_at re im 1152

    outer_both : value m (r1 + r4) (s1 + s4) ≡ U 1 ⊕ U 4
    outer_both = value_add m r1 s1 r4 s4 ∙ ap₂ ◌⊕◌ v1 v4

    inner_both : value m (r2 + r3) (s2 + s3) ≡ U 2 ⊕ U 3
    inner_both = value_add m r2 s2 r3 s3 ∙ ap₂ ◌⊕◌ v2 v3

    outer_turn : value m (s4 + (o - s1)) (r1 + (o - r4)) ≡ i m ⊗ (U 1 ⊕ ⊖ U 4)
    outer_turn = times_i_value m none r1 s1 r4 s4 k1 l4 ∙ ap₂ (λ x y. i m ⊗ (x ⊕ ⊖ y)) v1 v4

    inner_turn : value m (s3 + (o - s2)) (r2 + (o - r3)) ≡ i m ⊗ (U 2 ⊕ ⊖ U 3)
    inner_turn = times_i_value m none r2 s2 r3 s3 k2 l3 ∙ ap₂ (λ x y. i m ⊗ (x ⊕ ⊖ y)) v2 v3

    near_value : value m (r0 + hp.near) (s0 + hq.near) ≡ even_part m w₀ z₀ (U 0) (U 1) (U 2) (U 3) (U 4)
    unfolding even_part
    near_value = value_add m r0 s0 hp.near hq.near ∙ ap₂ ◌⊕◌ v0
        (weighed_value m w.re (r1 + r4) (s1 + s4) z.re (r2 + r3) (s2 + s3) hp.near_is hq.near_is sw.re sz.re
        ∙ ap₂ (λ x y. real m (res m w₀.re) ⊗ x ⊕ real m (res m z₀.re) ⊗ y) outer_both inner_both)

    far_value : value m (r0 + hp.far) (s0 + hq.far) ≡ even_part m z₀ w₀ (U 0) (U 1) (U 3) (U 2) (U 4)
    unfolding even_part
    far_value = value_add m r0 s0 hp.far hq.far ∙ ap₂ ◌⊕◌ v0
        (weighed_value m z.re (r1 + r4) (s1 + s4) w.re (r2 + r3) (s2 + s3) hp.far_is hq.far_is sz.re sw.re
        ∙ ap₂ (λ x y. real m (res m z₀.re) ⊗ x ⊕ real m (res m w₀.re) ⊗ y) outer_both (inner_both ∙ (field_ring m).add_comm (U 2) (U 3)))

    near_odd_value : value m hp.near_odd hq.near_odd ≡ odd_part m w₀ z₀ (U 1) (U 2) (U 3) (U 4)
    unfolding odd_part
    near_odd_value =
        weighed_value m w.im (s4 + (o - s1)) (r1 + (o - r4)) z.im (s3 + (o - s2)) (r2 + (o - r3)) hp.near_odd_is hq.near_odd_is sw.im sz.im
        ∙ ap₂ (λ x y. real m (res m w₀.im) ⊗ x ⊕ real m (res m z₀.im) ⊗ y) outer_turn inner_turn

    far_odd_value : value m hp.far_odd hq.far_odd ≡ odd_part m z₀ w₀ (U 1) (U 3) (U 2) (U 4)
    unfolding odd_part
    far_odd_value =
        weighed_value m z.im (s4 + (o - s1)) (r1 + (o - r4)) w.minus (s3 + (o - s2)) (r2 + (o - r3)) hp.far_odd_is hq.far_odd_is sz.im sw.minus
        ∙ ap₂ (λ x y. real m (res m z₀.im) ⊗ x ⊕ real m ((Value.ring m).neg (res m w₀.im)) ⊗ y) outer_turn inner_turn
        ∙ ap (λ y. real m (res m z₀.im) ⊗ (i m ⊗ (U 1 ⊕ ⊖ U 4)) ⊕ y ⊗ (i m ⊗ (U 2 ⊕ ⊖ U 3))) (real_neg m (res m w₀.im))
        ∙ ring (field_ring m) (real m (res m z₀.im) ∷ real m (res m w₀.im) ∷ i m ∷ U 1 ∷ U 2 ∷ U 3 ∷ U 4 ∷ []) (search quote depth 40 fits 9999) refl

    five_values : (c : ℕ) → c < 5 → value_of m (five_pairs p q c) ≡ outer (field m) W 5 U c
    unfolding value_of
    five_values = by_sums (five_pairs p q) (five_butterfly m h U (λ c. pair_of (value_of m (five_pairs p q c))) {w = w₀} {z = z₀} refl refl
        (ap pair_of (ap₂ (value m) hp.x0 hq.x0 ∙ value_add m (r0 + (r1 + r4)) (s0 + (s1 + s4)) (r2 + r3) (s2 + s3) ∙ ap₂ ◌⊕◌ (value_add m r0 s0 (r1 + r4) (s1 + s4) ∙ ap₂ ◌⊕◌ v0 outer_both) inner_both))
        (ap pair_of (ap₂ (value m) hp.x1 hq.x1 ∙ value_add m (r0 + hp.near) (s0 + hq.near) hp.near_odd hq.near_odd ∙ ap₂ ◌⊕◌ near_value near_odd_value))
        (ap pair_of (ap₂ (value m) hp.x2 hq.x2 ∙ value_add m (r0 + hp.far) (s0 + hq.far) hp.far_odd hq.far_odd ∙ ap₂ ◌⊕◌ far_value far_odd_value))
        (ap pair_of (ap₂ (value m) hp.x3 hq.x3 ∙ apart_value m none (r0 + hp.far) (s0 + hq.far) hp.far_odd hq.far_odd (omega (arith, hp.far_odd_is.low)) (omega (arith, hq.far_odd_is.low)) ∙ ap₂ (λ x y. x ⊕ ⊖ y) far_value far_odd_value))
        (ap pair_of (ap₂ (value m) hp.x4 hq.x4 ∙ apart_value m none (r0 + hp.near) (s0 + hq.near) hp.near_odd hq.near_odd (omega (arith, hp.near_odd_is.low)) (omega (arith, hq.near_odd_is.low)) ∙ ap₂ (λ x y. x ⊕ ⊖ y) near_value near_odd_value)))

    pub five_good : {X : ℕ} → r0 ≤ X → s0 ≤ X → (c : ℕ) → c < 5 → Good m (X + 32 * prime m) (five_pairs p q c) (outer (field m) W 5 U c)
    five_good {X} hr hs = below_5 (λ c. Good m (X + 32 * prime m) (five_pairs p q c) (outer (field m) W 5 U c))
        (record { re = omega (arith, hp.x0); im = omega (arith, hq.x0); is = five_values 0 (lit< tt) })
        (record { re = omega (arith, hp.x1, hp.near_is.low, hp.near_odd_is.low); im = omega (arith, hq.x1, hq.near_is.low, hq.near_odd_is.low); is = five_values 1 (lit< tt) })
        (record { re = omega (arith, hp.x2, hp.far_is.low, hp.far_odd_is.low); im = omega (arith, hq.x2, hq.far_is.low, hq.far_odd_is.low); is = five_values 2 (lit< tt) })
        (record { re = omega (arith, hp.x3, hp.far_is.low); im = omega (arith, hq.x3, hq.far_is.low); is = five_values 3 (lit< tt) })
        (record { re = omega (arith, hp.x4, hp.near_is.low); im = omega (arith, hq.x4, hq.near_is.low); is = five_values 4 (lit< tt) })
