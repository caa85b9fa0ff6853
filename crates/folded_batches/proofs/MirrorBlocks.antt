-- Blocks of 32 numbers: the loops that write them number by number, and what sums and differences of places stand for.
use mathlib.Core.Path.{◌≡◌, refl, sym, ◌∙◌, ap, ap₂, subst}
use mathlib.Core.Logic.{◌≢◌, ⊎_elim}
use mathlib.Core.List.{List, [], ◌∷◌}
use Prim.Native.Nat.{ℕ, ◌+◌, ◌*◌, ◌-◌, ◌<◌, ◌≤◌}
use native.Mathlib.Omega.{arith}
use lib.ListN.{get_or, length, replicate, length-replicate}
use Rattle.algebra.specs.ring.Ring.{gauss, residues}
use Rattle.algebra.proofs.ring.Solver.{ring, quote}
use Rattle.numbers.specs.declared.Pair.{Pair}
use Rattle.numbers.specs.Value.{prime, IsModulus, Value, field, value, value_of}
use Rattle.numbers.specs.Bounds.{zero_pair}
use Rattle.numbers.proofs.Primes.{prime_most}
use Rattle.numbers.proofs.Values.{pair_path, value_add, field_ring}
use Rattle.slices.specs.Segments.{segment, set_segment}
use Rattle.slices.proofs.Pairs.{eq_or_ne}
use Rattle.slices.proofs.Segments.{length_segment}
use Rattle.batches.specs.Reduction.{Zero}
use Rattle.batches.specs.Copying.{PutBlock}
use Rattle.batches.specs.Lanes.{lane_at, UpTo, Good}
use Rattle.batches.specs.Groups.{PutLanes}
use Rattle.batches.proofs.Meaning.{apart_value}
use Rattle.batches.proofs.LaneLists.{lane_is}
use Rattle.batches.proofs.DrivingLanes.{up_as}
use Rattle.batches.proofs.VolumeLanes.{numbers_lane}
use Rattle.folded_batches.specs.MirrorLanes.{Numbers, BlockOf, Places, twice}
use Rattle.folded_batches.proofs.MixedLanes.{block_part, zero_lane}

-- ---- number by number

below_other : {i n : ℕ} → i < n + 1 → i ≢ n → i < n
below_other l other = omega (arith, other)

-- zeros were written
pub cleared_place : {ys : List ℕ} (j : ℕ) (l : List ℕ) → ys ≡ replicate (length (segment (32 * j) (32 * j + 32) l)) 0 → 32 * j + 32 ≤ length l
    → PutLanes (λ v. zero_pair) j 16 l (set_segment (32 * j) (32 * j + 32) l ys)
cleared_place {ys} j l e fits = record { long = h.long; new = λ v lv. h.new v lv ∙ zero_lane v lv; kept = λ i v lv away. h.kept i v lv (λ q. omega (arith, away q)) }
  where
    long : length (segment (32 * j) (32 * j + 32) l) ≡ 32
    long = omega (arith, length_segment (32 * j) (32 * j + 32) l (omega arith) fits)

    h : PutBlock (replicate 32 0) 0 j l (set_segment (32 * j) (32 * j + 32) l ys)
    h = block_part j l (e ∙ ap (λ (n : ℕ). replicate n 0) long) fits (length-replicate {A = ℕ} 32 0)

-- numbers up to the prime may be added
pub low_numbers : {m : ℕ} {l : List ℕ} → IsModulus m → UpTo (prime m) l → UpTo 1073741823 l
low_numbers is up = up_as up (omega (arith, prime_most is))

-- ---- what a block stands for

pub lane_of : {f : ℕ → ℕ} {y : List ℕ} → Numbers f 32 y → (v : ℕ) → v < 16 → lane_at y 0 v ≡ record { re = f v; im = f (v + 16) }
lane_of {f} {y} h v lv = sym (numbers_lane y v) ∙ pair_path (h.is v (omega arith)) (h.is (v + 16) (omega arith))

pub good_as : {m X : ℕ} {x y : Pair} {z w : Value m} → x ≡ y → z ≡ w → Good m X y z → Good m X x w
good_as {m} {X} {x} {y} {z} {w} e f g = subst (Good m X x) f (subst (λ p. Good m X p z) (sym e) g)

pub good_up : {m X Y : ℕ} {x : Pair} {z : Value m} → X ≤ Y → Good m X x z → Good m Y x z
good_up l g = record { re = omega (arith, g.re); im = omega (arith, g.im); is = g.is }

module _ (m : ℕ) where
  open field m use {add as ◌⊕◌, mul as ◌⊗◌, neg as ⊖◌, zer as 𝟘}

  infixl 65 ◌⊕◌
  infixl 70 ◌⊗◌
  infix 75 ⊖◌
  pub zero_value : value m 0 0 ≡ 𝟘
  unfolding gauss residues
  zero_value = refl

  pub minus_value : {o : ℕ} → Zero m o → (u v : ℕ) → u ≤ o → v ≤ o → value m (o - u) (o - v) ≡ ⊖ value m u v
  minus_value {o} none u v lu lv =
      ap₂ (value m) (plus u) (plus v)
      ∙ apart_value m none 0 0 u v lu lv
      ∙ ap (λ x. x ⊕ ⊖ value m u v) zero_value
      ∙ ring (field_ring m) (value m u v ∷ []) (search quote depth 40 fits 9999) refl
    where
      plus : (n : ℕ) → o - n ≡ 0 + (o - n)
      plus n = omega arith

  -- the sum of two places
  pub sum_good : {X : ℕ} (l : List ℕ) (i j : ℕ) {y : List ℕ} → UpTo X l → Numbers (λ u. get_or l (32 * i + u) 0 + get_or l (32 * j + u) 0) 32 y → (v : ℕ) → v < 16
      → Good m (2 * X) (lane_at y 0 v) (value_of m (lane_at l i v) ⊕ value_of m (lane_at l j v))
  unfolding value_of
  sum_good {X} l i j up h v lv = good_as (lane_of h v lv)
      (value_add m (get_or l (32 * i + v) 0) (get_or l (32 * i + (v + 16)) 0) (get_or l (32 * j + v) 0) (get_or l (32 * j + (v + 16)) 0) ∙ ap₂ ◌⊕◌ (lane_is m l i v refl refl) (lane_is m l j v refl refl))
      (record {
        re = omega (arith, up.each (32 * i + v), up.each (32 * j + v));
        im = omega (arith, up.each (32 * i + (v + 16)), up.each (32 * j + (v + 16)));
        is = refl;
      })

  -- and its negative
  pub minus_good : (l : List ℕ) (i j : ℕ) {y : List ℕ} → UpTo (prime m) l → Numbers (λ u. 2 * prime m - (get_or l (32 * i + u) 0 + get_or l (32 * j + u) 0)) 32 y → (v : ℕ) → v < 16
      → Good m (2 * prime m) (lane_at y 0 v) (⊖ (value_of m (lane_at l i v) ⊕ value_of m (lane_at l j v)))
  unfolding value_of
  minus_good l i j up h v lv = good_as (lane_of h v lv)
      (minus_value (record { times = 2; is = omega arith }) (get_or l (32 * i + v) 0 + get_or l (32 * j + v) 0) (get_or l (32 * i + (v + 16)) 0 + get_or l (32 * j + (v + 16)) 0)
      (omega (arith, up.each (32 * i + v), up.each (32 * j + v))) (omega (arith, up.each (32 * i + (v + 16)), up.each (32 * j + (v + 16))))
      ∙ ap (λ x. ⊖ x) (value_add m (get_or l (32 * i + v) 0) (get_or l (32 * i + (v + 16)) 0) (get_or l (32 * j + v) 0) (get_or l (32 * j + (v + 16)) 0) ∙ ap₂ ◌⊕◌ (lane_is m l i v refl refl) (lane_is m l j v refl refl)))
      (record { re = omega arith; im = omega arith; is = refl })

  -- twice the first place less twice a block
  pub middle_good : (l o : List ℕ) {y : List ℕ} → prime m ≤ 302399 → UpTo (360 * prime m) l → UpTo (1440 * prime m) o → Numbers (λ u. 2 * (get_or l u 0 + (2880 * prime m - 2 * get_or o u 0))) 32 y → (v : ℕ) → v < 16
      → Good m 2147483647 (lane_at y 0 v) (twice m (value_of m (lane_at l 0 v) ⊕ ⊖ twice m (value_of m (lane_at o 0 v))))
  unfolding value_of
  middle_good l o most up low h v lv = good_as (lane_of h v lv)
      (ap₂ (value m) (doubled (get_or l v 0 + (2880 * prime m - 2 * get_or o v 0))) (doubled (get_or l (v + 16) 0 + (2880 * prime m - 2 * get_or o (v + 16) 0)))
      ∙ value_add m _ _ _ _
      ∙ ap (twice m) (apart_value m (record { times = 2880; is = omega arith }) (get_or l v 0) (get_or l (v + 16) 0) (2 * get_or o v 0) (2 * get_or o (v + 16) 0)
      (omega (arith, low.each v)) (omega (arith, low.each (v + 16)))
      ∙ ap₂ (λ x z. x ⊕ ⊖ z) (first_lane l) (ap₂ (value m) (doubled (get_or o v 0)) (doubled (get_or o (v + 16) 0)) ∙ value_add m _ _ _ _ ∙ ap (twice m) (first_lane o))))
      (record {
        re = omega (arith, up.each v);
        im = omega (arith, up.each (v + 16));
        is = refl;
      })
    where
      doubled : (n : ℕ) → 2 * n ≡ n + n
      doubled n = omega arith

      first_lane : (l : List ℕ) → value m (get_or l v 0) (get_or l (v + 16) 0) ≡ value m (lane_at l 0 v).re (lane_at l 0 v).im
      first_lane l = ap (λ (x : Pair). value m x.re x.im) (numbers_lane l v)

-- ---- blocks to their places

module _ {m X : ℕ} {F : (v j : ℕ) → Value m} {b : ℕ} where
  pub places_next : {t : ℕ} {d e y : List ℕ} → Places m X F b t d → BlockOf m X (λ v. F v t) y → PutBlock y 0 t d e → Places m X F b (t + 1) e
  places_next {t} {d} {e} {y} h k p = record {
    each = λ v j lv l lj. ⊎_elim
        (λ (q : j ≡ t). subst (λ n. Good m X (lane_at e n v) (F v n)) (sym q) (good_as (p.new v lv) refl (k.each v lv)))
        (λ (other : j ≢ t). good_as (p.kept j v lv other) refl (h.each v j lv l (below_other lj other)))
        (eq_or_ne j t);
  }

  pub places_as : {t n : ℕ} {d : List ℕ} → Places m X F b t d → t ≡ n → Places m X F b n d
  places_as {d = d} h e = subst (λ n. Places m X F b n d) e h
