-- Before the transform: the short lines and the sums of the odd places, from the places 0 .. A of each lane.
use mathlib.Core.Path.{◌≡◌, refl, sym, ◌∙◌, ap, ap₂}
use mathlib.Core.Logic.{◌⊎◌, ⊎_elim}
use mathlib.Core.List.{List, [], ◌∷◌}
use Prim.Native.Nat.{ℕ, ◌+◌, ◌*◌, ◌-◌, ◌<◌, ◌≤◌}
use native.Mathlib.Nat.{mul-le-mul_left}
use native.Mathlib.Numerals.{add-one}
use native.Mathlib.Omega.{arith}
use lib.ListN.{get_or, length, replicate, length-replicate, get_or-replicate, get_or-eq_default}
use Rattle.algebra.specs.ring.Ring.{sum}
use Rattle.algebra.specs.lines.Folds.{mirror_point}
use Rattle.algebra.proofs.ring.Laws.{along}
use Rattle.algebra.proofs.ring.Solver.{ring, quote}
use Rattle.numbers.specs.declared.Pair.{Pair}
use Rattle.numbers.specs.Value.{prime, IsModulus, Value, field, value, value_of}
use Rattle.numbers.proofs.Primes.{prime_most}
use Rattle.numbers.proofs.Values.{pair_path, value_add, field_ring}
use Rattle.slices.proofs.Pairs.{lt_or_ge}
use Rattle.batches.specs.Lanes.{lane_at, UpTo}
use Rattle.batches.proofs.LaneLists.{lane_is}
use Rattle.batches.proofs.VolumeLanes.{numbers_lane}
use Rattle.batches.proofs.DrivingLanes.{up_as}
use Rattle.fold_formulas.specs.FoldFormulas.{sigma}
use Rattle.folded_batches.specs.MirrorLanes.{Numbers, Raised, BlockOf, WholeLines, OddSums}
use Rattle.folded_batches.proofs.MirrorBlocks.{good_as, good_up, zero_value, sum_good, minus_good}

module _ (m : ℕ) where
  open field m use {add as ◌⊕◌, mul as ◌⊗◌, neg as ⊖◌, one as 𝟙}

  infixl 65 ◌⊕◌
  infixl 70 ◌⊗◌
  infix 75 ⊖◌
  pub sigma_even : {first : ℕ} (z : Value m) → first ≡ 0 → sigma (field m) first ⊗ z ≡ z
  sigma_even z e = ap (λ f. sigma (field m) f ⊗ z) e ∙ (field_ring m).one_mul z

  pub sigma_odd : {first : ℕ} (z : Value m) → first ≡ 1 → sigma (field m) first ⊗ z ≡ ⊖ z
  sigma_odd z e = ap (λ f. sigma (field m) f ⊗ z) e ∙ ring (field_ring m) (z ∷ []) (search quote depth 40 fits 9999) refl

  spread : (s x y : Value m) → s ⊗ (x ⊕ y) ≡ s ⊗ x ⊕ s ⊗ y
  spread s x y = ring (field_ring m) (s ∷ x ∷ y ∷ []) (search quote depth 40 fits 9999) refl

  module _ {A first : ℕ} {line : List ℕ} {X : (v j : ℕ) → Value m} (h : WholeLines m A first line X) where
    abbrev place : (j v : ℕ) → Value m
    place j v = value_of m (lane_at line j v)

    -- both places as they are
    point_near : (v t : ℕ) → v < 16 → 2 * t + 1 ≤ A → place (2 * t) v ⊕ place (2 * t + 1) v ≡ mirror_point (field m) (X v) t
    unfolding mirror_point
    point_near v t lv l = ap₂ ◌⊕◌ (h.near v (2 * t) lv (omega arith)) (h.near v (2 * t + 1) lv l)

    image : (v j k : ℕ) → v < 16 → 0 < j → j ≤ A → k + j ≡ 2 * A → sigma (field m) first ⊗ place j v ≡ X v k
    image v j k lv pos l e = ap (λ z. sigma (field m) first ⊗ z) (h.near v j lv l) ∙ sym (h.far v j lv pos l) ∙ along (X v) (2 * A - j) k (omega arith)

    -- both as mirror images
    point_far : (v t i : ℕ) → v < 16 → t < A → A < 2 * t + 1 → i ≡ 2 * (A - t) → sigma (field m) first ⊗ (place i v ⊕ place (i - 1) v) ≡ mirror_point (field m) (X v) t
    unfolding mirror_point
    point_far v t i lv lt l e =
        spread (sigma (field m) first) (place i v) (place (i - 1) v)
        ∙ ap₂ ◌⊕◌ (image v i (2 * t) lv (omega arith) (omega arith) (omega arith)) (image v (i - 1) (2 * t + 1) lv (omega arith) (omega arith) (omega arith))

    module _ (up : UpTo (prime m) line) (t : ℕ) {y : List ℕ} where
      pub short_near : 2 * t + 1 ≤ A → Numbers (λ u. get_or line (32 * (2 * t) + u) 0 + get_or line (32 * (2 * t + 1) + u) 0) 32 y → BlockOf m (8 * prime m) (λ v. mirror_point (field m) (X v) t) y
      short_near l n = record { long = n.long; each = λ v lv. good_up (omega arith) (good_as refl (point_near v t lv l) (sum_good m line (2 * t) (2 * t + 1) up n v lv)) }

      pub short_even : (i : ℕ) → t < A → A < 2 * t + 1 → i ≡ 2 * (A - t) → first ≡ 0 → Numbers (λ u. get_or line (32 * i + u) 0 + get_or line (32 * (i - 1) + u) 0) 32 y
          → BlockOf m (8 * prime m) (λ v. mirror_point (field m) (X v) t) y
      short_even i lt l e z n = record {
        long = n.long;
        each = λ v lv. good_up (omega arith) (good_as refl (sym (sigma_even (place i v ⊕ place (i - 1) v) z) ∙ point_far v t i lv lt l e) (sum_good m line i (i - 1) up n v lv));
      }

      pub short_odd : (i : ℕ) → t < A → A < 2 * t + 1 → i ≡ 2 * (A - t) → first ≡ 1 → Numbers (λ u. 2 * prime m - (get_or line (32 * i + u) 0 + get_or line (32 * (i - 1) + u) 0)) 32 y
          → BlockOf m (8 * prime m) (λ v. mirror_point (field m) (X v) t) y
      short_odd i lt l e z n = record {
        long = n.long;
        each = λ v lv. good_up (omega arith) (good_as refl (sym (sigma_odd (place i v ⊕ place (i - 1) v) z) ∙ point_far v t i lv lt l e) (minus_good m line i (i - 1) up n v lv));
      }

    -- an odd place of a symmetric line
    odd_value : (v t r : ℕ) → v < 16 → first ≡ 0 → r ≤ A → (2 * t + 1 ≡ r) ⊎ ((2 * t + 1 + r ≡ 2 * A) × (0 < r)) → place r v ≡ X v (2 * t + 1)
    odd_value v t r lv z l = ⊎_elim
        (λ (e : 2 * t + 1 ≡ r). h.near v r lv l ∙ along (X v) r (2 * t + 1) (omega arith))
        (λ (e : (2 * t + 1 + r ≡ 2 * A) × (0 < r)). sym (sigma_even (place r v) z) ∙ image v r (2 * t + 1) lv e.1 l e.0)

-- t odd places of each lane are added
pub record Summing (m A first : ℕ) (line : List ℕ) (t : ℕ) (odds : List ℕ) : Type 0 where
  pub long : length odds ≡ 32
  pub low : UpTo (prime m * t) odds
  pub is : (X : (v j : ℕ) → Value m) → WholeLines m A first line X → (v : ℕ) → v < 16 → value_of m (lane_at odds 0 v) ≡ sum (field m) t (λ t. X v (2 * t + 1))

zeros : (k : ℕ) → ◌≡◌ {A = ℕ} (get_or (replicate 32 0) k 0) 0
zeros k = ⊎_elim (get_or-replicate 32 k 0 0) (λ (l : 32 ≤ k). get_or-eq_default (replicate 32 0) 0 {n = k} (omega (arith, length-replicate {A = ℕ} 32 0))) (lt_or_ge k 32)

module _ {m A first : ℕ} {line : List ℕ} where
  pub summing_start : Summing m A first line 0 (replicate 32 0)
  unfolding sum lane_at value_of
  summing_start = record {
    long = length-replicate {A = ℕ} 32 0;
    low = record { each = λ k. omega (arith, zeros k) };
    is = λ X h v lv. ap₂ (value m) (zeros (32 * 0 + v)) (zeros (32 * 0 + v + 16)) ∙ zero_value m;
  }

  pub summing_next : {t r : ℕ} {odds after : List ℕ} → Summing m A first line t odds → UpTo (prime m) line → first ≡ 0 → r ≤ A → (2 * t + 1 ≡ r) ⊎ ((2 * t + 1 + r ≡ 2 * A) × (0 < r))
      → Raised (λ u. get_or line (32 * r + u) 0) 32 odds after → Summing m A first line (t + 1) after
  unfolding sum value_of
  summing_next {t} {r} {odds} {after} s up z l is n = record {
    long = n.long ∙ s.long;
    low = record {
      each = λ k. ⊎_elim
          (λ (lk : k < 32). omega (arith, n.new k lk, s.low.each k, up.each (32 * r + k)))
          (λ (ge : 32 ≤ k). omega (arith, n.kept k ge, s.low.each k))
          (lt_or_ge k 32);
    };
    is = λ X h v lv.
        ap (λ (x : Pair). value m x.re x.im) (sym (numbers_lane after v) ∙ pair_path (n.new v (omega arith)) (n.new (v + 16) (omega arith)))
        ∙ value_add m (get_or odds v 0) (get_or odds (v + 16) 0) (get_or line (32 * r + v) 0) (get_or line (32 * r + (v + 16)) 0)
        ∙ ap₂ (field m).add (ap (λ (x : Pair). value m x.re x.im) (numbers_lane odds v) ∙ s.is X h v lv) (lane_is m line r v refl refl ∙ odd_value m h v t r lv z l is)
        ∙ ap (λ n. sum (field m) n (λ t. X v (2 * t + 1))) (sym (add-one t));
  }

  pub summing_low : {t : ℕ} {odds : List ℕ} → IsModulus m → Summing m A first line t odds → t ≤ 1440 → UpTo 1073741823 odds
  summing_low {t} is s few = up_as s.low (omega (arith, mul-le-mul_left (prime m) few, prime_most is))

  -- antisymmetric lines
  pub no_sums : (first ≡ 0 → ⊥) → OddSums m A first line (replicate 32 0)
  no_sums other = record { long = length-replicate {A = ℕ} 32 0; low = record { each = λ k. omega (arith, zeros k) }; is = λ z. absurd (other z) }
