-- Alternating lines in lanes, before the transform: what the numbers of the passes stand for.
use mathlib.Core.Path.{◌≡◌, refl, sym, ◌∙◌, ap, ap₂, subst}
use mathlib.Core.Logic.{⊎_elim, ◌≢◌}
use mathlib.Core.List.{List, [], ◌∷◌}
use Prim.Native.Nat.{ℕ, suc, ◌+◌, ◌*◌, ◌-◌, ◌%◌, ◌<◌, ◌≤◌}
use native.Mathlib.Nat.{mul-le-mul}
use native.Mathlib.Numerals.{add-one}
use native.Mathlib.Omega.{arith}
use lib.ListN.{get_or, length}
use Rattle.algebra.specs.ring.Ring.{sum, gauss, residues}
use Rattle.algebra.specs.ring.Ring as Gauss
use Rattle.algebra.specs.lines.Kinds.{im, unit}
use Rattle.algebra.specs.lines.Packings.{unfold_b3}
use Rattle.algebra.specs.lines.Folds.{alternating_point}
use Rattle.algebra.proofs.ring.Laws.{along, neg_neg}
use Rattle.algebra.proofs.ring.Solver.{ring, quote}
use Rattle.algebra.proofs.ring.ResidueRing.{residue_add, residue_neg}
use Rattle.algebra.proofs.lines.Unfold.{unfold_zero, unfold_low, unfold_middle, read_even, read_odd}
use Rattle.algebra.proofs.fourier.Sums.{sum_cong}
use Rattle.numbers.specs.declared.Pair.{Pair}
use Rattle.numbers.specs.Value.{prime, IsModulus, Value, Residue, field, conj, i, real, half, value_of, pair_of, on_values}
use Rattle.numbers.specs.Value as Value
use Rattle.numbers.specs.Bounds.{res}
use Rattle.numbers.proofs.Primes.{prime_most}
use Rattle.numbers.proofs.Residues.{res_ring, res_val, val_small}
use Rattle.numbers.proofs.Parts.{re_value, im_value}
use Rattle.numbers.proofs.RealValues.{real_add}
use Rattle.numbers.proofs.Values.{value_path, field_ring, field_star, i_times, conj_real, small_pair}
use Rattle.slices.proofs.Pairs.{eq_or_ne, lt_or_ge}
use Rattle.fold_formulas.proofs.alternating.Middles.{unit_even, real_pair}
use Rattle.batches.specs.Lanes.{lane_at, UpTo}
use Rattle.batches.specs.Copying.{PutBlock}
use Rattle.batches.proofs.LaneLists.{lane_low}
use Rattle.folded_batches.proofs.AlternatingBlocks.{short_low, short_high, odd_low, odd_high}
use Rattle.folded_batches.specs.AlternatingLanes.{BlockOf, MiddleBlock, LaneIs, Unpacked, OddSums, low_pair, high_pair, odd_place, short_pair}

-- ---- sums and differences of residues

module _ (m : ℕ) where
  open Value.ring m use {add as ◌⊞◌, neg as ⊟◌}

  infixl 65 ◌⊞◌
  infix 75 ⊟◌
  res_sum : (x y : Residue m) → res m (x.val + y.val) ≡ x ⊞ y
  res_sum x y = residue_add (prime m) x.val y.val ∙ ap₂ ◌⊞◌ (res_val m x) (res_val m y)

  res_minus : (x : Residue m) → res m (prime m - x.val) ≡ ⊟ x
  res_minus x = residue_neg (prime m) x.val (val_small m x) ∙ ap ⊟◌ (res_val m x)

  res_less : (x y : Residue m) → res m (x.val + (prime m - y.val)) ≡ x ⊞ ⊟ y
  res_less x y = residue_add (prime m) x.val (prime m - y.val) ∙ ap₂ ◌⊞◌ (res_val m x) (res_minus y)

  pub low_value : (x y : Value m) → value_of m (low_pair (prime m) (pair_of x) (pair_of y)) ≡ (field m).add x ((field m).mul (i m) y)
  unfolding value_of pair_of gauss
  low_value x y = value_path (res_less x.0 y.1) (res_sum x.1 y.0) ∙ ap ((field m).add x) (sym (i_times m y))

  pub high_value : (x y : Value m) → value_of m (high_pair (prime m) (pair_of x) (pair_of y)) ≡ conj m ((field m).add x ((field m).mul (i m) y))
  unfolding value_of pair_of gauss Gauss.conj
  high_value x y =
      value_path (res_less x.0 y.1)
      (residue_add (prime m) (prime m - x.1.val) (prime m - y.0.val) ∙ ap₂ ◌⊞◌ (res_minus x.1) (res_minus y.0) ∙ ring (res_ring m) (x.1 ∷ y.0 ∷ []) (search quote depth 40 fits 9999) refl)
      ∙ ap (λ z. conj m ((field m).add x z)) (sym (i_times m y))

-- ---- the whole line from its places 0 .. A

module _ (m A : ℕ) (q : ℕ → Value m) where
  abbrev X : ℕ → Value m
  X = on_values m unfold_b3 A q

  -- the middle of an even half is real
  middle_real : A % 2 ≡ 0 → 0 < A → conj m (X A) ≡ X A
  middle_real e pos = ap (conj m) is ∙ conj_real m (q 0).1 ∙ sym is
    where
      is : X A ≡ real m (q 0).1
      is =
          unfold_middle A _ _ _ q pos
          ∙ ap₂ (field m).mul (unit_even (field m) (conj m) (i m) (real m (half m)) A A e) (im_value m (q 0))
          ∙ (field_ring m).one_mul _

  module _ (t : ℕ) (lt : t < A) (high : A < 2 * t + 1) where
    even_mate : X (2 * t) ≡ conj m (X (2 * (A - t)))
    even_mate = ⊎_elim at_middle beyond (eq_or_ne (2 * t) A)
      where
        at_middle : 2 * t ≡ A → X (2 * t) ≡ conj m (X (2 * (A - t)))
        at_middle e = ap X e ∙ sym (middle_real (omega arith) (omega arith)) ∙ along (λ k. conj m (X k)) A (2 * (A - t)) (omega arith)

        beyond : 2 * t ≢ A → X (2 * t) ≡ conj m (X (2 * (A - t)))
        beyond other =
            read_even (field_ring m) (conj m) (i m) (real m (half m)) A q t (A - t) (omega (arith, other)) (omega arith)
            ∙ ap (conj m) (sym (unfold_low A _ _ _ q (2 * (A - t)) (omega arith) (omega (arith, other))))

    pub odd_mate : X (2 * t + 1) ≡ (field m).neg (conj m (X (2 * (A - t) - 1)))
    odd_mate =
        read_odd (field_ring m) (conj m) (i m) (real m (half m)) A q t (A - suc t) high (omega arith)
        ∙ along (λ k. (field m).neg (conj m (q k))) (2 * (A - suc t) + 1) (2 * (A - t) - 1) (omega arith)
        ∙ ap (λ z. (field m).neg (conj m z)) (sym (unfold_low A _ _ _ q (2 * (A - t) - 1) (omega arith) (omega arith)))

    -- both mates together
    high_point : conj m ((field m).add (X (2 * (A - t))) ((field m).mul (i m) (X (2 * (A - t) - 1)))) ≡ alternating_point (field m) (i m) X t
    unfolding alternating_point
    high_point =
        (field_star m).conj_add _ _
        ∙ ap ((field m).add (conj m (X (2 * (A - t))))) ((field_star m).conj_mul _ _ ∙ ap (λ z. (field m).mul z (conj m (X (2 * (A - t) - 1)))) (field_star m).conj_i ∙ turn (i m) (conj m (X (2 * (A - t) - 1))))
        ∙ sym (ap₂ (λ x y. (field m).add x ((field m).mul (i m) y)) even_mate odd_mate)
      where
        turn : (a b : Value m) → (field m).mul ((field m).neg a) b ≡ (field m).mul a ((field m).neg b)
        turn a b = ring (field_ring m) (a ∷ b ∷ []) (search quote depth 40 fits 9999) refl

  module _ {line : List ℕ} {v : ℕ} (h : LaneIs m (A + 1) line v (on_values m unfold_b3 A q)) where
    -- a place of the short line
    pub short_value : (t : ℕ) → t < A → value_of m (short_pair (prime m) A line t v) ≡ alternating_point (field m) (i m) (on_values m unfold_b3 A q) t
    unfolding alternating_point
    short_value t lt = ⊎_elim high low (lt_or_ge A (2 * t + 1))
      where
        low : 2 * t + 1 ≤ A → value_of m (short_pair (prime m) A line t v) ≡ alternating_point (field m) (i m) X t
        low l =
            ap (value_of m) (sym (short_low (prime m) A line t v l))
            ∙ ap₂ (λ x y. value_of m (low_pair (prime m) x y)) (h.each (2 * t) (omega arith)) (h.each (2 * t + 1) (omega arith))
            ∙ low_value m (X (2 * t)) (X (2 * t + 1))

        high : A < 2 * t + 1 → value_of m (short_pair (prime m) A line t v) ≡ alternating_point (field m) (i m) X t
        high l =
            ap (value_of m) (sym (short_high (prime m) A line t v l))
            ∙ ap₂ (λ x y. value_of m (high_pair (prime m) x y)) (h.each (2 * (A - t)) (omega arith)) (h.each (2 * (A - t) - 1) (omega arith))
            ∙ high_value m (X (2 * (A - t))) (X (2 * (A - t) - 1))
            ∙ high_point t lt l

    -- the imaginary part at an odd place
    odd_part : (t : ℕ) → t < A → real m (res m (lane_at line (odd_place A t) v).im) ≡ on_values m im (on_values m unfold_b3 A q (2 * t + 1))
    unfolding pair_of gauss Gauss.conj
    odd_part t lt = ⊎_elim high low (lt_or_ge A (2 * t + 1))
      where
        part : (j : ℕ) → j ≤ A → real m (res m (lane_at line j v).im) ≡ real m (X j).1
        part j l = ap (λ (x : Pair). real m (res m x.im)) (h.each j (omega arith)) ∙ ap (real m) (res_val m (X j).1)

        low : 2 * t + 1 ≤ A → real m (res m (lane_at line (odd_place A t) v).im) ≡ on_values m im (X (2 * t + 1))
        low l = ap (λ j. real m (res m (lane_at line j v).im)) (sym (odd_low A t l)) ∙ part (2 * t + 1) l ∙ sym (im_value m (X (2 * t + 1)))

        high : A < 2 * t + 1 → real m (res m (lane_at line (odd_place A t) v).im) ≡ on_values m im (X (2 * t + 1))
        high l =
            ap (λ j. real m (res m (lane_at line j v).im)) (sym (odd_high A t l))
            ∙ part (2 * (A - t) - 1) (omega arith)
            ∙ ap (real m) (sym (neg_neg (res_ring m) (X (2 * (A - t) - 1)).1) ∙ sym (ap (λ (z : Value m). z.1) (odd_mate t lt l)))
            ∙ sym (im_value m (X (2 * t + 1)))

    pub odd_value : {y : List ℕ} → v < 16 → OddSums m A line A y → real m (res m (get_or y v 0)) ≡ sum (field m) A (λ t. on_values m im (on_values m unfold_b3 A q (2 * t + 1)))
    odd_value lv s = s.is v lv ∙ sum_cong (field_ring m) A _ _ odd_part

-- ---- the sums at the odd places, one after the other

module _ {m A : ℕ} {line : List ℕ} where
  pub odd_start : {y : List ℕ} → length y ≡ 32 → ((v : ℕ) → v < 16 → get_or y v 0 ≡ 0) → OddSums m A line 0 y
  unfolding sum gauss residues
  odd_start long e = record { long = long; low = λ v lv. omega (arith, e v lv); is = λ v lv. ap (λ n. real m (res m n)) (e v lv) }

  pub odd_next : {t j : ℕ} {y z : List ℕ} → OddSums m A line t y → j ≡ odd_place A t → UpTo (prime m) line → length z ≡ 32
      → ((v : ℕ) → v < 16 → get_or z v 0 ≡ get_or y v 0 + (lane_at line j v).im) → OddSums m A line (t + 1) z
  unfolding sum
  odd_next {t} {j} {y} h place up long e = record {
    long = long;
    low = λ v lv. omega (arith, e v lv, h.low v lv, (lane_low up j v).1);
    is = λ v lv.
        ap (λ n. real m (res m n)) (e v lv)
        ∙ ap (real m) (residue_add (prime m) (get_or y v 0) (lane_at line j v).im)
        ∙ real_add m _ _
        ∙ ap₂ (field m).add (h.is v lv) (ap (λ k. real m (res m (lane_at line k v).im)) place)
        ∙ ap (λ n. sum (field m) n (λ t. real m (res m (lane_at line (odd_place A t) v).im))) (sym (add-one t));
  }

  pub odd_room : {t : ℕ} {y : List ℕ} → IsModulus m → OddSums m A line t y → t ≤ 1440 → (v : ℕ) → v < 16 → get_or y v 0 ≤ 1073741823
  odd_room {t} is h l v lv = omega (arith, h.low v lv, mul-le-mul l (prime_most is))

-- ---- pair 0 taken apart

module _ {A : ℕ} {line d e y z : List ℕ} (pos : 0 < A) (middles : MiddleBlock A line 16 y) (far : PutBlock y 0 A line d)
    (firsts : BlockOf (λ v. record { re = (lane_at d 0 v).re; im = 0 }) 16 z) (near : PutBlock z 0 0 d e) where
  pub unpacked_by : Unpacked A line e
  unfolding pair_of
  unpacked_by = record { long = near.long ∙ far.long; is = λ m v lv q h. record { each = λ j lj. place m v lv q h j lj } }
    where
      place : (m v : ℕ) → v < 16 → (q : ℕ → Value m) → LaneIs m A line v q → (j : ℕ) → j < A + 1 → lane_at e j v ≡ pair_of (on_values m unfold_b3 A q j)
      place m v lv q h j lj = ⊎_elim
          (λ (n : j ≡ 0). subst (λ k. lane_at e k v ≡ pair_of (on_values m unfold_b3 A q k)) (sym n)
          (near.new v lv ∙ firsts.each v lv
          ∙ ap (λ (x : Pair). record { re = x.re; im = 0 }) (far.kept 0 v lv (λ q. omega arith) ∙ h.each 0 pos)
          ∙ real_pair m _ (q 0).0.val (val_small m (q 0).0) (unfold_zero A _ _ _ q ∙ re_value m (q 0) ∙ ap (real m) (sym (res_val m (q 0).0)))))
          (λ (n : j ≢ 0). near.kept j v lv n ∙ ⊎_elim
          (λ (f : j ≡ A). subst (λ k. lane_at d k v ≡ pair_of (on_values m unfold_b3 A q k)) (sym f)
          (far.new v lv ∙ middles.each v lv m (subst (λ (x : Pair). x.im < prime m) (sym (h.each 0 pos)) (small_pair m (q 0)).im)
          ∙ ap (λ (x : Pair). pair_of ((field m).mul (on_values m unit A A) (real m (res m x.im)))) (h.each 0 pos)
          ∙ ap (λ x. pair_of ((field m).mul (on_values m unit A A) (real m x))) (res_val m (q 0).1)
          ∙ sym (ap pair_of (unfold_middle A _ _ _ q pos ∙ ap ((field m).mul (on_values m unit A A)) (im_value m (q 0))))))
          (λ (o : j ≢ A). far.kept j v lv o ∙ h.each j (below j lj o) ∙ sym (ap pair_of (unfold_low A _ _ _ q j (positive j n) (below j lj o))))
          (eq_or_ne j A))
          (eq_or_ne j 0)
        where
          below : (j : ℕ) → j < A + 1 → j ≢ A → j < A
          below j l other = omega (arith, other)

          positive : (j : ℕ) → j ≢ 0 → 0 < j
          positive j other = omega (arith, other)
