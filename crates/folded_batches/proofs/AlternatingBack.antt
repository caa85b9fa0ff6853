-- Alternating lines in lanes, the way back: the blocks, and what their numbers stand for.
use mathlib.Core.Path.{◌≡◌, refl, sym, ◌∙◌, ap, ap₂, subst}
use mathlib.Core.Bool.{Bool, cond}
use mathlib.Core.Logic.{◌≢◌, ⊎_elim}
use mathlib.Core.List.{List, [], ◌∷◌}
use Prim.Native.Nat.{ℕ, zero, suc, ◌+◌, ◌*◌, ◌-◌, ◌/◌, ◌%◌, ◌<◌, ◌≤◌}
use native.Mathlib.Omega.{arith}
use borrow.Author.Tests.{eq-eqb, ne_eqb}
use lib.ListN.{get_or}
use Rattle.algebra.specs.ring.Ring.{gauss}
use Rattle.algebra.specs.ring.Ring as Gauss
use Rattle.algebra.specs.lines.Kinds.{re, im}
use Rattle.algebra.specs.lines.Folds.{mate, csc, cot, alternating_spectrum, twice_M}
use Rattle.algebra.proofs.ring.Laws.{along}
use Rattle.algebra.proofs.ring.Solver.{ring, quote}
use Rattle.algebra.proofs.ring.ResidueRing.{residue_add}
use Rattle.numbers.specs.declared.Pair.{Pair}
use Rattle.numbers.specs.Value.{prime, Value, Residue, field, conj, i, real, half, value_of, on_values}
use Rattle.numbers.specs.Value as Value
use Rattle.numbers.specs.Bounds.{res}
use Rattle.numbers.proofs.Residues.{res_ring}
use Rattle.numbers.proofs.Parts.{re_value, im_value}
use Rattle.numbers.proofs.RealValues.{real_add, real_neg, real_mul, parts_value}
use Rattle.numbers.proofs.Values.{value_path, field_ring, i_times, value_by}
use Rattle.slices.proofs.Pairs.{eq_or_ne}
use Rattle.fold_formulas.specs.FoldFormulas.{tangent}
use Rattle.cell.specs.Volume.{times_i}
use Rattle.batches.specs.Reduction.{Zero}
use Rattle.batches.specs.Lanes.{lane_at}
use Rattle.batches.specs.Copying.{PutBlock}
use Rattle.batches.proofs.Meaning.{apart_value}
use Rattle.folded_batches.specs.AlternatingLanes.{BlockOf, Filled, LaneIs, cotangent, cosecant, together_by, Angled, twice_pair, FirstTaken, even_pair, odd_pair, whole_pair, end_place, EndPacked}
use Rattle.folded_batches.proofs.AlternatingBlocks.{first_re}
use Rattle.folded_batches.proofs.AlternatingTurning.{zero_res, cot_is, csc_is}

-- ---- the blocks

module _ (o A : ℕ) (twice fold : List ℕ) (j v : ℕ) where
  pub whole_even : {k : ℕ} → k ≡ mate A ((j + 1) / 2) → j % 2 ≡ 0 → even_pair o (lane_at fold (j / 2) v) (lane_at fold k v) ≡ whole_pair o A twice fold j v
  unfolding whole_pair
  whole_even e h =
      ap (λ k. even_pair o (lane_at fold (j / 2) v) (lane_at fold k v)) e
      ∙ sym (ap (λ b. cond b (even_pair o (lane_at fold (j / 2) v) (lane_at fold (mate A ((j + 1) / 2)) v)) (odd_pair o (get_or twice v 0) (lane_at fold (j / 2) v) (lane_at fold (mate A ((j + 1) / 2)) v))) (eq-eqb (j % 2) 0 h))

  pub whole_odd : {k : ℕ} → k ≡ mate A ((j + 1) / 2) → (j % 2 ≡ 0 → ⊥) → odd_pair o (get_or twice v 0) (lane_at fold (j / 2) v) (lane_at fold k v) ≡ whole_pair o A twice fold j v
  unfolding whole_pair
  whole_odd e h =
      ap (λ k. odd_pair o (get_or twice v 0) (lane_at fold (j / 2) v) (lane_at fold k v)) e
      ∙ sym (ap (λ b. cond b (even_pair o (lane_at fold (j / 2) v) (lane_at fold (mate A ((j + 1) / 2)) v)) (odd_pair o (get_or twice v 0) (lane_at fold (j / 2) v) (lane_at fold (mate A ((j + 1) / 2)) v))) (ne_eqb (j % 2) 0 h))

module _ (A : ℕ) where
  pub end_even : A % 2 ≡ 0 → 32 * A ≡ end_place A
  unfolding end_place
  end_even h = sym (ap (λ b. cond b (32 * A) (32 * A + 16)) (eq-eqb (A % 2) 0 h))

  pub end_odd : (A % 2 ≡ 0 → ⊥) → 32 * A + 16 ≡ end_place A
  unfolding end_place
  end_odd h = sym (ap (λ b. cond b (32 * A) (32 * A + 16)) (ne_eqb (A % 2) 0 h))

  pub end_inside : end_place A + 16 ≤ 32 * (A + 1)
  end_inside = ⊎_elim (λ (e : A % 2 ≡ 0). omega (arith, end_even e)) (λ (e : A % 2 ≢ 0). omega (arith, end_odd e)) (eq_or_ne (A % 2) 0)

pub twice_at : (fold : List ℕ) {o p : ℕ} {y : List ℕ} → o ≡ p → BlockOf (twice_pair o fold) 16 y → BlockOf (twice_pair p fold) 16 y
twice_at fold {y = y} e h = subst (λ o. BlockOf (twice_pair o fold) 16 y) e h

pub packed_by : {A first : ℕ} {line y line' : List ℕ} → first ≡ end_place A → BlockOf (λ v. record { re = (lane_at line 0 v).re; im = get_or line (first + v) 0 }) 16 y → PutBlock y 0 0 line line' → EndPacked A line line'
packed_by {A} {first} {line} e h put = record {
  long = put.long;
  new = λ v lv. put.new v lv ∙ h.each v lv ∙ ap (λ k. record { re = (lane_at line 0 v).re; im = get_or line (k + v) 0 }) e;
  kept = put.kept;
}

-- ---- sums and differences: o stands for 0

module _ (m : ℕ) where
  open Value.ring m use {add as ◌⊞◌, mul as ◌⊠◌, neg as ⊟◌, zer as 𝟎, one as 𝟏}

  infixl 65 ◌⊞◌
  infixl 70 ◌⊠◌
  infix 75 ⊟◌
  pub multiple : (k : ℕ) → Zero m (k * prime m)
  multiple k = record { times = k; is = omega arith }

  module _ {o : ℕ} (none : Zero m o) where
    res_apart : (a n : ℕ) → n ≤ o → res m (a + (o - n)) ≡ res m a ⊞ ⊟ res m n
    unfolding gauss
    res_apart a n l = ap (λ (z : Value m). z.0) (apart_value m none a a n n l l)

    res_taken : (n : ℕ) → n ≤ o → res m (o - n) ≡ ⊟ res m n
    res_taken n l = along (res m) (o - n) (0 + (o - n)) (omega arith) ∙ res_apart 0 n l ∙ ap (λ x. x ⊞ ⊟ res m n) (zero_res m) ∙ ring (res_ring m) (res m n ∷ []) (search quote depth 40 fits 9999) refl

    pub even_value : (x y : Pair) → y.im ≤ o → value_of m (even_pair o x y) ≡ (field m).add (value_of m x) (conj m (value_of m y))
    unfolding value_of gauss Gauss.conj
    even_value x y l = value_path (residue_add (prime m) x.re y.re) (res_apart x.im y.im l)

    pub odd_value : (t : ℕ) (x y : Pair) → x.re ≤ o → y.re ≤ o → y.im ≤ o
        → value_of m (odd_pair o t x y) ≡ (field m).mul (i m) ((field m).add (real m (res m t)) ((field m).neg ((field m).add (value_of m x) (conj m (value_of m y)))))
    unfolding value_of gauss Gauss.conj
    odd_value t x y lx ly li =
        value_path
        (res_apart x.im y.im li ∙ turn (res m x.im ⊞ ⊟ res m y.im) ∙ ap (λ z. ⊟ (z ⊞ ⊟ (res m x.im ⊞ ⊟ res m y.im))) (sym (zero_res m)))
        (residue_add (prime m) t ((o - x.re) + (o - y.re)) ∙ ap (λ z. res m t ⊞ z) (residue_add (prime m) (o - x.re) (o - y.re) ∙ ap₂ ◌⊞◌ (res_taken x.re lx) (res_taken y.re ly))
        ∙ ring (res_ring m) (res m t ∷ res m x.re ∷ res m y.re ∷ []) (search quote depth 40 fits 9999) refl)
        ∙ sym (i_times m _)
      where
        turn : (x : Residue m) → x ≡ ⊟ (𝟎 ⊞ ⊟ x)
        turn x = ring (res_ring m) (x ∷ []) (search quote depth 40 fits 9999) refl

  -- ---- the short line of the way back

  module _ (A : ℕ) (tan : List ℕ) where
    abbrev tau : ℕ → Value m
    tau s = (field m).neg (tangent m A tan s)

    -- the opposite half tangents give the opposite cotangent and cosecant
    opposite_angle : (s : ℕ) (u v : Value m)
        → (field m).neg ((field m).add ((field m).mul u (cot (field m) (real m (half m)) A (tangent m A tan) s)) ((field m).mul v (csc (field m) (real m (half m)) A (tangent m A tan) s)))
        ≡ (field m).add ((field m).mul u (cot (field m) (real m (half m)) A tau s)) ((field m).mul v (csc (field m) (real m (half m)) A tau s))
    unfolding cot csc
    opposite_angle s u v = turned (real m (half m)) (tangent m A tan (A - s)) (tangent m A tan s) u v
      where
        turned : (h far near u v : Value m)
            → (field m).neg ((field m).add ((field m).mul u ((field m).mul h ((field m).add far ((field m).neg near)))) ((field m).mul v ((field m).mul h ((field m).add near far))))
            ≡ (field m).add ((field m).mul u ((field m).mul h ((field m).add ((field m).neg far) ((field m).neg ((field m).neg near))))) ((field m).mul v ((field m).mul h ((field m).add ((field m).neg near) ((field m).neg far))))
        turned h far near u v = ring (field_ring m) (h ∷ far ∷ near ∷ u ∷ v ∷ []) (search quote depth 40 fits 9999) refl

    together_is : (s : ℕ) (p : ℕ → Value m) → together_by m A tan (suc s) (p (suc s)) ≡ on_values m alternating_spectrum A tau p (suc s)
    unfolding alternating_spectrum
    together_is s p =
        sym (parts_value m _ _)
        ∙ ap₂ (λ x w. (field m).add x ((field m).mul (i m) w))
        (sym (re_value m (p (suc s))))
        (real_neg m _ ∙ ap (field m).neg
        (real_add m _ _ ∙ ap₂ (field m).add
        (real_mul m _ _ ∙ ap₂ (field m).mul (sym (re_value m (p (suc s)))) (cot_is m A tan s))
        (real_mul m _ _ ∙ ap₂ (field m).mul (sym (im_value m (p (suc s)))) (csc_is m A tan s)))
        ∙ opposite_angle (suc s) _ _)

    -- E(0) + b(0) of E(0) - i b(0)
    first_difference : (x : Pair) (z : Value m) → value_of m x ≡ together_by m A tan 0 z → res m x.re ⊞ ⊟ res m x.im ≡ z.0 ⊞ z.1
    unfolding value_of cotangent cosecant
    first_difference x z e = ap₂ (λ a b. a ⊞ ⊟ b) (ap (λ (y : Value m). y.0) e) (ap (λ (y : Value m). y.1) e) ∙ ring (res_ring m) (z.0 ∷ z.1 ∷ []) (search quote depth 40 fits 9999) refl

    module _ (b : Bool) {before fold fold' twice : List ℕ} (turned : Filled (Angled m 1 b A tan before) A fold) (taken : FirstTaken m fold fold' twice)
        (v : ℕ) (lv : v < 16) (q : ℕ → Value m) (is : LaneIs m A before v q) where
      abbrev p : ℕ → Value m
      p s = times_i m b (q s)

      place_is : (s : ℕ) → s < A → value_of m (lane_at fold s v) ≡ together_by m A tan s (p s)
      place_is s ls = (turned.each s v ls lv).is ∙ ap (λ z. together_by m A tan s (times_i m b z)) (value_by m (q s) (is.each s ls))

      pub spectrum_value : (s : ℕ) → s < A → value_of m (lane_at fold' s v) ≡ on_values m alternating_spectrum A tau p s
      unfolding alternating_spectrum value_of
      spectrum_value zero ls = ap (value_of m) (taken.new v lv) ∙ ap (λ (z : Value m). real m z.0) (place_is 0 ls) ∙ sym (re_value m (p 0))
      spectrum_value (suc s) ls = ap (value_of m) (taken.kept (suc s) v lv (λ e. omega arith)) ∙ place_is (suc s) ls ∙ together_is s p

      pub twice_value : 0 < A → real m (res m (get_or twice v 0)) ≡ on_values m twice_M A p
      unfolding twice_M twice_pair
      twice_value pos = ap (λ n. real m (res m n)) (first_re twice v ∙ ap (λ (x : Pair). x.re) (taken.kept_twice.each v lv)) ∙ ap (real m) (residue_add (prime m) once once) ∙ real_add m _ _ ∙ ap₂ (field m).add single single
        where
          once : ℕ
          once = (lane_at fold 0 v).re + (2 * prime m - (lane_at fold 0 v).im)

          single : real m (res m once) ≡ (field m).add (on_values m re (p 0)) (on_values m im (p 0))
          single = ap (real m) (res_apart (multiple 2) (lane_at fold 0 v).re (lane_at fold 0 v).im (turned.each 0 v pos lv).im ∙ first_difference (lane_at fold 0 v) (p 0) (place_is 0 pos)) ∙ real_add m _ _ ∙ ap₂ (field m).add (sym (re_value m (p 0))) (sym (im_value m (p 0)))
