-- Alternating lines in lanes, after the forward transform: the coefficients of each place, and what its numbers stand for.
use mathlib.Core.Path.{◌≡◌, refl, sym, ◌∙◌, ap, ap₂, subst}
use mathlib.Core.Bool.{Bool}
use mathlib.Core.Logic.{◌≢◌, ⊎_elim}
use mathlib.Core.List.{List, [], ◌∷◌}
use Prim.Native.Nat.{ℕ, zero, suc, ◌+◌, ◌*◌, ◌<◌, ◌≤◌}
use native.Mathlib.Omega.{arith}
use lib.ListN.{get_or, length}
use Rattle.algebra.specs.lines.Kinds.{re}
use Rattle.algebra.specs.lines.Folds.{finish3}
use Rattle.algebra.proofs.ring.Solver.{ring, quote}
use Rattle.algebra.proofs.ring.ResidueRing.{residue_add}
use Rattle.numbers.specs.declared.Pair.{Pair}
use Rattle.numbers.specs.Value.{prime, Value, Residue, field, i, real, value_of, on_values}
use Rattle.numbers.specs.Value as Value
use Rattle.numbers.specs.Bounds.{res}
use Rattle.numbers.proofs.Residues.{res_ring}
use Rattle.numbers.proofs.Parts.{re_value, im_value}
use Rattle.numbers.proofs.RealValues.{real_add, real_mul, parts_value}
use Rattle.numbers.proofs.Values.{value_path}
use Rattle.slices.proofs.Pairs.{eq_or_ne}
use Rattle.fold_formulas.specs.FoldFormulas.{tangent}
use Rattle.cell.specs.Volume.{over_i}
use Rattle.batches.specs.Lanes.{lane_at, UpTo, Good}
use Rattle.batches.proofs.LaneLists.{lane_low}
use Rattle.batches.proofs.PassingLanes.{up_of}
use Rattle.folded_batches.specs.AlternatingLanes.{Filled, first_pair, FirstPut, cotangent, cosecant, Angled, FinishedLanes}
use Rattle.folded_batches.proofs.AlternatingTurning.{cot_is, csc_is}

module _ (m : ℕ) where
  open Value.ring m use {add as ◌⊞◌, mul as ◌⊠◌, zer as 𝟎, one as 𝟏}

  infixl 65 ◌⊞◌
  infixl 70 ◌⊠◌
  module _ (A : ℕ) (tan : List ℕ) where
    -- ---- what a place becomes is what the fold makes of it

    abbrev angled_value : ℕ → Value m → Value m
    angled_value s z = (z.0 ⊞ z.1 ⊠ cotangent m A tan s, z.1 ⊠ cosecant m A tan s)

    finish_rest : (s : ℕ) (y : ℕ → Value m) (o : Value m) → angled_value (suc s) (y (suc s)) ≡ on_values m finish3 A (tangent m A tan) y o (suc s)
    unfolding finish3
    finish_rest s y o =
        sym (parts_value m _ _)
        ∙ ap₂ (λ x w. (field m).add x ((field m).mul (i m) w))
        (real_add m _ _ ∙ ap₂ (field m).add (sym (re_value m (y (suc s)))) (real_mul m _ _ ∙ ap₂ (field m).mul (sym (im_value m (y (suc s)))) (cot_is m A tan s)))
        (real_mul m _ _ ∙ ap₂ (field m).mul (sym (im_value m (y (suc s)))) (csc_is m A tan s))

    module _ (odd before : List ℕ) (v : ℕ) where
      finish_first : (y : ℕ → Value m) → y 0 ≡ value_of m (lane_at before 0 v)
          → angled_value 0 (value_of m (first_pair odd before v)) ≡ on_values m finish3 A (tangent m A tan) y (real m (res m (get_or odd v 0))) 0
      unfolding finish3 first_pair value_of cotangent cosecant
      finish_first y e =
          value_path
          (none (res m ((lane_at before 0 v).re + get_or odd v 0)) (res m (get_or odd v 0)) ∙ residue_add (prime m) (lane_at before 0 v).re (get_or odd v 0))
          (one (res m (get_or odd v 0)))
          ∙ sym (parts_value m _ _)
          ∙ ap (λ x. (field m).add x ((field m).mul (i m) (real m (res m (get_or odd v 0)))))
          (real_add m _ _ ∙ ap (λ x. (field m).add x (real m (res m (get_or odd v 0)))) (sym (re_value m (value_of m (lane_at before 0 v))) ∙ ap (on_values m re) (sym e)))
        where
          none : (x y : Residue m) → x ⊞ y ⊠ 𝟎 ≡ x
          none x y = ring (res_ring m) (x ∷ y ∷ []) (search quote depth 40 fits 9999) refl

          one : (x : Residue m) → x ⊠ 𝟏 ≡ x
          one x = ring (res_ring m) (x ∷ []) (search quote depth 40 fits 9999) refl

    module _ {b : Bool} {odd before d after : List ℕ} (first : FirstPut odd before d) (turned : Filled (Angled m 0 b A tan d) A after) (long : length after ≡ length d) where
      pub finished_by : FinishedLanes m b A tan odd before after
      finished_by = record { long = long ∙ first.long; is = λ v s lv ls y e. place v lv s ls y e }
        where
          place : (v : ℕ) → v < 16 → (s : ℕ) → s < A → (y : ℕ → Value m) → y s ≡ value_of m (lane_at before s v)
              → Good m (2 * prime m) (lane_at after s v) (over_i m b (on_values m finish3 A (tangent m A tan) y (real m (res m (get_or odd v 0))) s))
          place v lv zero ls y e = subst (Good m (2 * prime m) (lane_at after 0 v))
              (ap (over_i m b) (ap (λ x. angled_value 0 (value_of m x)) (first.new v lv) ∙ finish_first odd before v y e)) (turned.each 0 v ls lv)
          place v lv (suc s) ls y e = subst (Good m (2 * prime m) (lane_at after (suc s) v))
              (ap (over_i m b) (ap (λ x. angled_value (suc s) (value_of m x)) (first.kept (suc s) v lv (λ q. omega arith)) ∙ ap (angled_value (suc s)) (sym e) ∙ finish_rest s y (real m (res m (get_or odd v 0)))))
              (turned.each (suc s) v ls lv)

-- ---- the numbers stay low

pub first_up : (A : ℕ) {odd before after : List ℕ} → length before ≡ 32 * A → UpTo 500000000 before → ((v : ℕ) → v < 16 → get_or odd v 0 ≤ 500000000) → FirstPut odd before after → UpTo 1073741823 after
unfolding first_pair
first_up A {odd} {before} {after} long up low h = up_of (h.long ∙ long) (λ v j lv lj. ⊎_elim
    (λ (e : j ≡ 0). subst (λ k. ((lane_at after k v).re ≤ 1073741823) × ((lane_at after k v).im ≤ 1073741823)) (sym e)
    (subst (λ (x : Pair). (x.re ≤ 1073741823) × (x.im ≤ 1073741823)) (sym (h.new v lv)) (omega (arith, low v lv, (lane_low up 0 v).0), omega (arith, low v lv))))
    (λ (other : j ≢ 0). subst (λ (x : Pair). (x.re ≤ 1073741823) × (x.im ≤ 1073741823)) (sym (h.kept j v lv other)) (omega (arith, (lane_low up j v).0), omega (arith, (lane_low up j v).1)))
    (eq_or_ne j 0))
