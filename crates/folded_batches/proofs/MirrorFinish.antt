-- After the transform: twice the transform at the places 0 .. A of each lane, from its short transform, and the coefficients of the places between.
use mathlib.Core.Path.{◌≡◌, refl, sym, ◌∙◌, ap, ap₂, subst}
use mathlib.Core.List.{List, [], ◌∷◌}
use Prim.Native.Nat.{ℕ, ◌+◌, ◌*◌, ◌-◌, ◌<◌, ◌≤◌}
use native.Mathlib.Omega.{arith}
use lib.ListN.{get_or}
use Rattle.algebra.specs.ring.Ring.{Ops, gauss, residues, imag}
use Rattle.algebra.specs.ring.RingLaws.{CRing}
use Rattle.algebra.specs.lines.Folds.{mirror_value}
use Rattle.algebra.proofs.ring.Laws.{mul_neg}
use Rattle.algebra.proofs.ring.Solver.{ring, quote, linear}
use Rattle.algebra.proofs.ring.ResidueRing.{residue_neg}
use Rattle.numbers.specs.Value.{prime, IsModulus, Value, Residue, field, i, real, half, value_of}
use Rattle.numbers.specs.Value as Value
use Rattle.numbers.specs.Bounds.{res}
use Rattle.numbers.proofs.Primes.{prime_most}
use Rattle.numbers.proofs.Parts.{half_law}
use Rattle.numbers.proofs.Residues.{res_ring, res_by, below_by}
use Rattle.numbers.proofs.Values.{value_path, field_ring, i_times}
use Rattle.slices.specs.Pairs.{values_of}
use Rattle.slices.proofs.Values.{values_list}
use Rattle.batches.specs.Reduction.{Holds}
use Rattle.batches.specs.Lanes.{lane_at, line_in, UpTo}
use Rattle.batches.proofs.Meaning.{shift}
use Rattle.batches.proofs.LastReduction.{shift_holds}
use Rattle.fold_formulas.specs.FoldFormulas.{sigma, stride}
use Rattle.folds.specs.FoldedLines.{finished}
use Rattle.folds.proofs.mirror.after.Forms.{finish_zero, finish_middle, finish_between_lem}
use Rattle.folded_batches.specs.declared.mixing.Mix.{Mix}
use Rattle.folded_batches.specs.Mixing.{Mixed, Times}
use Rattle.folded_batches.specs.MirrorLanes.{Numbers, BlockOf, MirrorMix, twice, twice_finished}
use Rattle.folded_batches.proofs.MixedLanes.{mixed_good}
use Rattle.folded_batches.proofs.MirrorBlocks.{good_as, good_up, sum_good, middle_good}

-- ---- the formula of a place between the ends

module _ {R : Type 0} {𝓞 : Ops R} (𝓡 : CRing 𝓞) where
  open 𝓞 use {add as ◌⊕◌, mul as ◌⊗◌, neg as ⊖◌, one as 𝟙}

  infixl 65 ◌⊕◌
  infixl 70 ◌⊗◌
  infix 75 ⊖◌
  twice_mirror : (h σ th y z : R) → h ⊗ (𝟙 ⊕ 𝟙) ≡ 𝟙 → (𝟙 ⊕ th) ⊗ y ⊕ (σ ⊗ (𝟙 ⊕ ⊖ th)) ⊗ z ≡ mirror_value 𝓞 h σ th y z ⊕ mirror_value 𝓞 h σ th y z
  unfolding mirror_value
  twice_mirror h σ th y z e = linear 𝓡 e (⊖ ((y ⊕ σ ⊗ z) ⊕ th ⊗ (y ⊕ ⊖ (σ ⊗ z)))) (ring 𝓡 (h ∷ σ ∷ th ∷ y ∷ z ∷ []) (search quote depth 40 fits 9999) refl)

-- ---- each place

module _ (m A first : ℕ) (tan fold : List ℕ) (o : ℕ → Value m) where
  -- what lane v holds at a place of its short transform
  held : (v j : ℕ) → j < A → values_of m (line_in m A v fold) j ≡ value_of m (lane_at fold j v)
  held v j l = values_list m A (λ j. value_of m (lane_at fold j v)) j l

  pub first_block : {s : ℕ} {y : List ℕ} → IsModulus m → 0 < A → s ≡ 0 → UpTo (360 * prime m) fold → Numbers (λ u. get_or fold (32 * 0 + u) 0 + get_or fold (32 * 0 + u) 0) 32 y
      → BlockOf m 2147483647 (λ v. twice_finished m A first tan fold o v s) y
  first_block {s} {y} is pos e up n = record {
    long = n.long;
    each = λ v lv. good_up (omega (arith, prime_most is)) (good_as refl (ap (twice m) (value v)) (sum_good m fold 0 0 up n v lv));
  }
    where
      value : (v : ℕ) → value_of m (lane_at fold 0 v) ≡ finished m A first tan (line_in m A v fold) (o v) s
      value v = sym (held v 0 pos) ∙ sym (finish_zero (field m) _ A _ _ _ (o v)) ∙ ap (finished m A first tan (line_in m A v fold) (o v)) (sym e)

  pub middle_block : {s : ℕ} (odds : List ℕ) {y : List ℕ} → IsModulus m → 0 < A → s ≡ A → UpTo (360 * prime m) fold → UpTo (1440 * prime m) odds → ((v : ℕ) → v < 16 → value_of m (lane_at odds 0 v) ≡ o v)
      → Numbers (λ u. 2 * (get_or fold u 0 + (2880 * prime m - 2 * get_or odds u 0))) 32 y → BlockOf m 2147483647 (λ v. twice_finished m A first tan fold o v s) y
  middle_block {s} odds {y} is pos e up low sums n = record {
    long = n.long;
    each = λ v lv. good_as refl (ap (twice m) (value v lv)) (middle_good m fold odds (prime_most is) up low n v lv);
  }
    where
      value : (v : ℕ) → v < 16 → (field m).add (value_of m (lane_at fold 0 v)) ((field m).neg (twice m (value_of m (lane_at odds 0 v)))) ≡ finished m A first tan (line_in m A v fold) (o v) s
      value v lv =
          ap₂ (λ x z. (field m).add x ((field m).neg (twice m z))) (sym (held v 0 pos)) (sums v lv)
          ∙ sym (finish_middle (field m) _ A _ _ _ (o v) s (omega arith) e)

  pub between_block : {s : ℕ} (tau : ℕ) {k : Mix} {y : List ℕ} → IsModulus m → 0 < s → s < A → tau ≡ get_or tan (stride A * s) 0 → MirrorMix m first tau k → Mixed m k fold s (A - s) 16 y
      → BlockOf m 2147483647 (λ v. twice_finished m A first tan fold o v s) y
  between_block {s} tau {k} {y} is pos l e mix h = record {
    long = h.long;
    each = λ v lv. good_up (omega (arith, prime_most is)) (good_as refl (value v) (mixed_good h lv mix.near mix.far));
  }
    where
      th : ℕ → Value m
      th tau = (field m).mul (i m) (real m (res m tau))

      value : (v : ℕ)
          → (field m).add ((field m).mul ((field m).add (field m).one (th tau)) (value_of m (lane_at fold s v)))
          ((field m).mul ((field m).mul (sigma (field m) first) ((field m).add (field m).one ((field m).neg (th tau)))) (value_of m (lane_at fold (A - s) v)))
          ≡ twice m (finished m A first tan (line_in m A v fold) (o v) s)
      value v =
          twice_mirror (field_ring m) (real m (half m)) (sigma (field m) first) (th tau) _ _ (half_law m)
          ∙ ap (twice m)
          (ap (λ t. mirror_value (field m) (real m (half m)) (sigma (field m) first) (th t) (value_of m (lane_at fold s v)) (value_of m (lane_at fold (A - s) v))) e
          ∙ ap₂ (mirror_value (field m) (real m (half m)) (sigma (field m) first) (th (get_or tan (stride A * s) 0))) (sym (held v s l)) (sym (held v (A - s) (omega arith)))
          ∙ sym (finish_between_lem (field m) _ A _ _ _ (o v) s pos l))

-- ---- the coefficients

module _ (m : ℕ) where
  open Value.ring m use {add as ◌⊞◌, mul as ◌⊠◌, neg as ⊟◌, one as 𝟏}

  infixl 65 ◌⊞◌
  infixl 70 ◌⊠◌
  infix 75 ⊟◌
  -- 1 + i tau, and sigma (1 - i tau)
  near_is : (x : Residue m) → (𝟏, x) ≡ (field m).add (field m).one ((field m).mul (i m) (real m x))
  unfolding gauss imag residues
  near_is x = sym (ap ((field m).add (field m).one) (i_times m (real m x)) ∙ value_path (ring (res_ring m) (x ∷ []) (search quote depth 40 fits 9999) refl) (ring (res_ring m) (x ∷ []) (search quote depth 40 fits 9999) refl))

  even_is : (x : Residue m) → (𝟏, ⊟ x) ≡ (field m).mul (sigma (field m) 0) ((field m).add (field m).one ((field m).neg ((field m).mul (i m) (real m x))))
  unfolding gauss imag residues
  even_is x =
      sym (ap (λ z. (field m).mul (sigma (field m) 0) ((field m).add (field m).one ((field m).neg z))) (i_times m (real m x))
      ∙ value_path (ring (res_ring m) (x ∷ []) (search quote depth 40 fits 9999) refl) (ring (res_ring m) (x ∷ []) (search quote depth 40 fits 9999) refl))

  odd_is : (x : Residue m) → (⊟ 𝟏, x) ≡ (field m).mul (sigma (field m) 1) ((field m).add (field m).one ((field m).neg ((field m).mul (i m) (real m x))))
  unfolding gauss imag residues
  odd_is x =
      sym (ap (λ z. (field m).mul (sigma (field m) 1) ((field m).add (field m).one ((field m).neg z))) (i_times m (real m x))
      ∙ value_path (ring (res_ring m) (x ∷ []) (search quote depth 40 fits 9999) refl) (ring (res_ring m) (x ∷ []) (search quote depth 40 fits 9999) refl))

  -- p - c holds the negative
  minus_holds : (c : ℕ) {p : ℕ} {x : Residue m} → p ≡ prime m → c < prime m → Holds m c x → Holds m (p - c) (⊟ x)
  minus_holds c {p} {x} e l h = record { is = ap (λ n. res m (n - c)) e ∙ residue_neg (prime m) c l ∙ ap ⊟◌ h.is ∙ sym (mul_neg (res_ring m) (shift m) x) }

  times_holds : {c : ℕ} (tau : ℕ) {r : ℕ} → c ≡ (res m 4294967296).val → r ≡ (res m c ⊠ res m tau).val → Holds m r (res m tau)
  times_holds {c} tau e h = record { is = res_by m (res m c ⊠ res m tau) h ∙ ap (λ x. x ⊠ res m tau) (res_by m (res m 4294967296) e) }

  -- as the code holds them
  module _ (tau : ℕ) {one turn p q : ℕ} (ho : one ≡ (res m 4294967296).val) (ht : turn ≡ (res m one ⊠ res m tau).val) (hp : p ≡ prime m) (hq : q ≡ prime m) where
    one_low : one < prime m
    one_low = below_by m (res m 4294967296) ho

    turn_low : turn < prime m
    turn_low = below_by m (res m one ⊠ res m tau) ht

    holds_one : Holds m one 𝟏
    holds_one = shift_holds m ho

    holds_turn : Holds m turn (res m tau)
    holds_turn = times_holds tau ho ht

    minus_one : Holds m (p - one) (⊟ 𝟏)
    minus_one = minus_holds one hp one_low holds_one

    minus_turn : Holds m (q - turn) (⊟ res m tau)
    minus_turn = minus_holds turn hq turn_low holds_turn

    near : Times m one (q - turn) turn one ((field m).add (field m).one ((field m).mul (i m) (real m (res m tau))))
    near = subst (Times m one (q - turn) turn one) (near_is (res m tau)) (record { first = holds_one; second = minus_turn; third = holds_turn; fourth = holds_one })

    pub even_mix : {first : ℕ} → first ≡ 0 → MirrorMix m first tau (record { a1 = one; a2 = q - turn; a3 = turn; a4 = one; b1 = one; b2 = turn; b3 = q - turn; b4 = one })
    even_mix {first} e = record {
      held = record { a1 = low one_low; a2 = less; a3 = low turn_low; a4 = low one_low; b1 = low one_low; b2 = low turn_low; b3 = less; b4 = low one_low };
      near = near;
      far = subst (λ f. Times m one turn (q - turn) one ((field m).mul (sigma (field m) f) ((field m).add (field m).one ((field m).neg ((field m).mul (i m) (real m (res m tau))))))) (sym e)
          (subst (Times m one turn (q - turn) one) (even_is (res m tau)) (record { first = holds_one; second = subst (Holds m turn) back holds_turn; third = minus_turn; fourth = holds_one }));
    }
      where
        back : res m tau ≡ ⊟ (⊟ res m tau)
        back = ring (res_ring m) (res m tau ∷ []) (search quote depth 40 fits 9999) refl

        low : {x : ℕ} → x < prime m → x ≤ prime m
        low l = omega arith

        less : q - turn ≤ prime m
        less = omega arith

    pub odd_mix : {first : ℕ} → first ≡ 1 → MirrorMix m first tau (record { a1 = one; a2 = q - turn; a3 = turn; a4 = one; b1 = p - one; b2 = q - turn; b3 = turn; b4 = p - one })
    odd_mix {first} e = record {
      held = record { a1 = low one_low; a2 = less; a3 = low turn_low; a4 = low one_low; b1 = rest; b2 = less; b3 = low turn_low; b4 = rest };
      near = near;
      far = subst (λ f. Times m (p - one) (q - turn) turn (p - one) ((field m).mul (sigma (field m) f) ((field m).add (field m).one ((field m).neg ((field m).mul (i m) (real m (res m tau))))))) (sym e)
          (subst (Times m (p - one) (q - turn) turn (p - one)) (odd_is (res m tau)) (record { first = minus_one; second = minus_turn; third = holds_turn; fourth = minus_one }));
    }
      where
        low : {x : ℕ} → x < prime m → x ≤ prime m
        low l = omega arith

        less : q - turn ≤ prime m
        less = omega arith

        rest : p - one ≤ prime m
        rest = omega arith
