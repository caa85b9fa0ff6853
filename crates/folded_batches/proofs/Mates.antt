-- Each place of a batch with its mate: the coefficients, one place, and the loop over the places.
use mathlib.Core.Path.{◌≡◌, refl, sym, ◌∙◌, ap, subst}
use mathlib.Core.List.{List, [], ◌∷◌}
use Prim.Native.Nat.{ℕ, zero, suc, ◌*◌, ◌-◌, ◌<◌}
use native.Mathlib.Omega.{arith}
use Rattle.algebra.specs.ring.Ring.{pow, gauss, imag}
use Rattle.algebra.proofs.ring.Solver.{ring, quote}
use Rattle.algebra.proofs.fourier.Transform.{pow_mul}
use Rattle.numbers.specs.Value.{prime, Value, Residue, field, conj, i, real, value_of}
use Rattle.numbers.specs.Value as Value
use Rattle.numbers.specs.Bounds.{res}
use Rattle.numbers.proofs.Residues.{res_ring}
use Rattle.numbers.proofs.Values.{value_path, real_times, field_ring}
use Rattle.roots.specs.Table.{table_root}
use Rattle.fold_formulas.specs.FoldFormulas.{stride, line_root, sum_and_difference}
use Rattle.fold_formulas.proofs.hermitian.Forms.{sum_difference_parts}
use Rattle.batches.specs.Reduction.{Holds}
use Rattle.batches.specs.Lanes.{lane_at, Good}
use Rattle.folded_batches.specs.declared.mixing.Mix.{Mix}
use Rattle.folded_batches.specs.Mixing.{Mixed, MixedAlone}
use Rattle.folded_batches.specs.HermitianLanes.{end_for, own_factor, mate_factor, mated, ComplexMix, EndMix, MatedPlace}
use Rattle.folded_batches.proofs.MixedLanes.{on_parts, alone_parts, mixed_conjugate_good}
use Rattle.folded_batches.proofs.HeldNumbers.{held_negative, residue_most}

-- there are two directions
pub other_direction : (direction : ℕ) → direction < 2 → (direction ≡ 0 → ⊥) → direction ≡ 1
other_direction direction l n = omega (arith, n)

-- ---- the coefficients

module _ (m : ℕ) where
  open Value.ring m use {add as ◌⊞◌, mul as ◌⊠◌, neg as ⊟◌, one as 𝟏}

  infixl 65 ◌⊞◌
  infixl 70 ◌⊠◌
  infix 75 ⊟◌
  pub complex_held : (c d u v e f : ℕ) → c < prime m → d < prime m → u < prime m → v < prime m → e ≡ (⊟ res m d).val → f ≡ (⊟ res m u).val → (α β : Value m)
      → Holds m c α.0 → Holds m d α.1 → Holds m u β.0 → Holds m v β.1
      → ComplexMix m α β (record { a1 = c; a2 = e; a3 = d; a4 = c; b1 = u; b2 = v; b3 = v; b4 = f })
  complex_held c d u v e f lc ld lu lv he hf α β hc hd hu hv = record {
    held = record {
      a1 = omega arith;
      a2 = residue_most m (⊟ res m d) he;
      a3 = omega arith;
      a4 = omega arith;
      b1 = omega arith;
      b2 = omega arith;
      b3 = omega arith;
      b4 = residue_most m (⊟ res m u) hf;
    };
    own = record { first = hc; second = held_negative m d he hd; third = hd; fourth = hc };
    mate = record { first = hu; second = hv; third = hv; fourth = held_negative m u hf hu };
  }

  pub end_held : (c e : ℕ) → c < prime m → e ≡ (⊟ res m c).val → (z : Residue m) → Holds m c z → EndMix m z (record { a1 = c; a2 = c; a3 = c; a4 = e; b1 = 0; b2 = 0; b3 = 0; b4 = 0 })
  end_held c e lc he z hc = record {
    held = record {
      a1 = omega arith;
      a2 = omega arith;
      a3 = omega arith;
      a4 = residue_most m (⊟ res m c) he;
      b1 = omega arith;
      b2 = omega arith;
      b3 = omega arith;
      b4 = omega arith;
    };
    own = record { first = hc; second = hc; third = hc; fourth = held_negative m c he hc };
  }

  -- once, and twice
  pub end_once : {direction : ℕ} {k : Mix} {c : ℕ} → direction ≡ 0 → Holds m c 𝟏 → ((z : Residue m) → Holds m c z → EndMix m z k) → EndMix m (end_for m direction) k
  end_once {k = k} e hc h = subst (λ d. EndMix m (end_for m d) k) (sym e) (h 𝟏 hc)

  pub end_twice : {direction : ℕ} {k : Mix} {c : ℕ} → direction ≡ 1 → Holds m c (𝟏 ⊞ 𝟏) → ((z : Residue m) → Holds m c z → EndMix m z k) → EndMix m (end_for m direction) k
  end_twice {k = k} e hc h = subst (λ d. EndMix m (end_for m d) k) (sym e) (h (𝟏 ⊞ 𝟏) hc)

  -- the parts of 1 + i e and 1 - i e
  up_value : (e : Value m) → (field m).add (field m).one ((field m).mul (i m) e) ≡ (𝟏 ⊞ ⊟ e.1, e.0)
  unfolding gauss imag
  up_value e = value_path
      (ring (res_ring m) (e.0 ∷ e.1 ∷ []) (search quote depth 40 fits 9999) refl)
      (ring (res_ring m) (e.0 ∷ e.1 ∷ []) (search quote depth 40 fits 9999) refl)

  down_value : (e : Value m) → (field m).add (field m).one ((field m).neg ((field m).mul (i m) e)) ≡ (𝟏 ⊞ e.1, ⊟ e.0)
  unfolding gauss imag
  down_value e = value_path
      (ring (res_ring m) (e.0 ∷ e.1 ∷ []) (search quote depth 40 fits 9999) refl)
      (ring (res_ring m) (e.0 ∷ e.1 ∷ []) (search quote depth 40 fits 9999) refl)

  own_back : (e : Value m) → own_factor m 1 e ≡ (field m).add (field m).one ((field m).neg ((field m).mul (i m) e))
  own_back e = ring (field_ring m) (i m ∷ e ∷ []) (search quote depth 40 fits 9999) refl

  mate_back : (e : Value m) → mate_factor m 1 e ≡ (field m).add (field m).one ((field m).mul (i m) e)
  mate_back e = ring (field_ring m) (i m ∷ e ∷ []) (search quote depth 40 fits 9999) refl

  -- the numbers of both: those of 1 + i e are up and x, those of 1 - i e are down and less
  module _ {up x down less : ℕ} (e : Value m) (hu : Holds m up (𝟏 ⊞ ⊟ e.1)) (hx : Holds m x e.0) (hd : Holds m down (𝟏 ⊞ e.1)) (hl : Holds m less (⊟ e.0)) {direction : ℕ} {k : Mix} where
    pub mix_forward : direction ≡ 0
        → ((α β : Value m) → Holds m up α.0 → Holds m x α.1 → Holds m down β.0 → Holds m less β.1 → ComplexMix m α β k) → ComplexMix m (own_factor m direction e) (mate_factor m direction e) k
    mix_forward is h = subst (λ d. ComplexMix m (own_factor m d e) (mate_factor m d e) k) (sym is)
        (subst (λ a. ComplexMix m a (mate_factor m 0 e) k) (sym (up_value e)) (subst (λ b. ComplexMix m (𝟏 ⊞ ⊟ e.1, e.0) b k) (sym (down_value e)) (h (𝟏 ⊞ ⊟ e.1, e.0) (𝟏 ⊞ e.1, ⊟ e.0) hu hx hd hl)))

    pub mix_back : direction ≡ 1
        → ((α β : Value m) → Holds m down α.0 → Holds m less α.1 → Holds m up β.0 → Holds m x β.1 → ComplexMix m α β k) → ComplexMix m (own_factor m direction e) (mate_factor m direction e) k
    mix_back is h = subst (λ d. ComplexMix m (own_factor m d e) (mate_factor m d e) k) (sym is)
        (subst (λ a. ComplexMix m a (mate_factor m 1 e) k) (sym (own_back e ∙ down_value e)) (subst (λ b. ComplexMix m (𝟏 ⊞ e.1, ⊟ e.0) b k) (sym (mate_back e ∙ up_value e)) (h (𝟏 ⊞ e.1, ⊟ e.0) (𝟏 ⊞ ⊟ e.1, e.0) hd hl hu hx)))

-- ---- one place

module _ (m direction A : ℕ) (w : Value m) where
  mated_first : (X : ℕ → Value m) {t : ℕ} → t ≡ 0 → (field m).mul (real m (end_for m direction)) (sum_and_difference m (X 0)) ≡ mated m direction A w X t
  unfolding mated
  mated_first X e = rw e

  mated_more : (X : ℕ → Value m) (t : ℕ) → (t ≡ 0 → ⊥)
      → (field m).add ((field m).mul (own_factor m direction (pow (field m) w t)) (X t)) ((field m).mul (mate_factor m direction (pow (field m) w t)) (conj m (X (A - t)))) ≡ mated m direction A w X t
  unfolding mated
  mated_more X zero n = absurd (n refl)
  mated_more X (suc t) n = refl

  end_value : (c : Residue m) (z : Value m) → on_parts m c c c ((Value.ring m).neg c) z ≡ (field m).mul (real m c) (sum_and_difference m z)
  end_value c z =
      value_path
      (ring (res_ring m) (c ∷ z.0 ∷ z.1 ∷ []) (search quote depth 40 fits 9999) refl)
      (ring (res_ring m) (c ∷ z.0 ∷ z.1 ∷ []) (search quote depth 40 fits 9999) refl)
      ∙ sym (ap ((field m).mul (real m c)) (sum_difference_parts m z) ∙ real_times m c ((Value.ring m).add z.0 z.1, (Value.ring m).add z.0 ((Value.ring m).neg z.1)))

  module _ {l : List ℕ} {t : ℕ} {k : Mix} {y : List ℕ} where
    pub end_place_lem : t ≡ 0 → EndMix m (end_for m direction) k → MixedAlone m k l 0 16 y → MatedPlace m direction A w l t y
    end_place_lem e h mixed = record {
      long = mixed.long;
      each = λ v lv. subst (Good m (2 * prime m) (lane_at y 0 v)) (end_value (end_for m direction) (value_of m (lane_at l 0 v)) ∙ mated_first (λ j. value_of m (lane_at l j v)) e) (alone_parts mixed lv h.own);
    }

    pub mates_place : (t ≡ 0 → ⊥) → {e : Value m} → e ≡ pow (field m) w t → ComplexMix m (own_factor m direction e) (mate_factor m direction e) k → Mixed m k l t (A - t) 16 y → MatedPlace m direction A w l t y
    mates_place n {e} is h mixed = record {
      long = mixed.long;
      each = λ v lv. subst (Good m (2 * prime m) (lane_at y 0 v))
          (ap (λ e. (field m).add ((field m).mul (own_factor m direction e) (value_of m (lane_at l t v))) ((field m).mul (mate_factor m direction e) (conj m (value_of m (lane_at l (A - t) v))))) is
          ∙ mated_more (λ j. value_of m (lane_at l j v)) t n)
          (mixed_conjugate_good mixed lv h.own h.mate);
    }

-- the power of the table at the place of e(t/N)
pub line_power : (m A : ℕ) (re im : List ℕ) {step : ℕ} (t : ℕ) → step ≡ stride A → pow (field m) (table_root m re im) (step * t) ≡ pow (field m) (line_root m A re im) t
line_power m A re im t h = ap (λ k. pow (field m) (table_root m re im) (k * t)) h ∙ pow_mul (field_ring m) (table_root m re im) (stride A) t
