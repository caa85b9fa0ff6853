-- The laws of the half tangents, from the table's rule tau_k (1 + c) = d with r^k = c + i d. Place 1,440 - k is that of -conj r^k = -c + i d.
use mathlib.Core.Path.{◌≡◌, refl, sym, ◌∙◌, ap}
use mathlib.Core.List.{List, [], ◌∷◌}
use Prim.Native.Nat.{ℕ, zero, suc, ◌+◌, ◌-◌, ◌<◌}
use native.Mathlib.Nat as N
use native.Mathlib.Omega.{arith}
use lib.ListN.{get_or}
use Rattle.algebra.specs.ring.Ring.{pow, residues, gauss}
use Rattle.algebra.specs.ring.Ring as Gauss
use Rattle.algebra.proofs.ring.Laws.{pow_add, neg_neg, neg_mul, mul_neg}
use Rattle.algebra.proofs.ring.Solver.{ring, quote, linear}
use Rattle.algebra.proofs.fourier.Transform.{pow_zero, inverse_pow}
use Rattle.algebra.proofs.ring.Conj.{conj_pow}
use Rattle.algebra.proofs.fourier.HalfTangents.{circle_parts, sine_inverse, tan_sine, tan_mirror, tan_cosecant, tan_cotangent, tan_law}
use Rattle.numbers.specs.Value.{IsModulus, Value, Residue, field, conj, i, real, half}
use Rattle.numbers.specs.Bounds.{res}
use Rattle.numbers.specs.Value as Value
use Rattle.roots.specs.Root.{root}
use Rattle.roots.specs.TableLaws.{TangentTable, NegatedTable, TangentLaws, BackwardTangents}
use Rattle.numbers.proofs.Residues.{res_ring, res_by}
use Rattle.numbers.proofs.Values.{field_ring, field_star}
use Rattle.numbers.proofs.Parts.{half_residue}
use Rattle.roots.proofs.Roots.{root_of_unity, half_turn}

module _ (m : ℕ) (is : IsModulus m) where
  open field m use {add as ◌⊕◌, mul as ◌⊗◌, neg as ⊖◌, one as 𝟙}
  open Value.ring m use {add as ◌⊞◌, mul as ◌⊠◌, neg as ⊟◌, one as 𝟏}

  infixl 65 ◌⊕◌
  infixl 65 ◌⊞◌
  infixl 70 ◌⊗◌
  infixl 70 ◌⊠◌
  infix 75 ⊖◌
  infix 75 ⊟◌
  abbrev r^ : ℕ → Value m
  r^ k = pow (field m) (root m) k

  conj_unit : (k : ℕ) → r^ k ⊗ conj m (r^ k) ≡ 𝟙
  conj_unit k = ap (λ y. r^ k ⊗ y) (conj_pow (field_ring m) (field_star m) (root m) k) ∙ inverse_pow (field_ring m) 2880 (root m) _ _ (root_of_unity m is) k

  on_circle : (k : ℕ) → (r^ k).0 ⊠ (r^ k).0 ⊞ (r^ k).1 ⊠ (r^ k).1 ≡ 𝟏
  on_circle k = circle_parts (res_ring m) (r^ k) (conj_unit k)

  -- d has an inverse
  sine_unit : (k : ℕ) → 0 < k → k < 1440 → (e : Residue m) × (e ⊠ (r^ k).1 ≡ 𝟏)
  sine_unit k p l = go ((root_of_unity m is).apart (k + k) (omega arith) (omega arith))
    where
      go : (v : Value m) × (v ⊗ (r^ (k + k) ⊕ ⊖ 𝟙) ≡ 𝟙) → (e : Residue m) × (e ⊠ (r^ k).1 ≡ 𝟏)
      go (v, h) = sine_inverse (res_ring m) (r^ k) v (on_circle k) (rw (← pow_add (field_ring m) (root m) k k) h)

  -- r^(1440 - k) = - conj r^k
  mirrored : (k : ℕ) → k < 1440 → r^ (1440 - k) ≡ ⊖ conj m (r^ k)
  mirrored k l =
      step (r^ (1440 - k)) (r^ k) (conj m (r^ k))
      (sym (pow_add (field_ring m) (root m) k (1440 - k)) ∙ ap r^ (N.add-sub_of_le (omega arith)) ∙ half_turn m is)
      (conj_unit k)
    where
      step : (x w y : Value m) → w ⊗ x ≡ ⊖ 𝟙 → w ⊗ y ≡ 𝟙 → x ≡ ⊖ y
      step x w y a b = linear (field_ring m) a y (linear (field_ring m) b (⊖ x) (ring (field_ring m) (x ∷ w ∷ y ∷ []) (search quote depth 40 fits 9999) refl))

  module _ {t : List ℕ} (h : TangentTable m t) where
    abbrev tau : ℕ → Residue m
    tau k = res m (get_or t k 0)

    tau_mirrored : (k : ℕ) → 0 < k → k < 1440 → tau (1440 - k) ⊠ (𝟏 ⊞ ⊟ (r^ k).0) ≡ (r^ k).1
    unfolding gauss Gauss.conj
    tau_mirrored k p l =
        ap (λ (z : Value m). tau (1440 - k) ⊠ (𝟏 ⊞ z.0)) (sym (mirrored k l))
        ∙ h.entry (1440 - k) (omega arith)
        ∙ ap (λ (z : Value m). z.1) (mirrored k l)
        ∙ neg_neg (res_ring m) (r^ k).1

    -- tau d = 1 - c
    sine : (k : ℕ) → k < 1440 → tau k ⊠ (r^ k).1 ≡ 𝟏 ⊞ ⊟ (r^ k).0
    unfolding gauss
    sine zero l = rw (pow_zero (field_ring m) (root m)) (ring (res_ring m) (tau 0 ∷ []) (search quote depth 40 fits 9999) refl)
    sine (suc k) l =
        tan_sine (res_ring m) _ _ _ _ (tau (1440 - suc k)) (on_circle (suc k)) (sine_unit (suc k) (omega arith) l).1 (h.entry (suc k) l)
        (tau_mirrored (suc k) (omega arith) l)

    law : (k : ℕ) → k < 1440 → (𝟙 ⊕ ⊖ (i m ⊗ real m (tau k))) ⊗ (𝟙 ⊕ r^ k) ≡ 𝟙 ⊕ 𝟙
    unfolding residues
    law k l = tan_law (res_ring m) (r^ k).0 (r^ k).1 (tau k) (h.entry k l) (sine k l)

    pub tangent_laws : TangentLaws m t
    tangent_laws = record {
      law = law;
      mirror = λ k p l. tan_mirror (res_ring m) _ _ _ _ _ (on_circle k) (sine_unit k p l).1 (h.entry k l) (tau_mirrored k p l);
      cosecant = λ k p l. tan_cosecant (res_ring m) _ _ _ _ _ (on_circle k) (sine_unit k p l).1 (h.entry k l) (tau_mirrored k p l) (half m) (half_residue m);
      cotangent = λ k p l. tan_cotangent (res_ring m) _ _ _ _ _ (on_circle k) (sine_unit k p l).1 (h.entry k l) (tau_mirrored k p l) (half m) (half_residue m);
    }

    -- the conjugate root c - i d and -tau
    turned_entry : (k : ℕ) → k < 1440 → (⊟ tau k) ⊠ (𝟏 ⊞ (r^ k).0) ≡ ⊟ (r^ k).1
    turned_entry k l = neg_mul (res_ring m) (tau k) _ ∙ ap ⊟◌ (h.entry k l)

    turned_sine : (k : ℕ) → k < 1440 → (⊟ tau k) ⊠ (⊟ (r^ k).1) ≡ 𝟏 ⊞ ⊟ (r^ k).0
    turned_sine k l = neg_mul (res_ring m) (tau k) _ ∙ ap ⊟◌ (mul_neg (res_ring m) (tau k) _) ∙ neg_neg (res_ring m) _ ∙ sine k l

    turned_law : (k : ℕ) → k < 1440 → (𝟙 ⊕ ⊖ (i m ⊗ real m (⊟ tau k))) ⊗ (𝟙 ⊕ conj m (r^ k)) ≡ 𝟙 ⊕ 𝟙
    unfolding residues Gauss.conj
    turned_law k l = tan_law (res_ring m) (r^ k).0 (⊟ (r^ k).1) (⊟ tau k) (turned_entry k l) (turned_sine k l)

    pub backward_tangents : {u : List ℕ} → NegatedTable m 1440 t u → BackwardTangents m u
    backward_tangents {u} n = record {
      law = λ k l. rw (res_by m (⊟ tau k) (n.entry k l), ← conj_pow (field_ring m) (field_star m) (root m) k) (turned_law k l);
    }
