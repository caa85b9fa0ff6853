-- What the transform makes of a packed line that keeps the rule of its kind: the packed transform of the whole line, and back. And the rule that each line along l
-- of a cell of a group keeps.
use mathlib.Core.Path.{◌≡◌, refl, sym, ◌∙◌, ap, subst}
use mathlib.Core.Logic.{◌⊎◌, inl, inr}
use mathlib.Core.Bool.{Bool, true, false, cond}
use Prim.Native.Nat.{ℕ, suc, ◌+◌, ◌*◌, ◌<◌, ◌≤◌}
use native.Mathlib.Omega.{arith}
use native.Mathlib.Decide.{ℕ_discrete}
use Rattle.algebra.specs.ring.Ring.{Ops, dft}
use Rattle.algebra.specs.ring.RingLaws.{CRing, Star}
use Rattle.algebra.specs.fourier.Axis.{Axis, AxisLaws}
use Rattle.algebra.specs.lines.Kinds.{Kind, Kind.alternating, Kind.symmetric, Kind.antisymmetric, slots, pack_before, pack_after, RuleBefore, RuleAfter, forward, inverse}
use Rattle.algebra.specs.cells.Cell.{J, Group, P1, P2₁, Pm, Pa, P2₁2₁2₁, planes, neg_i, Cell}
use Rattle.algebra.specs.cells.CellSteps.{Lawful}
use Rattle.algebra.specs.cells.CellPack.{even}
use Rattle.algebra.proofs.ring.Laws.{along, neg_one_mul}
use Rattle.algebra.proofs.fourier.Transform.{dft_cong}
use Rattle.algebra.proofs.lines.Rules.{before_pack, after_pack, pack_before_cong, pack_after_cong}
use Rattle.algebra.proofs.cells.CellLines.{line_P2₁, line_Pm, line_Pa}
use Rattle.algebra.proofs.cells.CellTests.{Positive}
use Rattle.algebra.proofs.cells.CellPack.{sign_of, pow_even, alt_4}
use Rattle.numbers.specs.Value.{Value, field, conj, i, half, real}
use Rattle.numbers.proofs.Residues.{res_ring}
use Rattle.numbers.proofs.Values.{field_ring, field_star}
use Rattle.numbers.proofs.Parts.{half_residue}
use Rattle.line.proofs.kinds.Reading.{forward_cong, back_cong}
use Rattle.cell.specs.Volume.{line_kind, rotated, times_i, first_pair, layers}
use Rattle.cell.proofs.RotatedLines.{times_is}

module _ {R : Type 0} {𝓞 : Ops R} {conj : R → R} {i : R} (𝓡 : CRing 𝓞) (𝓢 : Star 𝓞 conj i) {half : R} {axis : Axis R} {tau : ℕ → R} (𝓐 : AxisLaws 𝓞 conj i half axis tau) where
  open 𝓞 use {mul as ◌⊗◌}
  open axis use {half as A, w, part}

  infixl 70 ◌⊗◌
  pub forward_packed : (k : Kind) (X p : ℕ → R) → RuleBefore 𝓞 conj i half A k X → ((t : ℕ) → t < slots k A → p t ≡ pack_before 𝓞 conj i half A k X t)
      → (s : ℕ) → s < slots k A → forward 𝓞 conj i half A w k p s ≡ pack_after 𝓞 conj i half A k (dft 𝓞 (2 * A) w X) s
  forward_packed k X p r e s l =
      forward_cong 𝓡 𝓢 𝓐 k p (pack_before 𝓞 conj i half A k X) e s l
      ∙ pack_after_cong 𝓡 𝓢 𝓐 k _ _ (λ s l. dft_cong 𝓡 (2 * A) w _ _ s (before_pack 𝓡 𝓢 𝓐 k X r)) s l

  pub back_packed : (k : Kind) (Z q : ℕ → R) → RuleAfter 𝓞 conj i half A k Z → ((s : ℕ) → s < slots k A → q s ≡ pack_after 𝓞 conj i half A k Z s)
      → (t : ℕ) → t < slots k A → inverse 𝓞 conj i half A w part k q t ≡ pack_before 𝓞 conj i half A k (λ t. part ⊗ dft 𝓞 (2 * A) (conj w) Z t) t
  back_packed k Z q r e t l =
      back_cong 𝓡 𝓢 𝓐 k q (pack_after 𝓞 conj i half A k Z) e t l
      ∙ pack_before_cong 𝓡 𝓢 𝓐 k _ _ (λ t l. ap (λ y. part ⊗ y) (dft_cong 𝓡 (2 * A) (conj w) _ _ t (after_pack 𝓡 𝓢 𝓐 k Z r))) t l

-- ---- the kinds along l

module _ (a : J) where
  -- which of the W pairs of (h, k) are on its line: all, but the two ends of an antisymmetric one
  mirror_pairs : 0 < a.2 → (b : Bool) (w : ℕ) → w < suc a.2 → {P : Type 0}
      → (first_pair (cond b symmetric antisymmetric) ≤ w → w < first_pair (cond b symmetric antisymmetric) + slots (cond b symmetric antisymmetric) a.2 → P)
      → (cond b symmetric antisymmetric ≡ antisymmetric → (w ≡ 0) ⊎ (w ≡ a.2) → P) → P
  unfolding slots
  mirror_pairs pos true w l on off = on (omega arith) (omega arith)
  mirror_pairs pos false w l {P} on off = go (ℕ_discrete w 0) (ℕ_discrete w a.2)
    where
      go : Dec (w ≡ 0) → Dec (w ≡ a.2) → P
      go (yes e) d = off refl (inl e)
      go (no n) (yes e) = off refl (inr e)
      go (no n) (no d) = on (omega arith) (omega arith)

  pub by_line : (g : Group) → 0 < a.2 → (h w : ℕ) → w < layers g a → {P : Type 0}
      → (first_pair (line_kind g h) ≤ w → w < first_pair (line_kind g h) + slots (line_kind g h) a.2 → P)
      → (line_kind g h ≡ antisymmetric → (w ≡ 0) ⊎ (w ≡ a.2) → P) → P
  unfolding slots planes
  by_line P1 pos h w l on off = on (omega arith) (omega arith)
  by_line P2₁ pos h w l on off = on (omega arith) (omega arith)
  by_line Pm pos h w l on off = on (omega arith) (omega arith)
  by_line Pa pos h w l on off = mirror_pairs pos (even h) w l on off
  by_line P2₁2₁2₁ pos h w l on off = on (omega arith) (omega arith)

  -- the ends of an antisymmetric line are on no line
  pub off_line : 0 < a.2 → {k : Kind} → k ≡ antisymmetric → (w : ℕ) → (w ≡ 0) ⊎ (w ≡ a.2) → (t : ℕ) → t < slots k a.2 → first_pair k + t ≡ w → ⊥
  unfolding slots
  off_line pos {k} e w (inl z) t l q = absurd (omega (arith, ap first_pair e))
  off_line pos {k} e w (inr z) t l q = omega (arith, ap first_pair e, ap (λ k. slots k a.2) e)

  module _ (m : ℕ) where
    -- what is packed after the transform stands at its own places
    mirror_placed : (b : Bool) (Z : ℕ → Value m) (t : ℕ) → pack_after (field m) (conj m) (i m) (real m (half m)) a.2 (cond b symmetric antisymmetric) Z t ≡ Z (first_pair (cond b symmetric antisymmetric) + t)
    unfolding pack_after
    mirror_placed true Z t = along Z t (0 + t) (omega arith)
    mirror_placed false Z t = along Z (suc t) (1 + t) (omega arith)

    pub placed_after : (g : Group) (h : ℕ) (Z : ℕ → Value m) (t : ℕ) → pack_after (field m) (conj m) (i m) (real m (half m)) a.2 (line_kind g h) Z t ≡ Z (first_pair (line_kind g h) + t)
    unfolding pack_after
    placed_after P1 h Z t = along Z t (0 + t) (omega arith)
    placed_after P2₁ h Z t = along Z t (0 + t) (omega arith)
    placed_after Pm h Z t = along Z t (0 + t) (omega arith)
    placed_after Pa h Z t = mirror_placed (even h) Z t
    placed_after P2₁2₁2₁ h Z t = along Z t (0 + t) (omega arith)

    module _ (F : Cell (Value m)) where
      mirror_rule : Lawful (field m) (conj m) a Pa F → (h k : ℕ) → h < 2 * a.0 → k < 2 * a.1 → (b : Bool) → even h ≡ b
          → RuleBefore (field m) (conj m) (i m) (real m (half m)) a.2 (cond b symmetric antisymmetric) (F h k)
      unfolding neg_i
      mirror_rule o h k lh lk true e = λ l ll. line_Pa (field_ring m) (field_star m) a F o h k l lh lk ll ∙ ap (λ y. (field m).mul y (F h k l)) (pow_even (res_ring m) h ∙ ap (sign_of (res_ring m)) e) ∙ (field_ring m).one_mul _
      mirror_rule o h k lh lk false e = λ l ll. line_Pa (field_ring m) (field_star m) a F o h k l lh lk ll ∙ ap (λ y. (field m).mul y (F h k l)) (pow_even (res_ring m) h ∙ ap (sign_of (res_ring m)) e) ∙ neg_one_mul (field_ring m) _

  -- each line along l of a cell of the group keeps the rule of its kind, times i where it is so stored
  pub line_rule : (g : Group) → Positive a → (m : ℕ) (F : Cell (Value m)) → Lawful (field m) (conj m) a g F → (h k : ℕ) → h < 2 * a.0 → k < 2 * a.1
      → RuleBefore (field m) (conj m) (i m) (real m (half m)) a.2 (line_kind g h) (λ l. times_i m (rotated g h) (F h k l))
  unfolding neg_i
  line_rule P1 long m F o h k lh lk = tt
  line_rule P2₁ long m F o h k lh lk = λ l ll. line_P2₁ (field_ring m) (field_star m) a F o h k l lh lk ll
  line_rule Pm long m F o h k lh lk = λ l ll. line_Pm (field_ring m) (field_star m) a F o h k l lh lk ll
  line_rule Pa long m F o h k lh lk = mirror_rule m F o h k lh lk (even h) refl
  line_rule P2₁2₁2₁ long m F o h k lh lk =
      subst (λ (X : ℕ → Value m). RuleBefore (field m) (conj m) (i m) (real m (half m)) a.2 alternating X) (λ i l. sym (times_is m (even h) (F h k l)) i) (alt_4 (res_ring m) (half m) (half_residue m) a long F o h k lh lk)
