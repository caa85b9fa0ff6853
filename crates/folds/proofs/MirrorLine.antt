-- The whole of kinds 4 and 5: a pass before, the short transform and a pass after are the fold of the theory, and the way back is the
-- way forward with the other root and the half tangents negated, divided by N.
use mathlib.Core.Path.{◌≡◌, refl, sym, ◌∙◌, ap, ap₂}
use mathlib.Core.List.{List, [], ◌∷◌}
use Prim.Native.Nat.{ℕ, zero, suc, ◌+◌, ◌*◌, ◌-◌, ◌/◌, ◌<◌, ◌≤◌}
use native.Mathlib.Omega.{arith}
use native.Mathlib.Decide.{ℕ_discrete}
use Rattle.algebra.specs.ring.Ring.{Ops, pow, sum, dft}
use Rattle.algebra.specs.ring.RingLaws.{CRing, Star}
use Rattle.algebra.specs.lines.Folds.{mirror_point, mirror_value, finish}
use Rattle.algebra.specs.lines.Kinds.{slots, unfold_before}
use Rattle.algebra.specs.lines.FoldKinds.{fold_forward, fold_back}
use Rattle.algebra.proofs.ring.Laws.{along}
use Rattle.algebra.proofs.ring.Solver.{ring, quote}
use Rattle.numbers.specs.declared.Pair.{Pair}
use Rattle.numbers.specs.Value.{Value, field, conj, i, real, half, part, value_of, pair_of}
use Rattle.numbers.specs.Bounds.{res}
use Rattle.roots.specs.Table.{table_root}
use Rattle.numbers.proofs.Residues.{res_by}
use Rattle.numbers.proofs.Values.{value_by, field_ring, field_star}
use Rattle.slices.specs.Pairs.{values_of, list_of}
use Rattle.slices.proofs.Values.{values_list, list_cong}
use Rattle.fold_formulas.specs.FoldFormulas.{line_root, tangent, Frame, folded, sigma}
use Rattle.fold_formulas.proofs.ShortTransform.{short_transform}
use Rattle.folds.specs.FoldedLines.{mirror_kind, stored_count, whole_line, finished}
use Rattle.folds.proofs.mirror.after.Forms.{finish_zero, finish_middle, finish_between_lem}

stored_slots : (A first : ℕ) → first ≤ 1 → stored_count A first ≡ slots (mirror_kind first) A
unfolding slots
stored_slots A zero l = omega arith
stored_slots A (suc n) l = omega arith

pub stored_length : (A first : ℕ) {n : ℕ} → first ≤ 1 → n ≡ 2 * slots (mirror_kind first) A → n ≡ 2 * stored_count A first
stored_length A first l e = e ∙ ap (λ k. 2 * k) (sym (stored_slots A first l))

module _ {R : Type 0} (𝓞 : Ops R) (half : R) (A : ℕ) (th : ℕ → R) (σ : R) (o : R) where
  -- only the places below A of the short transform are read
  finish_cong : (y z : ℕ → R) → 0 < A → ((k : ℕ) → k < A → y k ≡ z k) → (s : ℕ) → s ≤ A → finish 𝓞 half A th σ y o s ≡ finish 𝓞 half A th σ z o s
  finish_cong y z q e zero l = finish_zero 𝓞 half A th σ y o ∙ e 0 q ∙ sym (finish_zero 𝓞 half A th σ z o)
  finish_cong y z q e (suc s) l = go (ℕ_discrete (suc s) A)
    where
      go : Dec (suc s ≡ A) → finish 𝓞 half A th σ y o (suc s) ≡ finish 𝓞 half A th σ z o (suc s)
      go (yes h) =
          finish_middle 𝓞 half A th σ y o (suc s) (omega arith) h
          ∙ ap (λ x. 𝓞.add x (𝓞.neg (𝓞.add o o))) (e 0 q)
          ∙ sym (finish_middle 𝓞 half A th σ z o (suc s) (omega arith) h)
      go (no n) =
          finish_between_lem 𝓞 half A th σ y o (suc s) (omega arith) (omega arith)
          ∙ ap₂ (mirror_value 𝓞 half σ (th (suc s))) (e (suc s) (omega arith)) (e (A - suc s) (omega arith))
          ∙ sym (finish_between_lem 𝓞 half A th σ z o (suc s) (omega arith) (omega arith))

module _ {R : Type 0} (𝓞 : Ops R) (conj : R → R) (i half : R) (A : ℕ) where
  -- the fold of either kind, from its line
  abbrev X : ℕ → (ℕ → R) → ℕ → R
  X first p = unfold_before 𝓞 conj i half A (mirror_kind first) p

  forward_form : (w part : R) (tau p : ℕ → R) (first : ℕ) → first ≤ 1 → (s : ℕ)
      → finish 𝓞 half A (λ s. 𝓞.mul i (tau s)) (sigma 𝓞 first) (dft 𝓞 A (pow 𝓞 w 2) (mirror_point 𝓞 (X first p))) (sum 𝓞 A (λ t. X first p (2 * t + 1))) (first + s)
      ≡ fold_forward 𝓞 conj i half A w part tau (mirror_kind first) p s
  unfolding unfold_before fold_forward
  forward_form w part tau p zero l s = along (finish 𝓞 half A _ _ _ _) (0 + s) s (omega arith)
  forward_form w part tau p (suc n) l s = along (finish 𝓞 half A _ _ _ _) (suc n + s) (suc s) (omega arith)

-- the way back from the way forward
module _ {R : Type 0} {𝓞 : Ops R} {conj : R → R} {i : R} (𝓡 : CRing 𝓞) (𝓢 : Star 𝓞 conj i) where
  open 𝓞 use {mul as ◌⊗◌, neg as ⊖◌}

  infixl 70 ◌⊗◌
  infix 75 ⊖◌
  negated_twice : (i x : R) → i ⊗ x ≡ ⊖ (i ⊗ ⊖ x)
  negated_twice i x = ring 𝓡 (i ∷ x ∷ []) (search quote depth 40 fits 9999) refl

  finish_back : (half : R) (A : ℕ) (v part : R) (tau : ℕ → R) (σ : R) (Y : ℕ → R) (o : R) (t : ℕ)
      → part ⊗ finish 𝓞 half A (λ s. i ⊗ tau s) σ (dft 𝓞 A (pow 𝓞 v 2) Y) o t ≡ part ⊗ finish 𝓞 half A (λ s. ⊖ (i ⊗ ⊖ tau s)) σ (dft 𝓞 A (pow 𝓞 (conj (conj v)) 2) Y) o t
  finish_back half A v part tau σ Y o t =
      ap₂ (λ th w. part ⊗ finish 𝓞 half A th σ (dft 𝓞 A (pow 𝓞 w 2) Y) o t) (λ j s. negated_twice i (tau s) j) (sym (𝓢.conj_conj v))

  back_form : (half : R) (A : ℕ) (v part q : R) (tau p : ℕ → R) (first t : ℕ)
      → part ⊗ fold_forward 𝓞 conj i half A v q tau (mirror_kind first) p t ≡ fold_back 𝓞 conj i half A (conj v) part (λ s. ⊖ tau s) (mirror_kind first) p t
  unfolding fold_forward fold_back
  back_form half A v part q tau p zero t = finish_back half A v part tau _ _ _ t
  back_form half A v part q tau p (suc n) t = finish_back half A v part tau _ _ _ (suc t)

module _ (m A first : ℕ) (re im tan line : List ℕ) (frame : Frame m A re im) (one : first ≤ 1) where
  abbrev pub forward_of : ℕ → Value m
  forward_of = folded m 0 A re im tan (mirror_kind first) (values_of m line)

  -- the pass before, the short transform, the sum of the odd places, and the pass after
  pub forward_list : {fold short result : List ℕ} {o : Pair} → fold ≡ list_of A (mirror_point (field m) (whole_line m A first line))
      → short ≡ list_of A (dft (field m) A (pow (field m) (table_root m re im) (2880 / A)) (values_of m fold))
      → o ≡ pair_of (sum (field m) A (λ t. whole_line m A first line (2 * t + 1)))
      → result ≡ list_of (stored_count A first) (λ p. finished m A first tan short (value_of m o) (first + p))
      → result ≡ list_of (slots (mirror_kind first) A) forward_of
  forward_list {fold} {short} {result} {o} hf hs ho hr =
      hr
      ∙ list_cong m (stored_count A first) _ forward_of (λ p l. at_place p l)
      ∙ ap (λ n. list_of n forward_of) (stored_slots A first one)
    where
      at_place : (p : ℕ) → p < stored_count A first → finished m A first tan short (value_of m o) (first + p) ≡ forward_of p
      at_place p l =
          ap (λ x. finished m A first tan short x (first + p)) (value_by m _ ho)
          ∙ finish_cong (field m) _ A _ _ _ _ _ frame.positive (short_transform frame _ hf hs) (first + p) (omega arith)
          ∙ forward_form (field m) (conj m) (i m) (real m (half m)) A _ _ _ _ first one p

  -- the way back, with the tables of the other root and the half tangents negated lent: each pair of the way forward times the number c that holds 1/N
  pub back_list : {result scaled : List ℕ} {c : ℕ} → result ≡ list_of (slots (mirror_kind first) A) forward_of → c ≡ (part m (2 * A)).val
      → scaled ≡ list_of (stored_count A first) (λ t. (field m).mul (real m (res m c)) (values_of m result t))
      → scaled ≡ list_of (slots (mirror_kind first) A) (folded m 1 A re im tan (mirror_kind first) (values_of m line))
  back_list {result} hr hc hs =
      hs
      ∙ ap₂ (λ n x. list_of n (λ t. (field m).mul (real m x) (values_of m result t))) (stored_slots A first one) (res_by m (part m (2 * A)) hc)
      ∙ list_cong m (slots (mirror_kind first) A) _ _ (λ t l.
      ap ((field m).mul (real m (part m (2 * A)))) (ap (λ d. values_of m d t) hr ∙ values_list m (slots (mirror_kind first) A) forward_of t l)
      ∙ back_form (field_ring m) (field_star m) (real m (half m)) A (line_root m A re im) (real m (part m (2 * A))) (real m (part m (2 * A))) (tangent m A tan) (values_of m line) first t)
