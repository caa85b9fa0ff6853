-- Kinds 1 and 2 as a whole: the pass before, the plain transform of A points and the pass after make the fold of the kind.
use mathlib.Core.Path.{◌≡◌, refl, sym, ◌∙◌, ap, ap₂}
use mathlib.Core.Bool.{Bool, true, false}
use mathlib.Core.List.{List}
use Prim.Native.Nat.{ℕ, zero, suc, ◌*◌, ◌-◌, ◌/◌, ◌<◌}
use native.Mathlib.Omega.{arith}
use Rattle.algebra.specs.ring.Ring.{pow, dft}
use Rattle.algebra.specs.lines.Folds.{inner_times, back1}
use Rattle.algebra.specs.lines.Kinds.{slots}
use Rattle.algebra.specs.lines.FoldKinds.{fold_forward, fold_back}
use Rattle.algebra.proofs.fourier.Transform.{dft_cong}
use Rattle.numbers.specs.Value.{Value, field, conj, i, real, part, on_values}
use Rattle.numbers.specs.Bounds.{res}
use Rattle.roots.specs.Table.{table_root}
use Rattle.numbers.proofs.Residues.{res_by}
use Rattle.numbers.proofs.Values.{field_ring, field_star}
use Rattle.slices.specs.Pairs.{values_of, list_of}
use Rattle.slices.proofs.Values.{values_list, list_cong}
use Rattle.fold_formulas.specs.FoldFormulas.{line_root, Frame, sum_and_difference}
use Rattle.fold_formulas.proofs.Frames.{short_root}
use Rattle.fold_formulas.proofs.ShortTransform.{short_values}
use Rattle.fold_formulas.proofs.hermitian.Forms.{unfold_pair}
use Rattle.folds.specs.FoldedLines.{to_hermitian, from_hermitian, hermitian_kind}
use Rattle.folds.proofs.hermitian.Forms.{fold_of, back_of}

-- ---- the fold of the kind, as the two passes make it

pub slots_is : (anti : Bool) (A : ℕ) → slots (hermitian_kind anti) A ≡ A
unfolding slots
slots_is false A = refl
slots_is true A = refl

module _ (m A : ℕ) (w c : Value m) (tau : ℕ → Value m) where
  forward_form : (anti : Bool) (p : ℕ → Value m) (s : ℕ) → on_values m fold_forward A w c tau (hermitian_kind anti) p s
      ≡ dft (field m) A (pow (field m) w 2) (fold_of m A w (to_hermitian m anti p)) s
  unfolding fold_forward to_hermitian
  forward_form false p s = refl
  forward_form true p s = refl

  back_form : (anti : Bool) (q : ℕ → Value m) (t : ℕ) → on_values m fold_back A w c tau (hermitian_kind anti) q t
      ≡ from_hermitian m anti (on_values m back1 A c w (dft (field m) A (pow (field m) (conj m w) 2) q)) t
  unfolding fold_back from_hermitian
  back_form false q t = refl
  back_form true q t = refl

-- the pass after reads the places t and A - t alone
module _ (m A : ℕ) (w c : Value m) (y z : ℕ → Value m) (same : (j : ℕ) → j < A → y j ≡ z j) where
  back_cong : (t : ℕ) → t < A → on_values m back1 A c w y t ≡ on_values m back1 A c w z t
  unfolding back1 sum_and_difference
  back_cong zero l = ap (λ u. (field m).mul c (sum_and_difference m u)) (same 0 l)
  back_cong (suc t) l =
      ap₂ (λ u v. (field m).mul c (unfold_pair m A (pow (field m) (conj m w) (suc t)) u (conj m v))) (same (suc t) l) (same (A - suc t) (omega arith))

  from_hermitian_cong : (anti : Bool) (t : ℕ) → t < A → from_hermitian m anti (on_values m back1 A c w y) t
      ≡ from_hermitian m anti (on_values m back1 A c w z) t
  unfolding from_hermitian inner_times
  from_hermitian_cong false t l = back_cong t l
  from_hermitian_cong true zero l = back_cong zero l
  from_hermitian_cong true (suc t) l = ap ((field m).mul (i m)) (back_cong (suc t) l)

-- ---- the lists

module _ (m A : ℕ) {re im : List ℕ} (f : Frame m A re im) (anti : Bool) where
  -- the short line of the line p, transformed
  pub forward_list : (p : ℕ → Value m) {short line : List ℕ} → short ≡ list_of A (fold_of m A (line_root m A re im) (to_hermitian m anti p))
      → line ≡ list_of A (dft (field m) A (pow (field m) (table_root m re im) (2880 / A)) (values_of m short)) → (c : Value m) (tau : ℕ → Value m)
      → line ≡ list_of (slots (hermitian_kind anti) A) (on_values m fold_forward A (line_root m A re im) c tau (hermitian_kind anti) p)
  forward_list p {short} hb hl c tau =
      hl
      ∙ list_cong m A _ _ (λ s l.
      ap (λ u. dft (field m) A u (values_of m short) s) (short_root f)
      ∙ dft_cong (field_ring m) A _ _ _ s (λ t lt. ap (λ l. values_of m l t) hb ∙ values_list m A _ t lt)
      ∙ sym (forward_form m A (line_root m A re im) c tau anti p s))
      ∙ ap (λ n. list_of n (on_values m fold_forward A (line_root m A re im) c tau (hermitian_kind anti) p)) (sym (slots_is anti A))

  -- a copy of the line l, transformed and unfolded; the lent tables are those of the conjugate root
  pub back_list : {d : ℕ} {l copy short line : List ℕ} → copy ≡ l → short ≡ list_of A (dft (field m) A (pow (field m) (table_root m re im) (2880 / A)) (values_of m copy))
      → d ≡ (part m (2 * A)).val → line ≡ list_of A (from_hermitian m anti (back_of m A (real m (res m d)) (line_root m A re im) (values_of m short))) → (tau : ℕ → Value m)
      → line ≡ list_of (slots (hermitian_kind anti) A) (on_values m fold_back A (conj m (line_root m A re im)) (real m (part m (2 * A))) tau (hermitian_kind anti) (values_of m l))
  back_list {d} {l} {copy} {short} hc hb hd hl tau =
      hl
      ∙ list_cong m A _ _ (λ t lt.
      ap (λ k. from_hermitian m anti (back_of m A (real m k) (line_root m A re im) (values_of m short)) t) (res_by m (part m (2 * A)) hd)
      ∙ from_hermitian_cong m A (conj m (line_root m A re im)) (real m (part m (2 * A))) (values_of m short) _ transformed anti t lt
      ∙ sym (back_form m A (conj m (line_root m A re im)) (real m (part m (2 * A))) tau anti (values_of m l) t))
      ∙ ap (λ n. list_of n (on_values m fold_back A (conj m (line_root m A re im)) (real m (part m (2 * A))) tau (hermitian_kind anti) (values_of m l))) (sym (slots_is anti A))
    where
      transformed : (j : ℕ) → j < A → values_of m short j ≡ dft (field m) A (pow (field m) (conj m (conj m (line_root m A re im))) 2) (values_of m l) j
      transformed j lj =
          short_values f (values_of m l) copy (λ t h. ap (λ x. values_of m x t) hc) hb j lj
          ∙ ap (λ u. dft (field m) A (pow (field m) u 2) (values_of m l) j) (sym ((field_star m).conj_conj (line_root m A re im)))
