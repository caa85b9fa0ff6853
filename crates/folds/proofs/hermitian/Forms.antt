-- Kinds 1 and 2: the forms of the folds at the places 0 and t > 0, as the code computes them.
use mathlib.Core.Path.{◌≡◌, refl, sym, ◌∙◌, ap}
use mathlib.Core.Bool.{Bool, true, false}
use mathlib.Core.List.{List}
use Prim.Native.Nat.{ℕ, zero, suc, ◌*◌, ◌-◌, ◌<◌}
use native.Mathlib.Omega.{arith}
use Rattle.algebra.specs.ring.Ring.{pow}
use Rattle.algebra.specs.lines.Folds.{inner_times, fold1, back1}
use Rattle.algebra.proofs.fourier.Transform.{pow_mul}
use Rattle.numbers.specs.declared.Pair.{Pair}
use Rattle.numbers.specs.Value.{Value, field, conj, i, value_of, pair_of, on_values}
use Rattle.roots.specs.Table.{entry_at, table_root}
use Rattle.numbers.proofs.Values.{value_by, field_ring, field_star}
use Rattle.fold_formulas.specs.FoldFormulas.{stride, line_root, Frame, sum_and_difference, to_hermitian_value}
use Rattle.fold_formulas.proofs.Frames.{stride_inside}
use Rattle.fold_formulas.proofs.hermitian.Forms.{fold_pair, unfold_pair}
use Rattle.folds.specs.FoldedLines.{to_hermitian, from_hermitian}

-- ---- an antihermitian line and the Hermitian one that it is i times

module _ (m : ℕ) (p : ℕ → Value m) where
  pub hermitian_zero : (anti : Bool) {t : ℕ} → t ≡ 0 → to_hermitian m anti p t ≡ p t
  unfolding to_hermitian inner_times
  hermitian_zero false e = refl
  hermitian_zero true e = rw e

  pub hermitian_more : (anti : Bool) (t : ℕ) → (t ≡ 0 → ⊥) → to_hermitian m anti p t ≡ to_hermitian_value m anti (p t)
  unfolding to_hermitian to_hermitian_value inner_times
  hermitian_more anti zero n = absurd (n refl)
  hermitian_more false (suc t) n = refl
  hermitian_more true (suc t) n = refl

  pub back_first : (anti : Bool) {t : ℕ} → t ≡ 0 → from_hermitian m anti p t ≡ p t
  unfolding from_hermitian inner_times
  back_first false e = refl
  back_first true e = rw e

  pub back_kept : {anti : Bool} (t : ℕ) → anti ≡ false → from_hermitian m anti p t ≡ p t
  unfolding from_hermitian
  back_kept t e = rw e

  pub back_rotated : {anti : Bool} (t : ℕ) → anti ≡ true → (t ≡ 0 → ⊥) → from_hermitian m anti p t ≡ (field m).mul (i m) (p t)
  unfolding from_hermitian inner_times
  back_rotated zero e n = absurd (n refl)
  back_rotated (suc t) e n = rw e

-- ---- the forms

abbrev pub fold_of : (m A : ℕ) (v : Value m) (p : ℕ → Value m) → ℕ → Value m
fold_of m A v p = on_values m fold1 A v p

-- with the tables of the conjugate root lent
abbrev pub back_of : (m A : ℕ) (part v : Value m) (p : ℕ → Value m) → ℕ → Value m
back_of m A part v p = on_values m back1 A part (conj m v) p

module _ (m A : ℕ) (v : Value m) (p : ℕ → Value m) where
  fold_zero : {t : ℕ} → t ≡ 0 → fold_of m A v p t ≡ sum_and_difference m (p t)
  unfolding fold1 sum_and_difference
  fold_zero e = rw e

  fold_more : (t : ℕ) → (t ≡ 0 → ⊥) → fold_of m A v p t ≡ fold_pair m A (pow (field m) v t) (p t) (conj m (p (A - t)))
  unfolding fold1
  fold_more zero n = absurd (n refl)
  fold_more (suc t) n = refl

module _ (m A : ℕ) (part v : Value m) (p : ℕ → Value m) where
  back_zero : {t : ℕ} → t ≡ 0 → back_of m A part v p t ≡ (field m).mul part (sum_and_difference m (p t))
  unfolding back1 sum_and_difference
  back_zero e = rw e

  back_more : (t : ℕ) → (t ≡ 0 → ⊥) → back_of m A part v p t ≡ (field m).mul part (unfold_pair m A (pow (field m) v t) (p t) (conj m (p (A - t))))
  unfolding back1
  back_more zero n = absurd (n refl)
  back_more (suc t) n = ap (λ u. (field m).mul part (unfold_pair m A (pow (field m) u (suc t)) (p (suc t)) (conj m (p (A - suc t))))) ((field_star m).conj_conj v)

-- ---- the tables

-- the entry of e(t/N)
pub line_root_lem : (m A : ℕ) {re im : List ℕ} (d t : ℕ) → Frame m A re im → d ≡ stride A → t < A → entry_at re im (d * t) ≡ pair_of (pow (field m) (line_root m A re im) t)
line_root_lem m A {re} {im} d t f h l =
    f.table.entry (d * t) (omega (arith, stride_inside h f.divides l))
    ∙ ap pair_of (ap (λ k. pow (field m) (table_root m re im) (k * t)) h ∙ pow_mul (field_ring m) (table_root m re im) (stride A) t)

-- ---- what the code holds, step by step

three_paths : {X Y Z W : Type 0} (f : X → Y → Z → W) {a b : X} {c d : Y} {x y : Z} → a ≡ b → c ≡ d → x ≡ y → f a c x ≡ f b d y
three_paths f p q r = λ j. f (p j) (q j) (r j)

-- e, x, y and z are e(t/N), the values at t and A - t, and the conjugate of the second
module _ (m A : ℕ) (v : Value m) (p : ℕ → Value m) where
  pub fold_by_zero : {t : ℕ} {x r : Pair} → t ≡ 0 → x ≡ pair_of (p t) → r ≡ pair_of (sum_and_difference m (value_of m x)) → r ≡ pair_of (fold_of m A v p t)
  fold_by_zero n hx hr = hr ∙ ap pair_of (ap (sum_and_difference m) (value_by m _ hx) ∙ sym (fold_zero m A v p n))

  pub fold_by : {t : ℕ} {e x y z r : Pair} → (t ≡ 0 → ⊥) → e ≡ pair_of (pow (field m) v t) → x ≡ pair_of (p t) → y ≡ pair_of (p (A - t)) → z ≡ pair_of (conj m (value_of m y))
      → r ≡ pair_of (fold_pair m A (value_of m e) (value_of m x) (value_of m z)) → r ≡ pair_of (fold_of m A v p t)
  fold_by {t} n he hx hy hz hr =
      hr
      ∙ ap pair_of
      (three_paths (fold_pair m A) (value_by m _ he) (value_by m _ hx) (value_by m _ hz ∙ ap (conj m) (value_by m _ hy)) ∙ sym (fold_more m A v p t n))

module _ (m A : ℕ) (part v : Value m) (p : ℕ → Value m) where
  pub unfold_by_zero : {t : ℕ} {x g r : Pair} → t ≡ 0 → x ≡ pair_of (p t) → g ≡ pair_of (sum_and_difference m (value_of m x)) → r ≡ pair_of ((field m).mul part (value_of m g)) → r ≡ pair_of (back_of m A part v p t)
  unfold_by_zero n hx hg hr =
      hr ∙ ap pair_of (ap ((field m).mul part) (value_by m _ hg ∙ ap (sum_and_difference m) (value_by m _ hx)) ∙ sym (back_zero m A part v p n))

  pub unfold_by : {t : ℕ} {e x y z g r : Pair} → (t ≡ 0 → ⊥) → e ≡ pair_of (pow (field m) v t) → x ≡ pair_of (p t) → y ≡ pair_of (p (A - t)) → z ≡ pair_of (conj m (value_of m y))
      → g ≡ pair_of (unfold_pair m A (value_of m e) (value_of m x) (value_of m z)) → r ≡ pair_of ((field m).mul part (value_of m g)) → r ≡ pair_of (back_of m A part v p t)
  unfold_by {t} n he hx hy hz hg hr =
      hr
      ∙ ap pair_of
      (ap ((field m).mul part) (value_by m _ hg ∙ three_paths (unfold_pair m A) (value_by m _ he) (value_by m _ hx) (value_by m _ hz ∙ ap (conj m) (value_by m _ hy)))
      ∙ sym (back_more m A part v p t n))
