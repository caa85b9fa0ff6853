-- The alternating line, as the code reads it: the value at each place of the whole line, and what the passes compute of it.
use mathlib.Core.Path.{◌≡◌, sym, ◌∙◌, ap}
use mathlib.Core.List.{List}
use Prim.Native.Nat.{ℕ, suc, ◌+◌, ◌*◌, ◌-◌, ◌/◌, ◌%◌, ◌<◌}
use native.Mathlib.Omega.{arith}
use Rattle.algebra.specs.lines.Kinds.{unit}
use Rattle.algebra.specs.lines.Packings.{unfold_b3}
use Rattle.algebra.proofs.ring.Laws.{along}
use Rattle.algebra.proofs.lines.Unfold.{unfold_zero, unfold_low, unfold_middle, read_even, read_odd}
use Rattle.numbers.specs.declared.Pair.{Pair}
use Rattle.numbers.specs.Value.{prime, Value, field, conj, i, real, half, value_of, pair_of, on_values}
use Rattle.numbers.specs.Bounds.{res}
use Rattle.numbers.proofs.Parts.{re_value, im_value}
use Rattle.numbers.proofs.Values.{field_ring}
use Rattle.slices.specs.Pairs.{at, Below, values_of}
use Rattle.slices.proofs.Bounds.{small_at}
use Rattle.slices.proofs.Values.{read_value}
use Rattle.fold_formulas.proofs.alternating.Middles.{real_pair}

-- ---- the whole line

module _ (m A : ℕ) (line : List ℕ) (small : Below (prime m) line) where
  abbrev X : ℕ → Value m
  X = on_values m unfold_b3 A (values_of m line)

  pub whole_zero : {v : Pair} {j : ℕ} → j ≡ 0 → v ≡ at line 0 → record { re = v.re; im = 0 } ≡ pair_of (on_values m unfold_b3 A (values_of m line) j)
  unfolding value_of
  whole_zero {v} {j} z e = ap (λ (w : Pair). record { re = w.re; im = 0 }) e ∙ real_pair m (X j) _ (small_at (prime m) line 0 small).re (ap X z ∙ unfold_zero A _ _ _ (values_of m line) ∙ re_value m _)

  pub whole_low : {v : Pair} (j : ℕ) → (j ≡ 0 → ⊥) → j < A → v ≡ at line j → v ≡ pair_of (on_values m unfold_b3 A (values_of m line) j)
  whole_low j z l e = read_value m line j e small ∙ sym (ap pair_of (unfold_low A _ _ _ (values_of m line) j (positive j z) l))
    where
      positive : (j : ℕ) → (j ≡ 0 → ⊥) → 0 < j
      positive j z = omega arith

  -- the middle: unit A times the second number of pair 0
  whole_middle : (j : ℕ) → j ≡ A → 0 < A → X j ≡ (field m).mul (on_values m unit A A) (real m (res m (at line 0).im))
  unfolding value_of
  whole_middle j e l = ap X e ∙ unfold_middle A _ _ _ (values_of m line) l ∙ ap ((field m).mul (on_values m unit A A)) (im_value m _)

  pub whole_middle_by : {v r : Pair} (j : ℕ) → j ≡ A → 0 < A → v ≡ at line 0 → r ≡ pair_of ((field m).mul (on_values m unit A A) (real m (res m v.im)))
      → r ≡ pair_of (on_values m unfold_b3 A (values_of m line) j)
  whole_middle_by j e l hv hr =
      hr ∙ ap pair_of (ap (λ (w : Pair). (field m).mul (on_values m unit A A) (real m (res m w.im))) hv ∙ sym (whole_middle j e l))

-- the second half: the mate's conjugate at the even places, and its negative at the odd ones
module _ (m A : ℕ) (line : List ℕ) (j : ℕ) (low : A < j) (high : j < 2 * A) where
  abbrev q : ℕ → Value m
  q = values_of m line

  pub whole_high_even : j % 2 ≡ 0 → conj m (values_of m line (2 * A - j)) ≡ on_values m unfold_b3 A (values_of m line) j
  whole_high_even h =
      along (λ k. conj m (q k)) (2 * A - j) (2 * (A - j / 2)) (omega arith)
      ∙ sym (read_even (field_ring m) (conj m) (i m) (real m (half m)) A q (j / 2) (A - j / 2) (omega arith) (omega arith))
      ∙ along (on_values m unfold_b3 A q) (2 * (j / 2)) j (omega arith)

  pub whole_high_odd : (j % 2 ≡ 0 → ⊥) → (field m).neg (conj m (values_of m line (2 * A - j))) ≡ on_values m unfold_b3 A (values_of m line) j
  whole_high_odd h =
      along (λ k. (field m).neg (conj m (q k))) (2 * A - j) (2 * (A - suc (j / 2)) + 1) (omega arith)
      ∙ sym (read_odd (field_ring m) (conj m) (i m) (real m (half m)) A q (j / 2) (A - suc (j / 2)) (omega arith) (omega arith))
      ∙ along (on_values m unfold_b3 A q) (2 * (j / 2) + 1) j (omega arith)
