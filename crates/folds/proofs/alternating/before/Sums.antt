-- Before the transform of an alternating line: a value of the short line, and the sum of the imaginary parts at the odd places.
use mathlib.Core.Path.{◌≡◌, refl, sym, ◌∙◌, ap, ap₂}
use mathlib.Core.List.{List}
use Prim.Native.Nat.{ℕ, ◌+◌, ◌*◌, ◌≤◌, ◌<◌}
use native.Mathlib.Numerals.{add-one}
use native.Mathlib.Omega.{arith}
use Rattle.algebra.specs.ring.Ring.{sum, residues, gauss}
use Rattle.algebra.specs.lines.Kinds.{im}
use Rattle.algebra.specs.lines.Packings.{unfold_b3}
use Rattle.algebra.specs.lines.Folds.{alternating_point}
use Rattle.algebra.proofs.ring.ResidueRing.{residue_add}
use Rattle.numbers.specs.declared.Pair.{Pair}
use Rattle.numbers.specs.Value.{prime, IsModulus, Value, field, i, real, value_of, pair_of, on_values}
use Rattle.numbers.specs.Bounds.{res}
use Rattle.numbers.proofs.Primes.{prime_most}
use Rattle.numbers.proofs.Residues.{res_by, res_val}
use Rattle.numbers.proofs.Parts.{im_value}
use Rattle.numbers.proofs.Values.{small_by, value_by}
use Rattle.numbers.proofs.RealValues.{real_add}
use Rattle.slices.specs.Pairs.{values_of}

pub short_by : (m : ℕ) (X : ℕ → Value m) (t : ℕ) {x y z r : Pair} → x ≡ pair_of (X (2 * t)) → y ≡ pair_of (X (2 * t + 1))
    → z ≡ pair_of ((field m).mul (i m) (value_of m y)) → r ≡ pair_of ((field m).add (value_of m x) (value_of m z)) → r ≡ pair_of (alternating_point (field m) (i m) X t)
unfolding alternating_point
short_by m X t ex ey ez er =
    er ∙ ap pair_of (ap₂ (field m).add (value_by m _ ex) (value_by m _ ez ∙ ap ((field m).mul (i m)) (value_by m _ ey)))

-- the sum of the imaginary parts at the odd places: t of them are in s, not reduced
abbrev imaginary_odd : (m A : ℕ) (line : List ℕ) → ℕ → Value m
imaginary_odd m A line t = on_values m im (on_values m unfold_b3 A (values_of m line) (2 * t + 1))

imaginary_part : (m : ℕ) (z : Value m) {v : Pair} → v ≡ pair_of z → real m (res m v.im) ≡ on_values m im z
unfolding pair_of
imaginary_part m z e = ap (real m) (ap (λ (w : Pair). res m w.im) e ∙ res_val m _) ∙ sym (im_value m z)

pub record OddSum (m A : ℕ) (line : List ℕ) (s t : ℕ) : Type 0 where
  pub le : t ≤ A
  pub bound : s ≤ 302399 * t
  pub sum_is : real m (res m s) ≡ sum (field m) t (imaginary_odd m A line)

module _ {m A : ℕ} {line : List ℕ} where
  pub odd_sum_start : OddSum m A line 0 0
  unfolding sum gauss residues
  odd_sum_start = record { le = omega arith; bound = omega arith; sum_is = refl }

  pub odd_sum_next : {s t : ℕ} {v : Pair} → IsModulus m → OddSum m A line s t → t < A
      → v ≡ pair_of (on_values m unfold_b3 A (values_of m line) (2 * t + 1)) → OddSum m A line (s + v.im) (t + 1)
  unfolding sum
  odd_sum_next {s} {t} {v} is h l e = record {
    le = omega arith;
    bound = omega (arith, h.bound, prime_most is, (small_by m _ e).im);
    sum_is = ap (real m) (residue_add (prime m) s v.im) ∙ real_add m _ _ ∙ ap₂ (field m).add h.sum_is (imaginary_part m _ e) ∙ ap (λ n. sum (field m) n (imaginary_odd m A line)) (sym (add-one t));
  }

  pub odd_sum_done : {s t r : ℕ} → OddSum m A line s t → A ≤ t → r ≡ (res m s).val → real m (res m r) ≡ sum (field m) A (imaginary_odd m A line)
  odd_sum_done {s} {t} h l e = ap (real m) (res_by m (res m s) e) ∙ h.sum_is ∙ ap (λ n. sum (field m) n (imaginary_odd m A line)) (omega (arith, h.le))
