-- The formulas of a Hermitian line, as the code computes them.
use mathlib.Core.Path.{◌≡◌, refl, ◌∙◌, sym, ap, ap₂}
use mathlib.Core.Bool.{Bool, true, false}
use mathlib.Core.List.{[], ◌∷◌}
use Prim.Native.Nat.{ℕ}
use Rattle.algebra.specs.ring.Ring.{Ops, residues, gauss, imag}
use Rattle.algebra.specs.ring.RingLaws.{CRing}
use Rattle.algebra.specs.lines.Folds.{hermitian_point, hermitian_value}
use Rattle.algebra.proofs.ring.Laws.{neg_mul}
use Rattle.algebra.proofs.ring.Solver.{ring, quote}
use Rattle.numbers.specs.declared.Pair.{Pair}
use Rattle.numbers.specs.Value.{prime, Value, field, i, real, half, value_of, pair_of, on_values}
use Rattle.numbers.specs.Bounds.{Small}
use Rattle.numbers.specs.Value as Value
use Rattle.numbers.proofs.Residues.{res_ring}
use Rattle.numbers.proofs.Values.{value_path, value_by, pair_value, field_ring}
use Rattle.numbers.proofs.Parts.{re_value, im_value}
use Rattle.fold_formulas.specs.FoldFormulas.{sum_and_difference, to_hermitian_value}

-- ---- pair 0: the sum and the difference of two reals

sum_difference_in : {R : Type 0} {𝓞 : Ops R} (𝓡 : CRing 𝓞) (a b : R)
    → (gauss 𝓞).add ((gauss 𝓞).add (a, 𝓞.zer) (b, 𝓞.zer)) ((gauss 𝓞).mul (imag 𝓞) ((gauss 𝓞).add (a, 𝓞.zer) ((gauss 𝓞).neg (b, 𝓞.zer)))) ≡ (𝓞.add a b, 𝓞.add a (𝓞.neg b))
unfolding gauss imag
sum_difference_in 𝓡 a b =
    value_path
    (ring 𝓡 (a ∷ b ∷ []) (search quote depth 40 fits 9999) refl)
    (ring 𝓡 (a ∷ b ∷ []) (search quote depth 40 fits 9999) refl)

pub sum_difference_parts : (m : ℕ) (z : Value m) → sum_and_difference m z ≡ ((Value.ring m).add z.0 z.1, (Value.ring m).add z.0 ((Value.ring m).neg z.1))
unfolding sum_and_difference residues
sum_difference_parts m z =
    ap₂ (λ x y. (field m).add ((field m).add x y) ((field m).mul (i m) ((field m).add x ((field m).neg y)))) (re_value m z) (im_value m z)
    ∙ sum_difference_in (res_ring m) z.0 z.1

-- ---- the other pairs

abbrev pub fold_pair : (m A : ℕ) (e x y : Value m) → Value m
fold_pair m A = on_values m hermitian_point A

abbrev pub unfold_pair : (m A : ℕ) (e x y : Value m) → Value m
unfold_pair m A = on_values m hermitian_value A

module _ (m A : ℕ) (e x y : Value m) where
  pub fold_pair_by : {d u r : Pair} → d ≡ pair_of ((field m).add x ((field m).neg y)) → u ≡ pair_of ((field m).mul (i m) (value_of m d))
      → r ≡ pair_of ((field m).add ((field m).add x y) ((field m).mul e (value_of m u))) → r ≡ pair_of (fold_pair m A e x y)
  unfolding hermitian_point
  fold_pair_by hd hu hr =
      hr ∙ ap pair_of
      (ap (λ z. (field m).add ((field m).add x y) ((field m).mul e z)) (value_by m _ hu ∙ ap ((field m).mul (i m)) (value_by m _ hd))
      ∙ ring (field_ring m) (e ∷ x ∷ y ∷ i m ∷ []) (search quote depth 40 fits 9999) refl)

  pub unfold_pair_by : {d u g r : Pair} → d ≡ pair_of ((field m).add y ((field m).neg x)) → u ≡ pair_of ((field m).mul (i m) (value_of m d))
      → g ≡ pair_of ((field m).add ((field m).add x y) ((field m).mul e (value_of m u)))
      → r ≡ pair_of ((field m).mul (real m (half m)) (value_of m g)) → r ≡ pair_of (unfold_pair m A e x y)
  unfolding hermitian_value
  unfold_pair_by hd hu hg hr =
      hr
      ∙ ap (λ z. pair_of ((field m).mul (real m (half m)) z))
      (value_by m _ hg
      ∙ ap (λ z. (field m).add ((field m).add x y) ((field m).mul e z)) (value_by m _ hu ∙ ap ((field m).mul (i m)) (value_by m _ hd))
      ∙ ring (field_ring m) (e ∷ x ∷ y ∷ i m ∷ []) (search quote depth 40 fits 9999) refl)

-- ---- the values of the two kinds

module _ (m : ℕ) {anti : Bool} where
  pub hermitian_kept : {v : Pair} → anti ≡ false → Small (prime m) v → v ≡ pair_of (to_hermitian_value m anti (value_of m v))
  unfolding to_hermitian_value
  hermitian_kept e h = rw e (sym (pair_value m h))

  pub hermitian_rotated : (v : Pair) {u r : Pair} → anti ≡ true → u ≡ pair_of ((field m).mul (i m) (value_of m v)) → r ≡ pair_of ((field m).neg (value_of m u)) → r ≡ pair_of (to_hermitian_value m anti (value_of m v))
  unfolding to_hermitian_value
  hermitian_rotated v e hu hr = rw e (hr ∙ ap pair_of (ap (field m).neg (value_by m _ hu) ∙ sym (neg_mul (field_ring m) (i m) (value_of m v))))
