-- Both powers are real: the square of a real value and F × conj F have no imaginary part, and so has a sum of them.
use mathlib.Core.Path.{◌≡◌, refl, ◌∙◌, ap, ap₂}
use mathlib.Core.List.{[], ◌∷◌}
use Prim.Native.Nat.{ℕ, zero, suc, ◌*◌, ◌<◌}
use native.Mathlib.Omega.{arith}
use Rattle.algebra.specs.ring.Ring.{Ops, sum, residues, gauss, conj}
use Rattle.algebra.specs.ring.RingLaws.{CRing}
use Rattle.algebra.specs.cells.Cell.{J, Inside, Cell}
use Rattle.algebra.specs.cells.Cell as Cell
use Rattle.algebra.proofs.ring.Solver.{ring, quote}
use Rattle.numbers.specs.Value.{prime, Value, field, real}
use Rattle.numbers.specs.Value as Value
use Rattle.numbers.proofs.Primes.{prime_pos}
use Rattle.numbers.proofs.Residues.{res_ring, val_res}
use Rattle.power.specs.Power.{over_cell}

module _ {K : Type 0} {𝓚 : Ops K} (𝓡 : CRing 𝓚) where
  sum_real : (n : ℕ) (f : ℕ → K × K) → ((i : ℕ) → i < n → (f i).1 ≡ 𝓚.zer) → (sum (gauss 𝓚) n f).1 ≡ 𝓚.zer
  unfolding sum gauss
  sum_real zero f e = refl
  sum_real (suc n) f e = ap₂ 𝓚.add (sum_real n f (λ i l. e i (omega arith))) (e n (omega arith)) ∙ ring 𝓡 [] (search quote depth 40 fits 9999) refl

  square_real : (x : K) → ((gauss 𝓚).mul (x, 𝓚.zer) (x, 𝓚.zer)).1 ≡ 𝓚.zer
  unfolding gauss
  square_real x = ring 𝓡 (x ∷ []) (search quote depth 40 fits 9999) refl

  norm_real : (v : K × K) → ((gauss 𝓚).mul v (conj 𝓚 v)).1 ≡ 𝓚.zer
  unfolding gauss conj
  norm_real v = ring 𝓡 (v.0 ∷ v.1 ∷ []) (search quote depth 40 fits 9999) refl

module _ (m : ℕ) (a : J) where
  cell_real : (F : Cell (Value m)) → ((j : J) → Inside a j → (Cell.at F j).1 ≡ (Value.ring m).zer) → (over_cell m a F).1.val ≡ 0
  unfolding residues
  cell_real F e =
      ap (λ x. x.val)
      (sum_real (res_ring m) (2 * a.0) _ (λ h lh. sum_real (res_ring m) (2 * a.1) _ (λ k lk. sum_real (res_ring m) (2 * a.2) _ (λ l ll. e (h, k, l) (lh, lk, ll)))))
      ∙ val_res m (prime_pos m)

  -- of a map whose values are real
  pub map_squares_real : (M : Cell (Value m)) → ((x : J) → Inside a x → Cell.at M x ≡ real m (Cell.at M x).0) → (over_cell m a (λ x y z. (field m).mul (M x y z) (M x y z))).1.val ≡ 0
  unfolding residues
  map_squares_real M r = cell_real (λ x y z. (field m).mul (M x y z) (M x y z)) (λ j n. ap (λ v. ((field m).mul v v).1) (r j n) ∙ square_real (res_ring m) (Cell.at M j).0)

  -- of any factors
  pub factor_squares_real : (F : Cell (Value m)) → (over_cell m a (λ h k l. (field m).mul (F h k l) (Value.conj m (F h k l)))).1.val ≡ 0
  factor_squares_real F = cell_real (λ h k l. (field m).mul (F h k l) (Value.conj m (F h k l))) (λ j n. norm_real (res_ring m) (Cell.at F j))
