-- What the folds compute, for each kind: a plain transform of A points, with a pass before it and a pass after it.
-- No reader of the line's promise needs this page: the proofs say that it is the sum over the whole line.
use Rattle.std.specs.Prelude.{ℕ, suc, ◌+◌, ◌*◌, ◌-◌}
use Rattle.algebra.specs.ring.Ring.{Ops, pow, sum, dft}
use Rattle.algebra.specs.lines.Kinds.{im, Kind, plain, hermitian, antihermitian, alternating, symmetric}
use Rattle.algebra.specs.lines.Kinds.{antisymmetric}
use Rattle.algebra.specs.lines.Packings.{unfold_b3, unfold4, unfold5, pack_b3}
use Rattle.algebra.specs.lines.Folds.{inner_times, alternating_point, mirror_point, finish, fold1, back1, finish3}
use Rattle.algebra.specs.lines.Folds.{alternating_spectrum, twice_M, line3}

module _ {R : Type 0} (𝓞 : Ops R) (conj : R → R) (i half : R) (A : ℕ) (w part : R) (tau : ℕ → R) where
  abbrev odd_sum_lem : (ℕ → R) → R
  odd_sum_lem X = sum 𝓞 A (λ t. X (2 * t + 1))

  unfoldable pub fold_forward : Kind → (ℕ → R) → ℕ → R
  fold_forward plain p = λ s. dft 𝓞 (2 * A) w p s
  fold_forward hermitian p = λ s. dft 𝓞 A (pow 𝓞 w 2) (fold1 𝓞 conj i half A w p) s
  fold_forward antihermitian p =
      λ s. dft 𝓞 A (pow 𝓞 w 2) (fold1 𝓞 conj i half A w (inner_times 𝓞 (𝓞.neg i) p)) s
  fold_forward alternating p =
      finish3 𝓞 conj i half A tau
      (dft 𝓞 A (pow 𝓞 w 2) (alternating_point 𝓞 i (unfold_b3 𝓞 conj i half A p)))
      (sum 𝓞 A (λ t. im 𝓞 conj i half (unfold_b3 𝓞 conj i half A p (2 * t + 1))))
  fold_forward symmetric p =
      finish 𝓞 half A (λ s. 𝓞.mul i (tau s)) 𝓞.one
      (dft 𝓞 A (pow 𝓞 w 2) (mirror_point 𝓞 (unfold4 𝓞 conj i half A p)))
      (odd_sum_lem (unfold4 𝓞 conj i half A p))
  fold_forward antisymmetric p =
      λ s. finish 𝓞 half A (λ s. 𝓞.mul i (tau s)) (𝓞.neg 𝓞.one)
      (dft 𝓞 A (pow 𝓞 w 2) (mirror_point 𝓞 (unfold5 𝓞 conj i half A (λ t. p (t - 1)))))
      (odd_sum_lem (unfold5 𝓞 conj i half A (λ t. p (t - 1)))) (suc s)

  unfoldable pub fold_back : Kind → (ℕ → R) → ℕ → R
  fold_back plain q = λ t. 𝓞.mul part (dft 𝓞 (2 * A) (conj w) q t)
  fold_back hermitian q = back1 𝓞 conj i half A part w (dft 𝓞 A (pow 𝓞 (conj w) 2) q)
  fold_back antihermitian q = inner_times 𝓞 i (back1 𝓞 conj i half A part w (dft 𝓞 A (pow 𝓞 (conj w) 2) q))
  fold_back alternating q =
      pack_b3 𝓞 conj i half A
      (line3 𝓞 conj i half A part
      (dft 𝓞 A (pow 𝓞 (conj w) 2) (alternating_spectrum 𝓞 conj i half A tau q))
      (twice_M 𝓞 conj i half A q))
  fold_back symmetric q =
      λ t. 𝓞.mul part
      (finish 𝓞 half A (λ s. 𝓞.neg (𝓞.mul i (tau s))) 𝓞.one
      (dft 𝓞 A (pow 𝓞 (conj w) 2) (mirror_point 𝓞 (unfold4 𝓞 conj i half A q)))
      (odd_sum_lem (unfold4 𝓞 conj i half A q)) t)
  fold_back antisymmetric q =
      λ t. 𝓞.mul part
      (finish 𝓞 half A (λ s. 𝓞.neg (𝓞.mul i (tau s))) (𝓞.neg 𝓞.one)
      (dft 𝓞 A (pow 𝓞 (conj w) 2) (mirror_point 𝓞 (unfold5 𝓞 conj i half A (λ t. q (t - 1)))))
      (odd_sum_lem (unfold5 𝓞 conj i half A (λ t. q (t - 1)))) (suc t))
