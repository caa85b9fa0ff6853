-- The norm a² + b² of a value a + b i: it is the value times its conjugate, and units do not change it.
use mathlib.Core.Path.{◌≡◌, refl, ◌∙◌, ap}
use mathlib.Core.Bool.{Bool, true, false}
use mathlib.Core.List.{[], ◌∷◌}
use Prim.Native.Nat.{ℕ, zero, suc}
use Rattle.algebra.specs.ring.Ring.{Ops, pow, sum, gauss, conj, imag}
use Rattle.algebra.specs.ring.RingLaws.{CRing}
use Rattle.algebra.specs.cells.CellPack.{of_part}
use Rattle.algebra.proofs.ring.Solver.{ring, quote}

module _ {R : Type 0} (𝓞 : Ops R) where
  abbrev pub norm : R × R → R
  norm x = 𝓞.add (𝓞.mul x.0 x.0) (𝓞.mul x.1 x.1)

module _ {R : Type 0} {𝓞 : Ops R} (𝓡 : CRing 𝓞) where
  pub norm_conj_product : (x : R × R) → ((gauss 𝓞).mul x (conj 𝓞 x)).0 ≡ norm 𝓞 x
  unfolding gauss conj
  norm_conj_product x = ring 𝓡 (x.0 ∷ x.1 ∷ []) (search quote depth 40 fits 9999) refl

  pub norm_mul : (x y : R × R) → norm 𝓞 ((gauss 𝓞).mul x y) ≡ 𝓞.mul (norm 𝓞 x) (norm 𝓞 y)
  unfolding gauss
  norm_mul x y = ring 𝓡 (x.0 ∷ x.1 ∷ y.0 ∷ y.1 ∷ []) (search quote depth 40 fits 9999) refl

  pub norm_conj : (x : R × R) → norm 𝓞 (conj 𝓞 x) ≡ norm 𝓞 x
  unfolding conj
  norm_conj x = ring 𝓡 (x.0 ∷ x.1 ∷ []) (search quote depth 40 fits 9999) refl

  pub norm_neg : (x : R × R) → norm 𝓞 ((gauss 𝓞).neg x) ≡ norm 𝓞 x
  unfolding gauss
  norm_neg x = ring 𝓡 (x.0 ∷ x.1 ∷ []) (search quote depth 40 fits 9999) refl

  -- over i
  pub norm_over_i : (x : R × R) → norm 𝓞 ((gauss 𝓞).mul ((gauss 𝓞).neg (imag 𝓞)) x) ≡ norm 𝓞 x
  unfolding gauss imag
  norm_over_i x = ring 𝓡 (x.0 ∷ x.1 ∷ []) (search quote depth 40 fits 9999) refl

  -- times a power of -1
  norm_sign : (t : ℕ) → norm 𝓞 (pow (gauss 𝓞) ((gauss 𝓞).neg (gauss 𝓞).one) t) ≡ 𝓞.one
  unfolding pow gauss
  norm_sign zero = ring 𝓡 [] (search quote depth 40 fits 9999) refl
  norm_sign (suc t) = norm_mul (𝓞.neg 𝓞.one, 𝓞.neg 𝓞.zer) (pow (gauss 𝓞) ((gauss 𝓞).neg (gauss 𝓞).one) t) ∙ ap (𝓞.mul _) (norm_sign t) ∙ ring 𝓡 [] (search quote depth 40 fits 9999) refl

  pub norm_signed : (t : ℕ) (x : R × R) → norm 𝓞 ((gauss 𝓞).mul (pow (gauss 𝓞) ((gauss 𝓞).neg (gauss 𝓞).one) t) x) ≡ norm 𝓞 x
  norm_signed t x = norm_mul (pow (gauss 𝓞) ((gauss 𝓞).neg (gauss 𝓞).one) t) x ∙ ap (λ y. 𝓞.mul y (norm 𝓞 x)) (norm_sign t) ∙ 𝓡.one_mul _

  -- of a real value, and of one or the other part
  pub real_square : (x : R) → ((gauss 𝓞).mul (x, 𝓞.zer) (x, 𝓞.zer)).0 ≡ 𝓞.mul x x
  unfolding gauss
  real_square x = ring 𝓡 (x ∷ []) (search quote depth 40 fits 9999) refl

  pub norm_parts : (b : Bool) (x y : R) → 𝓞.add (norm 𝓞 (x, 𝓞.zer)) (norm 𝓞 (of_part 𝓞 b y)) ≡ norm 𝓞 (x, y)
  norm_parts true x y = ring 𝓡 (x ∷ y ∷ []) (search quote depth 40 fits 9999) refl
  norm_parts false x y = ring 𝓡 (x ∷ y ∷ []) (search quote depth 40 fits 9999) refl

  -- the real part of a sum
  pub real_sum : (n : ℕ) (f : ℕ → R × R) → (sum (gauss 𝓞) n f).0 ≡ sum 𝓞 n (λ i. (f i).0)
  unfolding sum gauss
  real_sum zero f = refl
  real_sum (suc n) f = ap (λ y. 𝓞.add y (f n).0) (real_sum n f)
