-- R[i] is a commutative ring with a conjugation, where R is one.
use mathlib.Core.Path.{refl}
use mathlib.Core.List.{[], ◌∷◌}
use Rattle.algebra.specs.ring.Ring.{Ops, gauss, conj, imag}
use Rattle.algebra.specs.ring.RingLaws.{CRing, Star}
use Rattle.algebra.proofs.ring.Paths.{pair}
use Rattle.algebra.proofs.ring.Solver.{ring, quote}

module _ {R : Type 0} {𝓞 : Ops R} (𝓡 : CRing 𝓞) where
  pub gauss_ring : CRing (gauss 𝓞)
  unfolding gauss
  gauss_ring = record {
    add_assoc = λ x y z. pair (𝓡.add_assoc _ _ _) (𝓡.add_assoc _ _ _);
    add_comm = λ x y. pair (𝓡.add_comm _ _) (𝓡.add_comm _ _);
    zero_add = λ x. pair (𝓡.zero_add _) (𝓡.zero_add _);
    neg_add = λ x. pair (𝓡.neg_add _) (𝓡.neg_add _);
    mul_assoc = λ x y z. pair (ring 𝓡 (x.0 ∷ x.1 ∷ y.0 ∷ y.1 ∷ z.0 ∷ z.1 ∷ []) (search quote depth 40 fits 9999) refl) (ring 𝓡 (x.0 ∷ x.1 ∷ y.0 ∷ y.1 ∷ z.0 ∷ z.1 ∷ []) (search quote depth 40 fits 9999) refl);
    mul_comm = λ x y. pair (ring 𝓡 (x.0 ∷ x.1 ∷ y.0 ∷ y.1 ∷ []) (search quote depth 40 fits 9999) refl) (ring 𝓡 (x.0 ∷ x.1 ∷ y.0 ∷ y.1 ∷ []) (search quote depth 40 fits 9999) refl);
    one_mul = λ x. pair (ring 𝓡 (x.0 ∷ x.1 ∷ []) (search quote depth 40 fits 9999) refl) (ring 𝓡 (x.0 ∷ x.1 ∷ []) (search quote depth 40 fits 9999) refl);
    left_distrib = λ x y z. pair (ring 𝓡 (x.0 ∷ x.1 ∷ y.0 ∷ y.1 ∷ z.0 ∷ z.1 ∷ []) (search quote depth 40 fits 9999) refl) (ring 𝓡 (x.0 ∷ x.1 ∷ y.0 ∷ y.1 ∷ z.0 ∷ z.1 ∷ []) (search quote depth 40 fits 9999) refl);
  }

  pub gauss_star : Star (gauss 𝓞) (conj 𝓞) (imag 𝓞)
  unfolding gauss conj imag
  gauss_star = record {
    conj_add = λ x y. pair refl (ring 𝓡 (x.1 ∷ y.1 ∷ []) (search quote depth 40 fits 9999) refl);
    conj_mul = λ x y. pair (ring 𝓡 (x.0 ∷ x.1 ∷ y.0 ∷ y.1 ∷ []) (search quote depth 40 fits 9999) refl) (ring 𝓡 (x.0 ∷ x.1 ∷ y.0 ∷ y.1 ∷ []) (search quote depth 40 fits 9999) refl);
    conj_neg = λ x. refl;
    conj_one = pair refl (ring 𝓡 [] (search quote depth 40 fits 9999) refl);
    conj_conj = λ x. pair refl (ring 𝓡 (x.1 ∷ []) (search quote depth 40 fits 9999) refl);
    i_square = pair (ring 𝓡 [] (search quote depth 40 fits 9999) refl) (ring 𝓡 [] (search quote depth 40 fits 9999) refl);
    conj_i = pair (ring 𝓡 [] (search quote depth 40 fits 9999) refl) refl;
  }
