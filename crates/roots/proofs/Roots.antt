-- Both primes have the shape. Of each is computed: trial division, ((a + i)/(a - i))^c, r^720 = -i, and that r^1440, r^960 and r^576 are not 1.
-- Every law of the root follows from the shape alone, for any prime (crate prime_shape).
use mathlib.Core.Path.{◌≡◌, refl, sym, ap, subst}
use mathlib.Core.Bool.{not, cond}
use Prim.Native.Nat.{ℕ, ◌-◌, ◌≤◌}
use lib.Dec.{T, T_not, eqb}
use borrow.Author.Tests.{eq-eqb}
use Rattle.algebra.specs.ring.Ring.{pow, Res, residue, residues, gauss}
use Rattle.algebra.specs.ring.Ring as Gauss
use Rattle.algebra.specs.fourier.Axis.{Root}
use Rattle.algebra.proofs.ring.ResidueRing.{val_path}
use Rattle.numbers.specs.Value.{prime, exponent, IsModulus, field, conj, i, value, real, part}
use Rattle.prime_shape.specs.Shape.{Candidate, Suits, OrderIs, Shape}
use Rattle.prime_shape.proofs.TrialDivision.{prime_86399, prime_302399}
use Rattle.prime_shape.proofs.Orders.{suits_by}
use Rattle.prime_shape.proofs.Shapes as Shapes
use Rattle.roots.specs.Root.{choice, root}
use Rattle.roots.proofs.Inverses.{first_inverse}
use Rattle.numbers.proofs.Primes.{prime_next, by_choice}
use Rattle.numbers.proofs.Values.{value_path}

-- values are equal by their numbers
by_numbers : {p : ℕ} {x y : Res p × Res p} → x.0.val ≡ y.0.val → x.1.val ≡ y.1.val → x ≡ y
by_numbers h k = value_path (val_path h) (val_path k)

-- numbers that are not the same
differ : (n k : ℕ) → T (not (eqb n k)) → n ≡ k → ⊥
differ n k t e = T_not (eqb n k) t (subst T (sym (eq-eqb n k e)) tt)

first_candidate : Candidate (prime 1) (exponent 1) (choice 1) (root 1)
unfolding prime exponent choice root residue residues gauss Gauss.imag pow
first_candidate = record { inverse = first_inverse; inverts = by_numbers refl refl; power = by_numbers refl refl }

first_suits : Suits (prime 1) (root 1)
unfolding prime root residue residues gauss Gauss.imag pow
first_suits = suits_by 86399 prime_86399.above (root 1) (by_numbers refl refl) (λ e. differ _ _ tt (ap (λ z. z.0.val) e)) (λ e. differ _ _ tt (ap (λ z. z.1.val) e)) (λ e. differ _ _ tt (ap (λ z. z.1.val) e))

first_shape : Shape (prime 1) (exponent 1) (choice 1) (root 1)
unfolding prime
first_shape = record { is_prime = prime_86399; next = prime_next 1; candidate = first_candidate; suits = first_suits }

second_candidate : Candidate (prime 2) (exponent 2) (choice 2) (root 2)
unfolding prime exponent choice root residue residues gauss Gauss.imag pow
second_candidate = record { inverse = value 2 177882 195670; inverts = by_numbers refl refl; power = by_numbers refl refl }

second_suits : Suits (prime 2) (root 2)
unfolding prime root residue residues gauss Gauss.imag pow
second_suits = suits_by 302399 prime_302399.above (root 2) (by_numbers refl refl) (λ e. differ _ _ tt (ap (λ z. z.0.val) e)) (λ e. differ _ _ tt (ap (λ z. z.1.val) e)) (λ e. differ _ _ tt (ap (λ z. z.1.val) e))

second_shape : Shape (prime 2) (exponent 2) (choice 2) (root 2)
unfolding prime
second_shape = record { is_prime = prime_302399; next = prime_next 2; candidate = second_candidate; suits = second_suits }

-- the shape of the prime that m chooses
pub shape : (m : ℕ) → Shape (prime m) (exponent m) (choice m) (root m)
unfolding prime exponent choice root
shape m = by_choice
    (λ b. Shape (cond b 86399 302399) (cond b 30 105) (cond b 14 4) (residue (cond b 86399 302399) (cond b 125 296865), residue (cond b 86399 302399) (cond b 48584 64524)))
    first_shape second_shape (eqb m 1)

-- its laws
module _ (m : ℕ) (is : IsModulus m) where
  open field m use {mul as ◌⊗◌, neg as ⊖◌, one as 𝟙}

  infixl 70 ◌⊗◌
  infix 75 ⊖◌
  pub root_inverse : root m ⊗ conj m (root m) ≡ 𝟙
  root_inverse = Shapes.circle (shape m)

  pub quarter_turn : pow (field m) (root m) 720 ≡ ⊖ i m
  quarter_turn = Shapes.quarter_turn (shape m)

  pub half_turn : pow (field m) (root m) 1440 ≡ ⊖ 𝟙
  half_turn = Shapes.half_turn (shape m)

  pub full_turn : pow (field m) (root m) 2880 ≡ 𝟙
  full_turn = Shapes.full_turn (shape m)

  pub root_of_unity : Root (field m) 2880 (root m) (conj m (root m)) (real m (part m 2880))
  unfolding part
  root_of_unity = Shapes.root_of_unity (shape m)

  pub root_order : OrderIs (prime m) 2880 (root m)
  root_order = (shape m).suits.order

  pub conj_power : (k : ℕ) → k ≤ 2880 → conj m (pow (field m) (root m) k) ≡ pow (field m) (root m) (2880 - k)
  conj_power = Shapes.conj_power (shape m)
