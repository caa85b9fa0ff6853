-- The paper's choice of a: r is ((a + i)/(a - i))^c for a = 14 and a = 4, and for every smaller a one computed test shows that the 720th power is not -i,
-- or that the 960th is 1 already. With X = (a + i)^c the candidate is X over the conjugate of X, so the test computes no quotient.
use mathlib.Core.Path.{◌≡◌, refl, sym, ◌∙◌, ap, ap₂, subst}
use mathlib.Core.Bool.{Bool, not, cond, ◌||◌}
use mathlib.Core.List.{[], ◌∷◌}
use Prim.Native.Nat.{ℕ, zero, suc, ◌+◌, ◌-◌, ◌%◌, ◌≤◌, ◌<◌}
use native.Mathlib.Nat as N
use native.Mathlib.Omega.{arith}
use lib.Dec.{T, T_not, eqb, eqb→eq}
use Rattle.algebra.specs.ring.Ring.{pow, residue, residues, gauss}
use Rattle.algebra.specs.ring.Ring as Gauss
use Rattle.algebra.proofs.ring.Laws.{add_zero, neg_zero}
use Rattle.algebra.proofs.ring.Solver.{ring, quote, linear}
use Rattle.algebra.proofs.fourier.Transform.{mul_pow, one_pow}
use Rattle.algebra.proofs.ring.Conj.{conj_pow}
use Rattle.algebra.specs.cells.Cell.{below}
use Rattle.algebra.proofs.ring.Bool.{or_e, below_at}
use Rattle.algebra.proofs.fourier.PowerTable.{power_then, power_is}
use Rattle.numbers.specs.Value.{prime, exponent, Value, Residue, field, conj, i, value, real}
use Rattle.numbers.specs.Bounds.{res}
use Rattle.numbers.specs.Value as Value
use Rattle.prime_shape.specs.Shape.{Candidate, Suits, LeastChoice}
use Rattle.roots.specs.Root.{choice, root}
use Rattle.numbers.proofs.Primes.{prime_least, by_choice}
use Rattle.numbers.proofs.Residues.{res_ring, res_val, val_small}
use Rattle.numbers.proofs.Values.{value_path, conj_real, field_ring, field_star}
use Rattle.roots.proofs.Roots.{shape}

-- of X = (b + i)^c: X^720 = x + y i with x + y not 0, or X^960 is real
unfoldable excluded_by : (p c b : ℕ) → Bool
excluded_by p c b =
    power_then p b 1 c 1 0
    (λ u v. power_then p u v 720 1 0 (λ x y. not (eqb ((x + y) % p) 0)) || power_then p u v 960 1 0 (λ x y. eqb y 0))

abbrev excluded : (m b : ℕ) → Bool
excluded m b = excluded_by (prime m) (exponent m) b

first_excluded : T (below 13 (λ b. excluded_by 86399 30 (suc b)))
unfolding below excluded_by power_then
first_excluded = tt

second_excluded : T (below 3 (λ b. excluded_by 302399 105 (suc b)))
unfolding below excluded_by power_then
second_excluded = tt

tested : (m : ℕ) → T (below (choice m - 1) (λ b. excluded m (suc b)))
unfolding choice prime exponent
tested m = by_choice (λ c. T (below (cond c 14 4 - 1) (λ b. excluded_by (cond c 86399 302399) (cond c 30 105) (suc b)))) first_excluded second_excluded (eqb m 1)

module _ (m b : ℕ) where
  open field m use {add as ◌⊕◌, mul as ◌⊗◌, neg as ⊖◌, one as 𝟙}
  open Value.ring m use {add as ◌⊞◌, mul as ◌⊠◌, neg as ⊟◌, zer as 𝟎, one as 𝟏}

  infixl 65 ◌⊕◌
  infixl 65 ◌⊞◌
  infixl 70 ◌⊗◌
  infixl 70 ◌⊠◌
  infix 75 ⊖◌
  infix 75 ⊟◌
  infixl 80 ◌^◌
  abbrev ◌^◌ : Value m → ℕ → Value m
  x ^ n = pow (field m) x n

  -- (b + i)^c
  abbrev X : Value m
  X = (real m (res m b) ⊕ i m) ^ exponent m

  sum_value : real m (res m b) ⊕ i m ≡ value m b 1
  unfolding residues gauss Gauss.imag
  sum_value = value_path (add_zero (res_ring m) (res m b)) ((res_ring m).zero_add (res m 1))

  -- what the test reads
  abbrev is_skew : Value m → Bool
  is_skew P = eqb ((P.0.val + P.1.val) % prime m) 0

  abbrev is_real : Value m → Bool
  is_real P = eqb P.1.val 0

  excluded_is : excluded m b ≡ (not (is_skew (X ^ 720)) || is_real (X ^ 960))
  unfolding excluded_by
  excluded_is =
      power_is (prime m) b 1 big big _ (exponent m)
      ∙ ap (λ W. f W.0.val W.1.val) (ap (λ y. y ^ exponent m) (sym sum_value))
      ∙ ap₂ ◌||◌ (inner (λ x y. not (eqb ((x + y) % prime m) 0)) 720) (inner (λ x y. eqb y 0) 960)
    where
      big : 1 < prime m
      big = omega (arith, prime_least m)

      f : ℕ → ℕ → Bool
      f u v = power_then (prime m) u v 720 1 0 (λ x y. not (eqb ((x + y) % prime m) 0)) || power_then (prime m) u v 960 1 0 (λ x y. eqb y 0)

      inner : (g : ℕ → ℕ → Bool) (n : ℕ) → power_then (prime m) X.0.val X.1.val n 1 0 g ≡ g (X ^ n).0.val (X ^ n).1.val
      inner g n =
          power_is (prime m) X.0.val X.1.val big (val_small m X.1) g n
          ∙ ap (λ y. g (y ^ n).0.val (y ^ n).1.val) (value_path (res_val m X.0) (res_val m X.1))

  -- a value whose product with -i times its conjugate gives it back has parts x and y with x + y = 0
  skew : (P : Value m) → (⊖ i m) ⊗ conj m P ≡ P → (P.0.val + P.1.val) % prime m ≡ 0
  unfolding gauss Gauss.conj Gauss.imag residues residue
  skew P e = ap (λ x. x.val) (parts P.0 P.1 (ap (λ y. y.0) e)) ∙ N.zero-mod (prime m)
    where
      parts : (x y : Residue m) → (⊟ 𝟎) ⊠ x ⊞ ⊟ ((⊟ 𝟏) ⊠ ⊟ y) ≡ x → x ⊞ y ≡ 𝟎
      parts x y h = linear (res_ring m) h (⊟ 𝟏) (ring (res_ring m) (x ∷ y ∷ []) (search quote depth 40 fits 9999) refl)

  real_conj : (P : Value m) → P.1.val ≡ 0 → P ≡ conj m P
  unfolding Gauss.conj residues
  real_conj P e = value_path refl (none ∙ sym (ap ⊟◌ none ∙ neg_zero (res_ring m)))
    where
      none : P.1 ≡ 𝟎
      none = sym (res_val m P.1) ∙ ap (res m) e

  module _ {z : Value m} (h : Candidate (prime m) (exponent m) b z) where
    -- 1/(b - i)^c, where (b - i)^c is the conjugate of X
    abbrev Z : Value m
    Z = h.inverse ^ exponent m

    divisor : conj m X ⊗ Z ≡ 𝟙
    divisor =
        ap (λ y. y ⊗ Z) (conj_pow (field_ring m) (field_star m) _ (exponent m) ∙ ap (λ y. y ^ exponent m) conj_sum)
        ∙ sym (mul_pow (field_ring m) _ h.inverse (exponent m))
        ∙ ap (λ y. y ^ exponent m) h.inverts
        ∙ one_pow (field_ring m) (exponent m)
      where
        conj_sum : conj m (real m (res m b) ⊕ i m) ≡ real m (res m b) ⊕ ⊖ i m
        conj_sum = (field_star m).conj_add _ _ ∙ ap₂ ◌⊕◌ (conj_real m (res m b)) (field_star m).conj_i

    quotient : z ≡ X ⊗ Z
    quotient = h.power ∙ mul_pow (field_ring m) _ h.inverse (exponent m)

    raised : (n : ℕ) → z ^ n ≡ X ^ n ⊗ Z ^ n
    raised n = ap (λ y. y ^ n) quotient ∙ mul_pow (field_ring m) X Z n

    raised_divisor : (n : ℕ) → conj m (X ^ n) ⊗ Z ^ n ≡ 𝟙
    raised_divisor n = ap (λ y. y ⊗ Z ^ n) (conj_pow (field_ring m) (field_star m) X n) ∙ sym (mul_pow (field_ring m) (conj m X) Z n) ∙ ap (λ y. y ^ n) divisor ∙ one_pow (field_ring m) n

    skewed : z ^ 720 ≡ ⊖ i m → T (is_skew (X ^ 720))
    skewed h = subst (λ x. T (eqb x 0)) (sym (skew (X ^ 720) (step (i m) _ _ _ (sym h ∙ raised 720) (raised_divisor 720)))) tt
      where
        step : (x P C W : Value m) → ⊖ x ≡ P ⊗ W → C ⊗ W ≡ 𝟙 → (⊖ x) ⊗ C ≡ P
        step x P C W a d = linear (field_ring m) a C (linear (field_ring m) d P (ring (field_ring m) (x ∷ P ∷ C ∷ W ∷ []) (search quote depth 40 fits 9999) refl))

    early : T (is_real (X ^ 960)) → z ^ 960 ≡ 𝟙
    early t = raised 960 ∙ ap (λ y. y ⊗ Z ^ 960) (real_conj (X ^ 960) (eqb→eq (X ^ 960).1.val 0 t)) ∙ raised_divisor 960

    never : Suits (prime m) z → T (excluded m b) → ⊥
    never s t =
        or_e (not (is_skew (X ^ 720))) (is_real (X ^ 960)) ⊥ (subst T excluded_is t)
        (λ u. T_not (is_skew (X ^ 720)) u (skewed s.quarter))
        (λ u. not_960 (s.order.only 960 (early u)))
      where
        not_960 : ◌≡◌ {A = ℕ} (960 % 2880) 0 → ⊥
        not_960 e = omega arith

pub least_choice : (m : ℕ) → LeastChoice (prime m) (exponent m) (choice m) (root m)
least_choice m = record { candidate = (shape m).candidate; suits = (shape m).suits; least = least }
  where
    least : (b : ℕ) → 1 ≤ b → b < choice m → (z : Value m) → Candidate (prime m) (exponent m) b z → Suits (prime m) z → ⊥
    least zero p l z h s = absurd (omega arith)
    least (suc b) p l z h s = never m (suc b) h s (below_at (choice m - 1) (λ b. excluded m (suc b)) b (tested m) (omega arith))
