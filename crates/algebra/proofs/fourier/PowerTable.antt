-- The powers of a value u + v i of residues modulo p, computed by their parts: a single power, and a table over all of them, where one test that is
-- computed along the table gives the table's rule at every place.
use mathlib.Core.Path.{◌≡◌, sym, ◌∙◌, ap, ap₂, subst, subst₂}
use mathlib.Core.Bool.{Bool, true, false, ◌&&◌}
use mathlib.Core.List.{List, [], ◌∷◌}
use Prim.Native.Nat.{ℕ, zero, suc, ◌+◌, ◌*◌, ◌-◌, ◌%◌, ◌<◌}
use native.Mathlib.Nat.{le_of_suc-le-suc, not-suc-le-zero}
use native.Mathlib.Omega.{arith}
use lib.Dec.{T}
use lib.ListN.{get_or}
use Rattle.algebra.specs.ring.Ring.{pow, Res, residue, residues, gauss}
use Rattle.algebra.specs.ring.RingLaws.{CRing}
use Rattle.algebra.proofs.ring.Laws.{mul_one, mul_neg}
use Rattle.algebra.proofs.fourier.Transform.{pow_zero, pow_suc}
use Rattle.algebra.proofs.ring.ResidueRing.{residue_ring, residue_val, val_residue, residue_add, residue_mul, residue_neg}
use Rattle.algebra.proofs.ring.GaussRing.{gauss_ring}
use Rattle.algebra.proofs.ring.Bool.{and_l, and_r}

-- the parts of a + b i times the power n, handed on to f
unfoldable pub power_then : {A : Type 0} (p u v n a b : ℕ) → (ℕ → ℕ → A) → A
power_then p u v zero a b f = f a b
power_then p u v (suc n) a b f = power_then p u v n ((a * u + b * (p - v)) % p) ((a * v + b * u) % p) f

-- the test passes at each of the first n places, on the number there and on the parts of the power there; the power at the first place is a + b i
unfoldable pub passes : (test : ℕ → ℕ → ℕ → Bool) (p u v n a b : ℕ) → List ℕ → Bool
passes test p u v zero a b xs = true
passes test p u v (suc n) a b [] = false
passes test p u v (suc n) a b (x ∷ xs) = test x a b && passes test p u v n ((a * u + b * (p - v)) % p) ((a * v + b * u) % p) xs

module _ (p u v : ℕ) (big : 1 < p) (below : v < p) where
  open gauss (residues p) use {mul as ◌⊗◌, one as 𝟙}

  infixl 70 ◌⊗◌
  abbrev w : Res p × Res p
  w = (residue p u, residue p v)

  abbrev w^ : ℕ → Res p × Res p
  w^ k = pow (gauss (residues p)) w k

  pos : 0 < p
  pos = omega arith

  𝓖 : CRing (gauss (residues p))
  𝓖 = gauss_ring (residue_ring p pos)

  -- the parts of the next product
  next_re : (z : Res p × Res p) → residue p (z.0.val * u + z.1.val * (p - v)) ≡ (z ⊗ w).0
  unfolding gauss
  next_re z = cc (residue_add p (z.0.val * u) (z.1.val * (p - v)), residue_mul p z.0.val u, residue_mul p z.1.val (p - v), residue_neg p v below, residue_val p z.0, residue_val p z.1, mul_neg (residue_ring p pos) z.1 (residue p v))

  next_im : (z : Res p × Res p) → residue p (z.0.val * v + z.1.val * u) ≡ (z ⊗ w).1
  unfolding gauss
  next_im z = cc (residue_add p (z.0.val * v) (z.1.val * u), residue_mul p z.0.val v, residue_mul p z.1.val u, residue_val p z.0, residue_val p z.1)

  next : (z : Res p × Res p) → ((z.0.val * u + z.1.val * (p - v)) % p ≡ (z ⊗ w).0.val) × ((z.0.val * v + z.1.val * u) % p ≡ (z ⊗ w).1.val)
  unfolding residue
  next z = (ap (λ y. y.val) (next_re z), ap (λ y. y.val) (next_im z))

  -- the product with the next power, and with the power 0
  onward : (z : Res p × Res p) (k : ℕ) → z ⊗ w ⊗ w^ k ≡ z ⊗ w^ (suc k)
  onward z k = 𝓖.mul_assoc z _ _ ∙ ap (λ y. z ⊗ y) (sym (pow_suc 𝓖 _ k))

  here : (z : Res p × Res p) → z ≡ z ⊗ w^ 0
  here z = sym (ap (λ y. z ⊗ y) (pow_zero 𝓖 _) ∙ mul_one 𝓖 z)

  power_from : {A : Type 0} (f : ℕ → ℕ → A) (n : ℕ) (z : Res p × Res p) → power_then p u v n z.0.val z.1.val f ≡ f (z ⊗ w^ n).0.val (z ⊗ w^ n).1.val
  unfolding power_then
  power_from f zero z = ap (λ (y : Res p × Res p). f y.0.val y.1.val) (here z)
  power_from f (suc n) z = ap₂ (λ a b. power_then p u v n a b f) (next z).0 (next z).1 ∙ power_from f n _ ∙ ap (λ (y : Res p × Res p). f y.0.val y.1.val) (onward z n)

  rule_from : (test : ℕ → ℕ → ℕ → Bool) (n : ℕ) (z : Res p × Res p) (xs : List ℕ) → T (passes test p u v n z.0.val z.1.val xs)
      → (k : ℕ) → k < n → T (test (get_or xs k 0) (z ⊗ w^ k).0.val (z ⊗ w^ k).1.val)
  unfolding passes
  rule_from test zero z xs t k h = absurd (not-suc-le-zero h)
  rule_from test (suc n) z [] t k h = absurd t
  rule_from test (suc n) z (x ∷ xs) t zero h = subst (λ (y : Res p × Res p). T (test x y.0.val y.1.val)) (here z) (and_l (test x z.0.val z.1.val) _ t)
  rule_from test (suc n) z (x ∷ xs) t (suc k) h =
      subst (λ (y : Res p × Res p). T (test (get_or xs k 0) y.0.val y.1.val)) (onward z k)
      (rule_from test n _ xs (subst₂ (λ (a b : ℕ). T (passes test p u v n a b xs)) (next z).0 (next z).1 (and_r (test x z.0.val z.1.val) _ t)) k (le_of_suc-le-suc h))

  one_parts : (1 ≡ 𝟙.0.val) × (0 ≡ 𝟙.1.val)
  unfolding gauss residues
  one_parts = (sym (val_residue p 1 big), sym (val_residue p 0 pos))

  -- from the power 0 on
  pub power_is : {A : Type 0} (f : ℕ → ℕ → A) (n : ℕ) → power_then p u v n 1 0 f ≡ f (w^ n).0.val (w^ n).1.val
  power_is f n = ap₂ (λ a b. power_then p u v n a b f) one_parts.0 one_parts.1 ∙ power_from f n 𝟙 ∙ ap (λ (y : Res p × Res p). f y.0.val y.1.val) (𝓖.one_mul (w^ n))

  pub rule_at : (test : ℕ → ℕ → ℕ → Bool) (n : ℕ) (xs : List ℕ) → T (passes test p u v n 1 0 xs) → (k : ℕ) → k < n → T (test (get_or xs k 0) (w^ k).0.val (w^ k).1.val)
  rule_at test n xs t k h =
      subst (λ (y : Res p × Res p). T (test (get_or xs k 0) y.0.val y.1.val)) (𝓖.one_mul (w^ k))
      (rule_from test n 𝟙 xs (subst₂ (λ (a b : ℕ). T (passes test p u v n a b xs)) one_parts.0 one_parts.1 t) k h)
