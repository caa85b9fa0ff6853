-- The whole number next to zero that is congruent to a residue: it is one, and there is no other.
use mathlib.Core.Path.{◌≡◌, refl, sym, ◌∙◌, ap}
use mathlib.Core.Bool.{Bool, true, false, cond}
use Prim.Native.Nat.{ℕ, suc, ◌-◌, ◌/◌, ◌%◌, ◌<◌, ◌≤◌}
use native.Mathlib.Nat.{mod-eq_of_lt}
use native.Mathlib.Omega.{arith}
use lib.Dec.{leb}
use borrow.Author.Tests.{leb-true, leb-false, le-leb, lt-leb}
use Rattle.algebra.proofs.ring.Laws.{along}
use Rattle.signed.specs.Integers.{ℤ, pos, negsuc, residue_z, centred, Centre, CentredOnly}

-- ---- the two halves

pub centred_low : (p x : ℕ) → x ≤ p / 2 → pos x ≡ centred p x
unfolding centred
centred_low p x l = sym (ap (λ b. cond b (pos x) (negsuc (p - suc x))) (le-leb x _ (omega arith)))

pub centred_high : (p x : ℕ) → p / 2 < x → negsuc (p - suc x) ≡ centred p x
unfolding centred
centred_high p x l = sym (ap (λ b. cond b (pos x) (negsuc (p - suc x))) (lt-leb x _ (omega arith)))

-- ---- congruent and near

centred_by : (p x : ℕ) → p % 2 ≡ 1 → x < p → (b : Bool) → leb x (p / 2) ≡ b → Centre p x (cond b (pos x) (negsuc (p - suc x)))
unfolding residue_z
centred_by p x o l true e = record { congruent = mod-eq_of_lt l; near = leb-true x (p / 2) e }
centred_by p x o l false e =
    let small : p - suc x < p = omega arith in
    record {
      congruent = along (λ n. p - suc n) ((p - suc x) % p) (p - suc x) (mod-eq_of_lt small) ∙ back;
      near = omega (arith, leb-false x (p / 2) e);
    }
  where
    back : p - suc (p - suc x) ≡ x
    back = omega arith

centred_is : (p x : ℕ) → p % 2 ≡ 1 → x < p → Centre p x (centred p x)
unfolding centred
centred_is p x o l = centred_by p x o l (leb x (p / 2)) refl

-- ---- the only one

only_one : (p x : ℕ) → p % 2 ≡ 1 → x < p → (z : ℤ) → Centre p x z → z ≡ centred p x
unfolding residue_z
only_one p x o l (pos n) c =
    let small : n < p = omega (arith, c.near) in
    let e : n ≡ x = sym (mod-eq_of_lt small) ∙ c.congruent in
    centred_low p n c.near ∙ along (centred p) n x e
only_one p x o l (negsuc n) c =
    let small : n < p = omega (arith, c.near) in
    let e : p - suc n ≡ x = sym (along (λ k. p - suc k) (n % p) n (mod-eq_of_lt small)) ∙ c.congruent in
    let back : n ≡ p - suc x = omega (arith, e) in
    along negsuc n (p - suc x) back ∙ centred_high p x (omega (arith, e, c.near))

pub centred_only : CentredOnly
centred_only = record { is = centred_is; only = only_one; zero = λ p. sym (centred_low p 0 (omega arith)) }
