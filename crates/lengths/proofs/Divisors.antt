-- A list of factors 2 to 5 whose product divides 1,440 = 2^5 3^2 5 has at most eight of them.
--
-- `primes n` counts the primes 2, 3 and 5 in n. That it falls by one at least with every factor taken off is tested for all divisors n of 1,440.
use mathlib.Core.Path.{◌≡◌, refl, ◌∙◌, sym, ap, subst}
use mathlib.Core.Logic.{⊎_elim}
use mathlib.Core.Bool.{Bool, true, ◌&&◌, ◌||◌, not}
use mathlib.Core.List.{List, [], ◌∷◌}
use Prim.Native.Nat.{ℕ, zero, suc, ◌*◌, ◌/◌, ◌%◌, ◌≤◌, ◌<◌}
use native.Mathlib.Nat.{not-suc-le-zero, eq-zero-or-pos, le_of_suc-le-suc, eq-or-lt_of_le, mul_assoc, mul_comm, mul-mod_right, mul-div_right, mul-le-mul_right}
use native.Mathlib.Omega.{arith}
use lib.Dec.{leb, eqb}
use lib.ListN.{length}
use borrow.Author.Tests.{leb-true, eq-eqb}
use Rattle.lengths.specs.Lengths.{product}
use Rattle.lengths.specs.Admitted.{none, one, Factors}
use Rattle.refusals.proofs.Tests.{both}

-- the primes 2, 3 and 5 in n, with room for eleven
unfoldable primes : (room n : ℕ) → ℕ
primes zero n = 0
primes (suc r) n = elim (n % 2) [ zero ↦ suc (primes r (n / 2)) | suc a ↦ elim (n % 3) [ zero ↦ suc (primes r (n / 3)) | suc b ↦ elim (n % 5) [ zero ↦ suc (primes r (n / 5)) | suc c ↦ 0 ] ] ]

abbrev count : ℕ → ℕ
count n = primes 11 n

-- a factor f of n takes one prime at least
abbrev falls : (n f : ℕ) → Bool
falls n f = not (eqb (n % f) 0) || leb (suc (count (n / f))) (count n)

abbrev falls_all : ℕ → Bool
falls_all n = falls n 2 && (falls n 3 && (falls n 4 && falls n 5))

unfoldable falls_below : ℕ → Bool
falls_below zero = true
falls_below (suc n) = (not (eqb (1440 % suc n) 0) || falls_all (suc n)) && falls_below n

tested : falls_below 1440 ≡ true
unfolding falls_below primes
tested = refl

falls_at : (k n : ℕ) → falls_below k ≡ true → 1 ≤ n → n ≤ k → 1440 % n ≡ 0 → falls_all n ≡ true
unfolding falls_below
falls_at zero n e g l d = absurd (omega arith)
falls_at (suc k) n e g l d =
    let h = both (not (eqb (1440 % suc k) 0) || falls_all (suc k)) (falls_below k) e in
    ⊎_elim (λ (q : n ≡ suc k). let t = subst (λ (m : ℕ). (not (eqb (1440 % m) 0) || falls_all m) ≡ true) (sym q) h.0 in simp (eq-eqb (1440 % n) 0 d) at t) (λ (lt : n < suc k). falls_at k n h.1 g (le_of_suc-le-suc lt) d) (eq-or-lt_of_le l)

-- one of the four
falls_by : (n f : ℕ) → falls_all n ≡ true → 2 ≤ f → f ≤ 5 → falls n f ≡ true
falls_by n zero e g l = absurd (not-suc-le-zero g)
falls_by n (suc zero) e g l = absurd (omega arith)
falls_by n (suc (suc zero)) e g l = (both (falls n 2) (falls n 3 && (falls n 4 && falls n 5)) e).0
falls_by n (suc (suc (suc zero))) e g l = (both (falls n 3) (falls n 4 && falls n 5) (both (falls n 2) (falls n 3 && (falls n 4 && falls n 5)) e).1).0
falls_by n (suc (suc (suc (suc zero)))) e g l = (both (falls n 4) (falls n 5) (both (falls n 3) (falls n 4 && falls n 5) (both (falls n 2) (falls n 3 && (falls n 4 && falls n 5)) e).1).1).0
falls_by n (suc (suc (suc (suc (suc zero))))) e g l = (both (falls n 4) (falls n 5) (both (falls n 3) (falls n 4 && falls n 5) (both (falls n 2) (falls n 3 && (falls n 4 && falls n 5)) e).1).1).1
falls_by n (suc (suc (suc (suc (suc (suc f)))))) e g l = absurd (omega arith)

-- a factor f times k
fall : (f k n r : ℕ) → 2 ≤ f → f ≤ 5 → f * k ≡ n → 1 ≤ n → n ≤ 1440 → n * r ≡ 1440 → suc (count k) ≤ count n
fall f k n r g l e z h d =
    let divides : 1440 % n ≡ 0 = subst (λ (x : ℕ). x % n ≡ 0) d (mul-mod_right n r) in
    let whole : n % f ≡ 0 = subst (λ (x : ℕ). x % f ≡ 0) e (mul-mod_right f k) in
    let part : n / f ≡ k = subst (λ (x : ℕ). x / f ≡ k) e (mul-div_right k (omega arith)) in
    let t : falls n f ≡ true = falls_by n f (falls_at 1440 n tested z h divides) g l in
    leb-true (suc (count k)) (count n) (simp (eq-eqb (n % f) 0 whole, part) at t)

counted : (l : List ℕ) (q n r : ℕ) → Factors l → product l * q ≡ n → 1 ≤ n → n ≤ 1440 → n * r ≡ 1440 → length l ≤ count n
unfolding product
counted [] q n r none e z h d = omega arith
counted (f ∷ l) q n r (one low high t) e z h d =
    let e' : f * (product l * q) ≡ n = sym (mul_assoc f (product l) q) ∙ e in
    let k = product l * q in
    let pos : 1 ≤ k = ⊎_elim (λ (w : k ≡ 0). absurd (let u : f * 0 ≡ n = subst (λ (x : ℕ). f * x ≡ n) w e' in omega arith)) (λ (g : 0 < k). g) (eq-zero-or-pos k) in
    let le : k ≤ 1440 = omega (arith, mul-le-mul_right k low) in
    let d' : k * f * r ≡ 1440 = ap (λ (x : ℕ). x * r) (mul_comm k f ∙ e') ∙ d in
    omega (arith, fall f k n r low high e' z h d, counted l q k (f * r) t refl pos le (sym (mul_assoc k f r) ∙ d'))

pub at_most_eight : (l : List ℕ) (q : ℕ) → Factors l → product l * q ≡ 1440 → length l ≤ 8
unfolding primes
at_most_eight l q t e = counted l q 1440 1 t e (omega arith) (omega arith) (omega arith)
