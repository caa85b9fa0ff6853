-- The chosen lists: that each is a factor list of its length is tested for all of them; that none is shorter follows from a test of the divisors of
-- 1,440, that a factor taken off shortens the chosen list by one at most.
use mathlib.Core.Path.{◌≡◌, refl, ◌∙◌, sym, ap, subst}
use mathlib.Core.Logic.{⊎_elim}
use mathlib.Core.Bool.{Bool, true, false, ◌&&◌, ◌||◌, not, cond}
use mathlib.Core.List.{List, [], ◌∷◌}
use Prim.Native.Nat.{ℕ, zero, suc, ◌*◌, ◌/◌, ◌%◌, ◌≤◌, ◌<◌}
use native.Mathlib.Nat.{not-suc-le-zero, eq-zero-or-pos, le_of_suc-le-suc, eq-or-lt_of_le, mul_assoc, mul_comm, mul-mod_right, mul-div_right, mul-le-mul_right}
use native.Mathlib.Omega.{arith}
use lib.Dec.{leb, eqb}
use lib.ListN.{length}
use borrow.Author.Tests.{leb-true, eq-eqb, eqb-true}
use Rattle.lengths.specs.Lengths.{product, admitted, factors_ok}
use Rattle.lengths.specs.Admitted.{none, one, Factors}
use Rattle.lengths.proofs.Factors.{factors_of_lem}
use Rattle.lengths.proofs.AdmittedLengths.{admitted_length}
use Rattle.refusals.proofs.Tests.{both}
use Rattle.factor_lists.specs.Chosen.{next_factor, factored, chosen_list, ChosenLists}

-- ---- each is a list of its length

abbrev sound : ℕ → Bool
sound N = factors_ok (chosen_list N) && eqb (product (chosen_list N)) (N / 2)

unfoldable sound_below : ℕ → Bool
sound_below zero = true
sound_below (suc N) = (not (admitted (suc N)) || sound (suc N)) && sound_below N

tested : sound_below 2880 ≡ true
unfolding sound_below admitted factored next_factor factors_ok product
tested = refl

sound_at : (k N : ℕ) → sound_below k ≡ true → 1 ≤ N → N ≤ k → admitted N ≡ true → sound N ≡ true
unfolding sound_below
sound_at zero N e g l d = absurd (omega arith)
sound_at (suc k) N e g l d =
    let h = both (not (admitted (suc k)) || sound (suc k)) (sound_below k) e in
    ⊎_elim (λ (q : N ≡ suc k). let t = subst (λ (m : ℕ). (not (admitted m) || sound m) ≡ true) (sym q) h.0 in simp d at t) (λ (lt : N < suc k). sound_at k N h.1 g (le_of_suc-le-suc lt) d) (eq-or-lt_of_le l)

sound_list : (N : ℕ) → admitted N ≡ true → (factors_ok (chosen_list N) ≡ true) × (eqb (product (chosen_list N)) (N / 2) ≡ true)
sound_list N e = let a = admitted_length N e in both (factors_ok (chosen_list N)) (eqb (product (chosen_list N)) (N / 2)) (sound_at 2880 N tested (omega (arith, a.positive)) a.short e)

pub chosen_product : (N : ℕ) → admitted N ≡ true → product (chosen_list N) ≡ N / 2
chosen_product N e = eqb-true _ _ (sound_list N e).1

-- ---- none is shorter

abbrev count : ℕ → ℕ
count n = length (factored 8 n)

-- a factor f of n taken off
abbrev falls : (n f : ℕ) → Bool
falls n f = not (eqb (n % f) 0) || leb (count n) (suc (count (n / f)))

abbrev falls_all : ℕ → Bool
falls_all n = falls n 2 && (falls n 3 && (falls n 4 && falls n 5))

unfoldable falls_below : ℕ → Bool
falls_below zero = true
falls_below (suc n) = (not (eqb (1440 % suc n) 0) || falls_all (suc n)) && falls_below n

falls_tested : falls_below 1440 ≡ true
unfolding falls_below factored next_factor
falls_tested = refl

falls_at : (k n : ℕ) → falls_below k ≡ true → 1 ≤ n → n ≤ k → 1440 % n ≡ 0 → falls_all n ≡ true
unfolding falls_below
falls_at zero n e g l d = absurd (omega arith)
falls_at (suc k) n e g l d =
    let h = both (not (eqb (1440 % suc k) 0) || falls_all (suc k)) (falls_below k) e in
    ⊎_elim (λ (q : n ≡ suc k). let t = subst (λ (m : ℕ). (not (eqb (1440 % m) 0) || falls_all m) ≡ true) (sym q) h.0 in simp (eq-eqb (1440 % n) 0 d) at t) (λ (lt : n < suc k). falls_at k n h.1 g (le_of_suc-le-suc lt) d) (eq-or-lt_of_le l)

-- one of the four
falls_by : (n f : ℕ) → falls_all n ≡ true → 2 ≤ f → f ≤ 5 → falls n f ≡ true
falls_by n zero e g l = absurd (not-suc-le-zero g)
falls_by n (suc zero) e g l = absurd (omega arith)
falls_by n (suc (suc zero)) e g l = (both (falls n 2) (falls n 3 && (falls n 4 && falls n 5)) e).0
falls_by n (suc (suc (suc zero))) e g l = (both (falls n 3) (falls n 4 && falls n 5) (both (falls n 2) (falls n 3 && (falls n 4 && falls n 5)) e).1).0
falls_by n (suc (suc (suc (suc zero)))) e g l = (both (falls n 4) (falls n 5) (both (falls n 3) (falls n 4 && falls n 5) (both (falls n 2) (falls n 3 && (falls n 4 && falls n 5)) e).1).1).0
falls_by n (suc (suc (suc (suc (suc zero))))) e g l = (both (falls n 4) (falls n 5) (both (falls n 3) (falls n 4 && falls n 5) (both (falls n 2) (falls n 3 && (falls n 4 && falls n 5)) e).1).1).1
falls_by n (suc (suc (suc (suc (suc (suc f)))))) e g l = absurd (omega arith)

-- a factor f times k
fall : (f k n r : ℕ) → 2 ≤ f → f ≤ 5 → f * k ≡ n → 1 ≤ n → n ≤ 1440 → n * r ≡ 1440 → count n ≤ suc (count k)
fall f k n r g l e z h d =
    let divides : 1440 % n ≡ 0 = subst (λ (x : ℕ). x % n ≡ 0) d (mul-mod_right n r) in
    let whole : n % f ≡ 0 = subst (λ (x : ℕ). x % f ≡ 0) e (mul-mod_right f k) in
    let part : n / f ≡ k = subst (λ (x : ℕ). x / f ≡ k) e (mul-div_right k (omega arith)) in
    let t : falls n f ≡ true = falls_by n f (falls_at 1440 n falls_tested z h divides) g l in
    leb-true (count n) (suc (count k)) (simp (eq-eqb (n % f) 0 whole, part) at t)

shortest : (l : List ℕ) (n r : ℕ) → Factors l → product l ≡ n → 1 ≤ n → n ≤ 1440 → n * r ≡ 1440 → count n ≤ length l
unfolding product factored
shortest [] n r none e z h d = subst (λ (m : ℕ). count m ≤ 0) e (omega arith)
shortest (f ∷ l) n r (one low high t) e z h d =
    let k = product l in
    let pos : 1 ≤ k = ⊎_elim (λ (w : k ≡ 0). absurd (let u : f * 0 ≡ n = subst (λ (x : ℕ). f * x ≡ n) w e in omega arith)) (λ (g : 0 < k). g) (eq-zero-or-pos k) in
    let le : k ≤ 1440 = omega (arith, mul-le-mul_right k low) in
    let d' : k * f * r ≡ 1440 = ap (λ (x : ℕ). x * r) (mul_comm k f ∙ e) ∙ d in
    omega (arith, fall f k n r low high e z h d, shortest l k (f * r) t refl pos le (sym (mul_assoc k f r) ∙ d'))

at_most : (c n : ℕ) → length (factored c n) ≤ c
unfolding factored
at_most zero n = omega arith
at_most (suc c) n = by (leb n 1) (at_most c (n / next_factor n))
  where
    by : (b : Bool) → length (factored c (n / next_factor n)) ≤ c → length (cond b [] (next_factor n ∷ factored c (n / next_factor n))) ≤ suc c
    by true h = omega arith
    by false h = omega (arith, h)

pub chosen_lists : ChosenLists
chosen_lists = record {
  factors = λ N e. (sound_list N e).0;
  multiplied = λ N e. chosen_product N e;
  fewest = λ N e list ok p. let a = admitted_length N e in shortest list (N / 2) (1440 / (N / 2)) (factors_of_lem list ok) p a.positive (omega (arith, a.short)) a.half_turns;
  eight = λ N. at_most 8 (N / 2);
  order = λ N output. refl;
}
