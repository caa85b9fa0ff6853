-- The bits of a word to which 2 ^ k is added where bit k is 0; and the set of words in which no bit is 1.
use mathlib.Core.Path.{◌≡◌, refl, sym, ◌∙◌, ap}
use mathlib.Core.Bool.{true, false, ◌||◌}
use mathlib.Core.List.{List}
use Prim.Native.Nat.{ℕ, zero, suc, ◌+◌, ◌*◌, ◌/◌, ◌%◌, ◌^◌, ◌<◌}
use native.Mathlib.Nat.{pow-suc, div-div-eq-div-mul, mul_comm, zero-div, mod-eq_of_lt}
use native.Mathlib.Omega.{arith}
use native.Mathlib.Decide.{ℕ_discrete}
use lib.ListN.{length, get_or, set, replicate}
use lib.Seq.{get_or-set_same, get_or-set_other}
use lib.Dec.{eqb}
use lib.Pow.{pow-lt}
use borrow.Author.Tests.{eq-eqb, ne_eqb}
use Rattle.bits.specs.Set.{bit_of, in_set, Inserted}

-- ---- a word

bit_none : (w : ℕ) → bit_of w 0 ≡ w % 2
unfolding bit_of
bit_none w = omega arith

-- bit k + 1 is bit k of the half
bit_suc : (w k : ℕ) → bit_of w (suc k) ≡ bit_of (w / 2) k
unfolding bit_of
bit_suc w k = ap (λ n. n % 2) (ap (λ n. w / n) (pow-suc 2 k ∙ mul_comm (2 ^ k) 2) ∙ sym (div-div-eq-div-mul w 2 (2 ^ k)))

half_added : (w k : ℕ) → (w + 2 ^ suc k) / 2 ≡ w / 2 + 2 ^ k
half_added w k = let e = pow-suc 2 k in omega arith

pub bit_added : (k w : ℕ) → bit_of w k ≡ 0 → bit_of (w + 2 ^ k) k ≡ 1
bit_added zero w z = let e = bit_none w in bit_none (w + 1) ∙ omega arith
bit_added (suc k) w z = bit_suc (w + 2 ^ suc k) k ∙ ap (λ n. bit_of n k) (half_added w k) ∙ bit_added k (w / 2) (sym (bit_suc w k) ∙ z)

pub bit_other : (k j w : ℕ) → bit_of w k ≡ 0 → (j ≡ k → ⊥) → bit_of (w + 2 ^ k) j ≡ bit_of w j
bit_other zero zero w z n = absurd (n refl)
bit_other zero (suc j) w z n = let e = bit_none w in let h : (w + 1) / 2 ≡ w / 2 = omega arith in bit_suc (w + 1) j ∙ ap (λ n. bit_of n j) h ∙ sym (bit_suc w j)
bit_other (suc k) zero w z n = let e = pow-suc 2 k in let h : (w + 2 ^ suc k) % 2 ≡ w % 2 = omega arith in bit_none (w + 2 ^ suc k) ∙ h ∙ sym (bit_none w)
bit_other (suc k) (suc j) w z n =
    bit_suc (w + 2 ^ suc k) j ∙ ap (λ n. bit_of n j) (half_added w k) ∙ bit_other k j (w / 2) (sym (bit_suc w k) ∙ z) (λ e. n (ap suc e)) ∙ sym (bit_suc w j)

-- the sum fits where the word does
pub added_fits : (n k w : ℕ) → k < n → w < 2 ^ n → bit_of w k ≡ 0 → w + 2 ^ k < 2 ^ n
added_fits zero k w l h z = absurd (omega arith)
added_fits (suc n) zero w l h z = let e = bit_none w in let p = pow-suc 2 n in omega arith
added_fits (suc n) (suc k) w l h z =
    let p = pow-suc 2 n in
    let q = pow-suc 2 k in
    let half = added_fits n k (w / 2) (omega arith) (omega arith) (sym (bit_suc w k) ∙ z) in
    omega arith

-- 2 ^ k as the machine shifts it
pub unit : (k : ℕ) → k < 64 → 1 * 2 ^ k % 18446744073709551616 ≡ 2 ^ k
unit k l = let h : 2 ^ k < 18446744073709551616 = pow-lt {i = k} {j = 64} l in ap (λ n. n % 18446744073709551616) (omega arith) ∙ mod-eq_of_lt h

-- a bit that is not 1 is 0
pub bit_clear : (w k : ℕ) → (bit_of w k ≡ 1 → ⊥) → bit_of w k ≡ 0
unfolding bit_of
bit_clear w k n = omega arith

-- ---- a set

-- no number is in a set of zeros
pub none_in : (n k : ℕ) → in_set (replicate n 0) k ≡ false
unfolding in_set bit_of
none_in n k = ap (λ w. eqb (w / 2 ^ (k % 64) % 2) 1) (zero_at n (k / 64)) ∙ zero_bit (2 ^ (k % 64))
  where
    zero_at : (n i : ℕ) → ◌≡◌ {A = ℕ} (get_or (replicate n 0) i 0) 0
    zero_at zero i = refl
    zero_at (suc n) zero = refl
    zero_at (suc n) (suc i) = zero_at n i

    zero_bit : (m : ℕ) → eqb (0 / m % 2) 1 ≡ false
    zero_bit m = ap (λ n. eqb (n % 2) 1) (zero-div m)

module _ (s : List ℕ) (q : ℕ) where
  pub inserted_again : in_set s q ≡ true → Inserted q s s
  inserted_again e = record { each = λ k. by k (ℕ_discrete k q) }
    where
      by : (k : ℕ) → Dec (k ≡ q) → in_set s k ≡ (eqb k q || in_set s k)
      by k (yes p) = ap (in_set s) p ∙ e ∙ ap (λ b. b || in_set s k) (sym (eq-eqb k q p))
      by k (no p) = ap (λ b. b || in_set s k) (sym (ne_eqb k q p))

  pub inserted_new : q < 64 * length s → bit_of (get_or s (q / 64) 0) (q % 64) ≡ 0 → Inserted q s (set s (q / 64) (get_or s (q / 64) 0 + 2 ^ (q % 64)))
  unfolding in_set
  inserted_new low z = record { each = λ k. by k (ℕ_discrete k q) (ℕ_discrete (k / 64) (q / 64)) }
    where
      new : List ℕ
      new = set s (q / 64) (get_or s (q / 64) 0 + 2 ^ (q % 64))

      own : get_or new (q / 64) 0 ≡ get_or s (q / 64) 0 + 2 ^ (q % 64)
      own = get_or-set_same s (q / 64) _ 0 (omega arith)

      by : (k : ℕ) → Dec (k ≡ q) → Dec (k / 64 ≡ q / 64) → in_set new k ≡ (eqb k q || in_set s k)
      by k (yes p) d = ap (in_set new) p ∙ ap (λ w. eqb (bit_of w (q % 64)) 1) own ∙ ap (λ b. eqb b 1) (bit_added (q % 64) _ z) ∙ ap (λ b. b || in_set s k) (sym (eq-eqb k q p))
      by k (no p) (yes d) =
          let word = ap (λ i. get_or new i 0) d ∙ own in
          let old = ap (λ i. get_or s i 0) d in
          ap (λ w. eqb (bit_of w (k % 64)) 1) word ∙ ap (λ b. eqb b 1) (bit_other (q % 64) (k % 64) _ z (λ e. p (omega arith))) ∙ ap (λ w. eqb (bit_of w (k % 64)) 1) (sym old) ∙ ap (λ b. b || in_set s k) (sym (ne_eqb k q p))
      by k (no p) (no d) = ap (λ w. eqb (bit_of w (k % 64)) 1) (get_or-set_other s (q / 64) (k / 64) _ 0 d) ∙ ap (λ b. b || in_set s k) (sym (ne_eqb k q p))
