-- The list of twice the length: the digits before a place are kept, and those from it on are doubled. It is a factor list where the list is one.
use mathlib.Core.Path.{◌≡◌, refl, sym, ◌∙◌, ap, subst}
use mathlib.Core.Bool.{Bool, cond}
use mathlib.Core.Logic.{◌≢◌, ◌⊎◌, inl, inr, ⊎_elim}
use mathlib.Core.List.{List, [], ◌∷◌}
use Prim.Native.Nat.{ℕ, zero, suc, ◌+◌, ◌*◌, ◌/◌, ◌%◌, ◌≤◌}
use native.Mathlib.Nat as N
use native.Mathlib.Omega.{arith}
use borrow.Author.Tests.{ne_eqb}
use Rattle.lengths.specs.Lengths.{octal, product, digits, octal_digits, doubled_list}
use Rattle.lengths.specs.Admitted.{none, one, Factored, Factors}
use Rattle.lengths.proofs.Digits.{digit_cons, octal_of_digits}
use Rattle.lengths.proofs.Factors.{factors_of_lem}
use Rattle.lengths.proofs.stage.Factoring.{packed}
use Rattle.lengths.proofs.stage.Listing.{digits_listed}

-- ---- the first factor of a list

two_or_other : (f : ℕ) → (f ≡ 2) ⊎ (f ≡ 2 → ⊥)
two_or_other zero = inr (λ e. omega arith)
two_or_other (suc zero) = inr (λ e. omega arith)
two_or_other (suc (suc zero)) = inl refl
two_or_other (suc (suc (suc f))) = inr (λ e. omega arith)

pub doubled_two : {f : ℕ} (l : List ℕ) → f ≡ 2 → doubled_list (f ∷ l) ≡ 4 ∷ l
unfolding doubled_list
doubled_two l e = ap (λ k. doubled_list (k ∷ l)) e

pub doubled_other : {f : ℕ} (l : List ℕ) → (f ≡ 2 → ⊥) → doubled_list (f ∷ l) ≡ f ∷ doubled_list l
unfolding doubled_list
doubled_other {f} l n = ap (λ (b : Bool). cond b (4 ∷ l) (f ∷ doubled_list l)) (ne_eqb f 2 n)

octal_cons : (f : ℕ) (l : List ℕ) → octal (f ∷ l) ≡ f + 8 * octal l
unfolding octal
octal_cons f l = refl

-- ---- the loop over the digits

none_doubled : octal (doubled_list (octal_digits 0)) ≡ 2
unfolding octal doubled_list digits
none_doubled = refl

-- the number of the doubled list, of which `left` is left after what is passed
pub record Doubling (factors left place : ℕ) : Type 0 where
  pub passed : ℕ
  pub whole : factors ≡ passed + place * left
  pub low : place ≤ 8 * factors + 1
  pub twice : octal (doubled_list (octal_digits factors)) ≡ passed + place * octal (doubled_list (octal_digits left))

pub doubling_start : (factors : ℕ) → Doubling factors factors 1
doubling_start factors = record { passed = 0; whole = omega arith; low = omega arith; twice = omega arith }

module _ {factors left place : ℕ} (h : Doubling factors left place) where
  -- no factor is left
  pub doubled_end : left ≡ 0 → factors + 2 * place ≡ octal (doubled_list (octal_digits factors))
  doubled_end z =
      let two : octal (doubled_list (octal_digits left)) ≡ 2 = ap (λ k. octal (doubled_list (octal_digits k))) z ∙ none_doubled in
      sym (h.twice ∙ ap (λ k. h.passed + place * k) two ∙ omega (arith, h.whole, ap (λ k. place * k) z))

  module _ (more_left : left ≢ 0) where
    pub place_low : place ≤ factors
    place_low = omega (arith, h.whole, N.mul-le-mul_left {m = 1} {n = left} place (omega arith))

    split : place * left ≡ place * (left % 8) + place * (8 * (left / 8))
    split = let whole : left ≡ left % 8 + 8 * (left / 8) = omega arith in ap (λ k. place * k) whole ∙ N.mul-add place (left % 8) (8 * (left / 8))

    -- the next factor is a 2, and becomes a 4
    pub doubled_here : left % 8 ≡ 2 → factors + 2 * place ≡ octal (doubled_list (octal_digits factors))
    doubled_here two =
        let four : octal (doubled_list (octal_digits left)) ≡ 4 + 8 * (left / 8) =
        ap (λ l. octal (doubled_list l)) (digit_cons left more_left) ∙ ap octal (doubled_two (octal_digits (left / 8)) two) ∙ octal_cons 4 (octal_digits (left / 8)) ∙ ap (λ k. 4 + 8 * k) (octal_of_digits (left / 8)) in
        sym (h.twice ∙ ap (λ k. h.passed + place * k) four ∙ omega (arith, h.whole, split, ap (λ k. place * k) two))

    -- it is passed
    pub doubling_next : (left % 8 ≡ 2 → ⊥) → Doubling factors (left / 8) (place * 8)
    doubling_next other =
        let rest : octal (doubled_list (octal_digits left)) ≡ left % 8 + 8 * octal (doubled_list (octal_digits (left / 8))) =
        ap (λ l. octal (doubled_list l)) (digit_cons left more_left) ∙ ap octal (doubled_other (octal_digits (left / 8)) other) ∙ octal_cons (left % 8) (doubled_list (octal_digits (left / 8))) in
        record {
          passed = h.passed + place * (left % 8);
          whole = omega (arith, h.whole, split);
          low = omega (arith, place_low);
          twice = h.twice ∙ ap (λ k. h.passed + place * k) rest ∙ omega arith;
        }

-- ---- it is a factor list of twice the length

pub product_doubled : (l : List ℕ) → product (doubled_list l) ≡ 2 * product l
unfolding product doubled_list
product_doubled [] = refl
product_doubled (f ∷ l) = ⊎_elim
    (λ two. ap product (doubled_two l two) ∙ omega (arith, ap (λ k. k * product l) two))
    (λ other. ap product (doubled_other l other) ∙ ap (λ k. f * k) (product_doubled l) ∙ omega arith)
    (two_or_other f)

pub doubled_factors : {l : List ℕ} → Factors l → Factors (doubled_list l)
unfolding doubled_list
doubled_factors none = one {f = 2} (omega arith) (omega arith) none
doubled_factors (one {f} {l} low high h) = ⊎_elim
    (λ two. subst Factors (sym (doubled_two l two)) (one {f = 4} (omega arith) (omega arith) h))
    (λ other. subst Factors (sym (doubled_other l other)) (one low high (doubled_factors h)))
    (two_or_other f)

pub doubled_factored : {factors n : ℕ} → Factored factors n → Factored (octal (doubled_list (octal_digits factors))) (2 * n)
doubled_factored {factors} h =
    let u = digits_listed h in
    subst (Factored (octal (doubled_list (octal_digits factors)))) (product_doubled (octal_digits factors) ∙ ap (λ k. 2 * k) u.product_is) (packed (doubled_factors (factors_of_lem (octal_digits factors) u.each)))
