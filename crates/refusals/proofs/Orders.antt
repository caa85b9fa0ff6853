-- A test that decides alone once those before it have passed: what its number says of a call's answer.
use mathlib.Core.Path.{◌≡◌, refl, sym, ap, ◌∙◌, subst}
use mathlib.Core.Logic.{◌↔◌}
use mathlib.Core.Bool.{Bool, true, false, ◌&&◌, not, cond}
use mathlib.Core.List.{List, [], ◌∷◌, ◌++◌}
use Prim.Native.Nat.{ℕ, zero, suc}
use native.Mathlib.Omega.{arith}
use lib.Dec.{T, eqb}
use borrow.Author.Tests.{eq-eqb}
use Rattle.refusals.specs.Refusals.{Test, ◌⇒◌, first, accepted}
use Rattle.refusals.specs.Orders.{NoneOf}
use Rattle.refusals.proofs.Tests.{and_left, and_right, positive, first_append}

-- ---- what an answer says of the first test that holds: the number of a refusal, 0 of any other answer

-- the outcome is o where no test holds, else f of the number, and its answer tells which
says_number : {O A : Type 0} (number : A → ℕ) (answer : O → A) (o : O) (f : ℕ → O) (r : ℕ → A) → ((n : ℕ) → answer (f n) ≡ r n) → ((n : ℕ) → number (r n) ≡ n) → number (answer o) ≡ 0 → (n : ℕ) → number (answer (accepted n o f)) ≡ n
says_number number answer o f r e g z zero = z
says_number number answer o f r e g z (suc n) = ap number (e (suc n)) ∙ g (suc n)

pub says : {O A : Type 0} (number : A → ℕ) (answer : O → A) (o : O) (f : ℕ → O) (r : ℕ → A) → ((n : ℕ) → answer (f n) ≡ r n) → ((n : ℕ) → number (r n) ≡ n) → number (answer o) ≡ 0 → (n k : ℕ) → (n ≡ suc k) ↔ (answer (accepted n o f) ≡ r (suc k))
says number answer o f r e g z n k = (
  λ q. ap (λ n. answer (accepted n o f)) q ∙ e (suc k),
  λ q. sym (says_number number answer o f r e g z n) ∙ ap number q ∙ g (suc k),
)

-- ---- tests of other numbers

-- no test of the list has the number n
abbrev pub others : ℕ → List Test → Bool
others n [] = true
others n (t ∷ ts) = not (eqb t.number n) && others n ts

pub other_first : (n : ℕ) (ts : List Test) → T (others (suc n) ts) → first ts ≡ suc n → ⊥
unfolding first
other_first n [] o e = omega arith
other_first n (t ∷ ts) o e = one t.fails t.number (and_left (not (eqb t.number (suc n))) (others (suc n) ts) o) (other_first n ts (and_right (not (eqb t.number (suc n))) (others (suc n) ts) o)) e
  where
    one : (b : Bool) (k : ℕ) → T (not (eqb k (suc n))) → (first ts ≡ suc n → ⊥) → cond b k (first ts) ≡ suc n → ⊥
    one true k o f e = subst T (ap not (eq-eqb k (suc n) e)) o
    one false k o f e = f e

-- the numbers of tests, each as often as it stands there
abbrev pub plain_numbers : List Test → List ℕ
plain_numbers [] = []
plain_numbers (t ∷ ts) = t.number ∷ plain_numbers ts

-- an answer that is no refusal by these tests
pub avoided : {A : Type 0} (refused : ℕ → A) (a : A) (ts : List Test) → NoneOf refused (plain_numbers ts) a → (k : ℕ) → a ≡ refused (suc k) → first ts ≡ suc k → ⊥
unfolding first
avoided refused a [] o k e f = omega (arith, f)
avoided refused a (t ∷ ts) o k e f = one t.fails t.number o.0 (avoided refused a ts o.1 k e) f
  where
    one : (b : Bool) (n : ℕ) → (a ≡ refused n → ⊥) → (first ts ≡ suc k → ⊥) → cond b n (first ts) ≡ suc k → ⊥
    one true n o g f = o (e ∙ ap refused (sym f))
    one false n o g f = g f

-- ---- A test that refuses with n where b holds, after some tests and before others. If the call answers a, and refuses by no test before it,
-- a is the refusal n exactly if not C, which b decides once the tests before have passed.

module _ (before after : List Test) (b : Bool) (n : ℕ) (unlike : T (others (suc n) after)) where
  abbrev pub tests : List Test
  tests = before ++ (b ⇒ suc n ∷ after)

  module _ {A : Type 0} (a : A) (refusal : ℕ → A) (says : (k : ℕ) → (first tests ≡ suc k) ↔ (a ≡ refusal (suc k))) where
    -- the tests before it have passed
    before_passed : T (positive before) → ((k : ℕ) → a ≡ refusal (suc k) → first before ≡ suc k → ⊥) → 0 ≡ first before
    before_passed t only = by (first before) refl
      where
        by : (k : ℕ) → first before ≡ k → 0 ≡ k
        by zero e = refl
        by (suc k) e = absurd (only k ((says k).0 (first_append before (b ⇒ suc n ∷ after) t ∙ ap (λ k. accepted k (first (b ⇒ suc n ∷ after)) (λ n. n)) e)) e)

    -- it is then the first that holds, or those after it are asked
    then : T (positive before) → 0 ≡ first before → (b ≡ true) ↔ (first tests ≡ suc n)
    unfolding first
    then t e = let whole = first_append before (b ⇒ suc n ∷ after) t ∙ ap (λ k. accepted k (first (b ⇒ suc n ∷ after)) (λ n. n)) (sym e) in
        let d = by b in (λ f. whole ∙ d.0 f, λ f. d.1 (sym whole ∙ f))
      where
        by : (b : Bool) → (b ≡ true) ↔ (first (b ⇒ suc n ∷ after) ≡ suc n)
        by true = (λ f. refl, λ f. refl)
        by false = (λ f. absurd (subst T (sym f) tt), λ f. absurd (other_first n after unlike f))

    -- b is false exactly if C
    pub refused_unless : T (positive before) → ((k : ℕ) → a ≡ refusal (suc k) → first before ≡ suc k → ⊥) → (C : Type 0) → (0 ≡ first before → (b ≡ false) ↔ C) → (a ≡ refusal (suc n)) ↔ (C → ⊥)
    refused_unless t only C d =
        let e = before_passed t only in
        let f = then t e in
        (λ r x. apart b (f.1 ((says n).1 r)) ((d e).1 x), λ g. (says n).0 (f.0 (not_false b (λ h. g ((d e).0 h)))))
      where
        apart : (b : Bool) → b ≡ true → b ≡ false → ⊥
        apart true e f = subst T f tt
        apart false e f = subst T (sym e) tt

        not_false : (b : Bool) → (b ≡ false → ⊥) → b ≡ true
        not_false true g = refl
        not_false false g = absurd (g refl)

-- a test that fails where c is not
pub negated : {C : Type 0} (c : Bool) → (c ≡ true) ↔ C → (not c ≡ false) ↔ C
negated true d = (λ e. d.0 refl, λ x. refl)
negated false d = (λ e. absurd (subst T e tt), λ x. absurd (subst T (sym (d.1 x)) tt))
