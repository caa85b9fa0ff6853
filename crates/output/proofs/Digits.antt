-- The digits of a numeral: one alone, and one more behind others.
use mathlib.Core.Path.{◌≡◌, refl, ap, sym, subst, ◌∙◌}
use mathlib.Core.Logic.{◌⊎◌, inl, inr, ⊎_elim}
use mathlib.Core.Bool.{Bool, true, false, cond}
use mathlib.Core.List.{List, [], ◌∷◌, ◌++◌}
use Prim.Native.Nat.{ℕ, zero, suc, ◌+◌, ◌*◌, ◌-◌, ◌/◌, ◌%◌, ◌<◌, ◌≤◌}
use native.Mathlib.Nat.{not-suc-le-zero, eq-zero-or-pos}
use native.Mathlib.Omega.{arith}
use lib.Dec.{ltb}
use lib.ListN.{length, get_or, length-append, get_or-append}
use lib.Seq.{get_or-append_seam}
use borrow.Author.Tests.{ltb-true, ltb-false}
use Rattle.output.specs.Numerals.{read_on, Numeral}

pub lt_or_ge : (a b : ℕ) → (a < b) ⊎ (b ≤ a)
lt_or_ge a b = ⊎_elim (λ e. inr (omega arith)) (λ l. inl (omega arith)) (eq-zero-or-pos (b - a))

-- ---- reading

read_append : (m : ℕ) (s t : List ℕ) → read_on m (s ++ t) ≡ read_on (read_on m s) t
unfolding read_on
read_append m [] t = refl
read_append m (d ∷ ds) t = read_append (10 * m + (d - 48)) ds t

-- ---- one digit, and one digit more

one_digit : (n : ℕ) → n < 10 → Numeral ((48 + n) ∷ []) n
unfolding read_on
one_digit n l = record {
  reads = omega arith;
  some = omega arith;
  digits = λ i h. digit i (omega (arith, h));
  lead = λ e. omega arith;
}
  where
    digit : (i : ℕ) → i < 1 → (48 ≤ get_or ((48 + n) ∷ []) i 0) × (get_or ((48 + n) ∷ []) i 0 ≤ 57)
    digit zero h = (omega arith, omega (arith, l))
    digit (suc i) h = absurd (omega (arith, h))

-- a number above zero does not begin with the digit 0
pub lead_digit : (text : List ℕ) (n : ℕ) → Numeral text n → 1 ≤ n → get_or text 0 0 ≡ 48 → ⊥
unfolding read_on
lead_digit [] n h l e = not-suc-le-zero h.some
lead_digit (d ∷ []) n h l e = absurd (omega (arith, h.reads, e, l))
lead_digit (d ∷ c ∷ ds) n h l e = absurd (omega (arith, h.lead e))

digit_more : (text : List ℕ) (n d : ℕ) → Numeral text n → 1 ≤ n → d < 10 → Numeral (text ++ (48 + d) ∷ []) (10 * n + d)
unfolding read_on
digit_more text n d h l m = record {
  reads = read_append 0 text ((48 + d) ∷ []) ∙ omega (arith, h.reads);
  some = omega (arith, long);
  digits = λ i b. ⊎_elim
      (λ (q : i < length text). subst Digit (sym (get_or-append text ((48 + d) ∷ []) 0 i q)) (h.digits i q))
      (λ (q : length text ≤ i). subst Digit (sym (at_end i (omega (arith, b, long, q)))) (omega arith, omega (arith, m)))
      (lt_or_ge i (length text));
  lead = λ e. absurd (lead_digit text n h l (sym (get_or-append text ((48 + d) ∷ []) 0 0 h.some) ∙ e));
}
  where
    Digit : ℕ → Type 0
    Digit c = (48 ≤ c) × (c ≤ 57)

    long : length (text ++ (48 + d) ∷ []) ≡ length text + 1
    long = length-append text ((48 + d) ∷ [])

    at_end : (i : ℕ) → i ≡ length text → get_or (text ++ (48 + d) ∷ []) i 0 ≡ 48 + d
    at_end i e = ap (λ (q : ℕ). get_or (text ++ (48 + d) ∷ []) q 0) e ∙ get_or-append_seam text (48 + d) [] 0

-- a digit, or those before the last and the last
pub by_digits : (n : ℕ) (rest : List ℕ) → (10 ≤ n → Numeral rest (n / 10)) → Numeral (cond (ltb n 10) ((48 + n) ∷ []) (rest ++ (48 + n % 10) ∷ [])) n
by_digits n rest h = either (ltb n 10) refl
  where
    either : (b : Bool) → ltb n 10 ≡ b → Numeral (cond b ((48 + n) ∷ []) (rest ++ (48 + n % 10) ∷ [])) n
    either true e = one_digit n (omega (arith, ltb-true n 10 e))
    either false e =
        let l = ltb-false n 10 e in
        subst (Numeral (rest ++ (48 + n % 10) ∷ [])) {x = 10 * (n / 10) + n % 10} {y = n} (omega arith) (digit_more rest (n / 10) (n % 10) (h l) (omega (arith, l)) (omega arith))
