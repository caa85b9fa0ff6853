-- Numerals: what decimal text reads as, and that no two numerals read alike.
use mathlib.Core.Path.{◌≡◌, refl, ap, sym, ◌∙◌}
use mathlib.Core.Logic.{⊎_elim}
use mathlib.Core.Bool.{Bool, cond}
use mathlib.Core.List.{List, [], ◌∷◌}
use Prim.Native.Nat.{ℕ, zero, suc, ◌+◌, ◌*◌, ◌-◌, ◌^◌, ◌<◌, ◌≤◌}
use native.Mathlib.Nat.{not-suc-le-zero, suc_inj}
use native.Mathlib.Omega.{arith}
use lib.ListN.{length, get_or}
use lib.IntN.{ℤ, pos, negsuc, nat_abs, neg_ℤ}
use borrow.Author.Tests.{ne_eqb}
use Rattle.output.specs.Output.{digits_of, decimal, signed_decimal}
use Rattle.output.specs.Numerals.{read_on, read_decimal, read_signed, Numeral, SignedNumeral, unsigned, negative, DecimalsReadBack}
use Rattle.output.proofs.Digits.{lt_or_ge, by_digits}

-- ---- the digits of a number

digits_numeral : (c n : ℕ) → n < 10 ^ suc c → Numeral (digits_of (suc c) n) n
unfolding digits_of
digits_numeral zero n l = by_digits n [] (λ h. absurd (omega (arith, l, h)))
digits_numeral (suc c) n l = by_digits n _ (λ h. digits_numeral c _ (omega (arith, l)))

pub decimal_numeral : (n : ℕ) → n < 18446744073709551616 → Numeral (decimal n) n
decimal_numeral n l = digits_numeral 19 n (omega (arith, l))

pub signed_numeral : (k : ℤ) → nat_abs k < 18446744073709551616 → SignedNumeral (signed_decimal k) k
unfolding signed_decimal
signed_numeral (pos n) l = unsigned (decimal_numeral n l)
signed_numeral (negsuc n) l = negative (decimal_numeral (suc n) l)

-- ---- what a numeral reads as

pub numeral_reads : (text : List ℕ) (k : ℤ) → SignedNumeral text k → read_signed text ≡ k
unfolding read_signed
numeral_reads text k (unsigned {n = n} h) = digits_alone text n h
  where
    digits_alone : (text : List ℕ) (n : ℕ) → Numeral text n → read_signed text ≡ pos n
    digits_alone [] n h = absurd (not-suc-le-zero h.some)
    digits_alone (c ∷ cs) n h =
        ap (λ (b : Bool). cond b (neg_ℤ (pos (read_decimal cs))) (pos (read_decimal (c ∷ cs)))) (ne_eqb c 45 (λ e. absurd (omega (arith, e, (h.digits 0 h.some).0))))
        ∙ ap pos h.reads
numeral_reads text k (negative {text = digits} h) = ap (λ (m : ℕ). neg_ℤ (pos m)) h.reads

-- ---- no two read alike

abbrev Digits : List ℕ → Type 0
Digits text = (i : ℕ) → i < length text → (48 ≤ get_or text i 0) × (get_or text i 0 ≤ 57)

rest_digits : (d : ℕ) (ds : List ℕ) → Digits (d ∷ ds) → Digits ds
rest_digits d ds h i l = h (suc i) (omega (arith, l))

-- of one length: by their digits, and what they stand behind
same_length : (s t : List ℕ) (m k : ℕ) → length s ≡ length t → Digits s → Digits t → read_on m s ≡ read_on k t → (m ≡ k) × (s ≡ t)
unfolding read_on
same_length [] [] m k l a b e = (e, refl)
same_length [] (d ∷ t) m k l a b e = absurd (omega (arith, l))
same_length (c ∷ s) [] m k l a b e = absurd (omega (arith, l))
same_length (c ∷ s) (d ∷ t) m k l a b e =
    let h = same_length s t (10 * m + (c - 48)) (10 * k + (d - 48)) (suc_inj l) (rest_digits c s a) (rest_digits d t b) e in
    let x = a 0 (omega arith) in
    let y = b 0 (omega arith) in
    let first : c ≡ d = omega (arith, h.0, x.0, x.1, y.0, y.1) in
    (omega (arith, h.0, x.0, x.1, y.0, y.1), λ i. first i ∷ h.1 i)

-- digits behind a number above zero are not read as fewer or as many alone
not_shorter : (s t : List ℕ) (m : ℕ) → length t ≤ length s → 1 ≤ m → Digits s → Digits t → read_on m s ≡ read_on 0 t → ⊥
unfolding read_on
not_shorter [] t m l p a b e = absurd (omega (arith, p, (same_length [] t m 0 (omega (arith, l)) a b e).0))
not_shorter (c ∷ s) t m l p a b e = ⊎_elim
    (λ (q : length s < length t). absurd (omega (arith, p, (same_length (c ∷ s) t m 0 (omega (arith, l, q)) a b e).0)))
    (λ (q : length t ≤ length s). not_shorter s t (10 * m + (c - 48)) q (omega (arith, p)) (rest_digits c s a) b e)
    (lt_or_ge (length s) (length t))

none_longer : (s t : List ℕ) (n : ℕ) → Numeral s n → Numeral t n → length t < length s → ⊥
unfolding read_on
none_longer [] t n a b l = not-suc-le-zero l
none_longer (c ∷ s) t n a b l = ⊎_elim
    (λ (q : c < 49). absurd (omega (arith, l, b.some, a.lead (omega (arith, q, (a.digits 0 a.some).0)))))
    (λ (q : 49 ≤ c). not_shorter s t (10 * 0 + (c - 48)) (omega (arith, l)) (omega (arith, q)) (rest_digits c s a.digits) b.digits (a.reads ∙ sym b.reads))
    (lt_or_ge c 49)

pub same_numeral : (s t : List ℕ) (n : ℕ) → Numeral s n → Numeral t n → s ≡ t
same_numeral s t n a b = ⊎_elim
    (λ (l : length s < length t). absurd (none_longer t s n b a l))
    (λ (l : length t ≤ length s). ⊎_elim
    (λ (m : length t < length s). absurd (none_longer s t n a b m))
    (λ (m : length s ≤ length t). (same_length s t 0 0 (omega (arith, l, m)) a.digits b.digits (a.reads ∙ sym b.reads)).1)
    (lt_or_ge (length t) (length s)))
    (lt_or_ge (length s) (length t))

only_numeral : (text : List ℕ) (k : ℤ) → nat_abs k < 18446744073709551616 → SignedNumeral text k → text ≡ signed_decimal k
unfolding signed_decimal
only_numeral text k l (unsigned {n = n} h) = same_numeral text (decimal n) n h (decimal_numeral n l)
only_numeral text k l (negative {text = digits} {n = n} h) = ap (λ (t : List ℕ). 45 ∷ t) (same_numeral digits (decimal (suc n)) (suc n) h (decimal_numeral (suc n) l))

pub decimals_read_back : DecimalsReadBack
decimals_read_back = record {
  number = decimal_numeral;
  signed = signed_numeral;
  back = λ k l. numeral_reads (signed_decimal k) k (signed_numeral k l);
  only = only_numeral;
}
