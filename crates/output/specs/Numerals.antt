-- Decimal text as it is read: a number and its text determine each other.
use Rattle.algebra.specs.Prelude.{cond, eqb, ℕ, suc, List, [], length, get_or}
use Rattle.signed.specs.Integers.{ℤ, pos, negsuc, nat_abs}
use Rattle.std.specs.Prelude.{neg_ℤ, ◌≡◌, ◌+◌, ◌*◌, ◌-◌, ◌<◌, ◌≤◌, ◌∷◌}
use Rattle.output.specs.Output.{decimal, signed_decimal}

-- From the left, each digit behind ten times the number so far. In ASCII 48 is the digit 0, 57 the digit 9 and 45 the
-- minus.
unfoldable pub read_on : (m : ℕ) → List ℕ → ℕ
read_on m [] = m
read_on m (d ∷ ds) = read_on (10 * m + (d - 48)) ds

abbrev pub read_decimal : List ℕ → ℕ
read_decimal text = read_on 0 text

-- a minus first, and the digits behind it; or digits alone
unfoldable pub read_signed : List ℕ → ℤ
read_signed [] = pos 0
read_signed (c ∷ cs) = cond (eqb c 45) (neg_ℤ (pos (read_decimal cs))) (pos (read_decimal (c ∷ cs)))

-- digits that read as n, one at least, and without leading zeros
pub record Numeral (text : List ℕ) (n : ℕ) : Type 0 where
  pub reads : read_decimal text ≡ n
  pub some : 1 ≤ length text
  pub digits : (i : ℕ) → i < length text → (48 ≤ get_or text i 0) × (get_or text i 0 ≤ 57)
  pub lead : get_or text 0 0 ≡ 48 → length text ≡ 1

-- the same of a whole number: one below zero has a minus before its magnitude, no other has
pub data SignedNumeral : List ℕ → ℤ → Type 0 where
  unsigned : {text : List ℕ} {n : ℕ} → Numeral text n → SignedNumeral text (pos n)
  negative : {text : List ℕ} {n : ℕ} → Numeral text (suc n) → SignedNumeral (45 ∷ text) (negsuc n)

-- The text of a number of 64 bits is a numeral of it and reads as it; no other text is a numeral of it, and of no other
-- number is it one.
pub record DecimalsReadBack : Type 0 where
  pub number : (n : ℕ) → n < 18446744073709551616 → Numeral (decimal n) n
  pub signed : (k : ℤ) → nat_abs k < 18446744073709551616 → SignedNumeral (signed_decimal k) k
  pub back : (k : ℤ) → nat_abs k < 18446744073709551616 → read_signed (signed_decimal k) ≡ k
  pub only : (text : List ℕ) (k : ℤ) →
      nat_abs k < 18446744073709551616 →
      SignedNumeral text k →
      text ≡ signed_decimal k
