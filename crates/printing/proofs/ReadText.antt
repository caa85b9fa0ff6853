-- The numerals of a map's lines.
use mathlib.Core.Path.{◌≡◌, refl, sym, ◌∙◌, ap, subst}
use mathlib.Core.Bool.{Bool, true, false, cond}
use mathlib.Core.List.{List, [], ◌∷◌, ◌++◌, append_assoc, append-nil}
use Prim.Native.Nat.{ℕ, zero, suc, ◌+◌, ◌*◌, ◌-◌, ◌/◌, ◌<◌, ◌≤◌}
use native.Mathlib.Omega.{arith}
use borrow.Author.Tests.{leb-true}
use lib.Dec.{leb}
use lib.ListN.{get_or}
use lib.IntN.{ℤ, pos, negsuc, nat_abs}
use Rattle.signed.specs.Integers.{centred}
use Rattle.numbers.specs.Value.{prime}
use Rattle.numbers.proofs.Primes.{prime_most}
use Rattle.cell.specs.Volume.{layers, map_place}
use Rattle.cell.proofs.StoredFactors.{layers_most}
use Rattle.output.specs.Output.{decimal, signed_decimal, each}
use Rattle.output.specs.Numerals.{SignedNumeral, unsigned}
use Rattle.output.proofs.Numerals.{decimal_numeral, signed_numeral}
use Rattle.job.specs.declared.Job.{Job}
use Rattle.job.specs.Job.{group_in, halves}
use Rattle.printing.specs.Text.{head_line, row_line, refusal_text}
use Rattle.printing.specs.Printable.{Fitting}
use Rattle.printing.specs.ReadText.{Behind, feed, field, Line, begins, listed, density_at, MapRead, RefusalRead, TextReads}
use Rattle.printing.proofs.map_text.Printing.{printable_sizes, printable_modulus}

-- a density is not longer than the prime
centred_small : (p x : ℕ) → nat_abs (centred p x) ≤ suc p
unfolding centred
centred_small p x = by (leb x (p / 2)) refl
  where
    by : (b : Bool) → leb x (p / 2) ≡ b → nat_abs (cond b (pos x) (negsuc (p - suc x))) ≤ suc p
    by true e = omega (arith, leb-true x (p / 2) e)
    by false e = omega arith

-- n numerals in a row, each behind a blank
fields : (n : ℕ) (f : ℕ → List ℕ) (g : ℕ → ℤ) (rest : List ℕ) (ks : List ℤ) → ((y : ℕ) → SignedNumeral (f y) (g y)) → Behind rest ks → Behind (each n (λ y. 32 ∷ f y) ++ rest) (listed n g ++ ks)
unfolding each listed
fields zero f g rest ks h b = b
fields (suc n) f g rest ks h b =
    subst (λ (t : List ℕ). Behind t (listed n g ++ g n ∷ [] ++ ks)) (sym (append_assoc (each n (λ y. 32 ∷ f y)) (32 ∷ f n) rest))
    (subst (Behind (each n (λ y. 32 ∷ f y) ++ (32 ∷ (f n ++ rest)))) (sym (append_assoc (listed n g) (g n ∷ []) ks))
    (fields n f g (32 ∷ (f n ++ rest)) (g n ∷ ks) h (field (h n) b)))

number : (n : ℕ) → n < 18446744073709551616 → SignedNumeral (decimal n) (pos n)
number n l = unsigned (decimal_numeral n l)

module _ (j : Job) (v : List ℕ) (fits : Fitting j v) where
  small : (z x y : ℕ) → nat_abs (density_at j v z x y) < 18446744073709551616
  small z x y = omega (arith, centred_small (prime j.modulus) (get_or v (map_place (group_in j) (halves j) (x, y, z)) 0), prime_most (printable_modulus fits))

  row_read : (z x : ℕ) → z < layers (group_in j) (halves j) → x < j.a.length → Line (row_line j v z x) (pos z ∷ pos x ∷ listed j.b.length (density_at j v z x))
  unfolding row_line
  row_read z x lz lx =
      let s = printable_sizes fits in
      begins (number z (omega (arith, lz, layers_most s.third j.group s.known, s.third.high)))
      (field (number x (omega (arith, lx, s.first.high)))
      (subst (Behind (each j.b.length (λ y. 32 ∷ signed_decimal (density_at j v z x y)) ++ 10 ∷ [])) (append-nil (listed j.b.length (density_at j v z x)))
      (fields j.b.length (λ y. signed_decimal (density_at j v z x y)) (density_at j v z x) (10 ∷ []) [] (λ y. signed_numeral (density_at j v z x y) (small z x y)) feed)))

  map_read : MapRead j v
  unfolding head_line
  map_read =
      let s = printable_sizes fits in
      record {
        numbers = _;
        named = refl;
        head =
            field (number j.group (omega (arith, s.known)))
            (field (number j.a.length (omega (arith, s.first.high)))
            (field (number j.b.length (omega (arith, s.second.high)))
            (field (number j.c.length (omega (arith, s.third.high))) feed)));
        row = row_read;
      }

refusal_read : (n place : ℕ) → n < 18446744073709551616 → place < 18446744073709551616 → RefusalRead n place
unfolding refusal_text
refusal_read n place ln lp = record {
  first = decimal n;
  second = decimal place;
  named = refl;
  is_number = decimal_numeral n ln;
  is_place = decimal_numeral place lp;
}

pub text_reads : TextReads
text_reads = record { map = map_read; refusal = refusal_read }
