-- What is printed of a file: too long, or opened with the numbers that it is lent.
use mathlib.Core.Path.{◌≡◌, refl, sym, ap, ◌∙◌}
use mathlib.Core.Bool.{true, false}
use mathlib.Core.List.{List, ◌∷◌}
use Prim.Native.Nat.{ℕ, zero, suc, ◌≤◌, min}
use native.Mathlib.Omega.{arith}
use lib.ListN.{length, take, replicate, length-replicate}
use lib.Seq.{length-take-le}
use lib.Dec.{ltb}
use Rattle.job.specs.Job.{needed}
use Rattle.factor_file.specs.File.{header_in, file_step}
use Rattle.printing.specs.Text.{refusal_text, put_text, file_limit, lent_limit, opened_text, printed, print_step}

-- ---- the numbers that are lent: the first n of m zeros

take_zeros : (n m : ℕ) → n ≤ m → take n (replicate {A = ℕ} m 0) ≡ replicate {A = ℕ} n 0
take_zeros zero m h = refl
take_zeros (suc n) zero h = absurd (omega arith)
take_zeros (suc n) (suc m) h = ap (λ (l : List ℕ). 0 ∷ l) (take_zeros n m (omega arith))

pub lent_length : (n k m : ℕ) → n ≡ min k m → n ≡ length (take n (replicate {A = ℕ} m 0))
lent_length n k m e = sym (length-take-le n (replicate {A = ℕ} m 0) (omega (arith, e, length-replicate {A = ℕ} m 0)))

pub lent_zeros : (n k m : ℕ) → n ≡ min k m → take n (replicate {A = ℕ} m 0) ≡ replicate {A = ℕ} (min k m) 0
lent_zeros n k m e = take_zeros n m (omega (arith, e)) ∙ ap (λ (i : ℕ). replicate {A = ℕ} i 0) e

-- ---- the printer's step

pub printed_long : (input output : List ℕ) → ltb file_limit (length input) ≡ true → put_text (refusal_text 15 0) output ≡ print_step input output
unfolding print_step printed
printed_long input output h = rw h

pub printed_lent : (input output : List ℕ) {v : List ℕ} → ltb file_limit (length input) ≡ false → v ≡ replicate (min (needed (header_in input)) lent_limit) 0 → put_text (opened_text (file_step input v)) output ≡ print_step input output
unfolding print_step printed
printed_lent input output h e = rw h (ap (λ (v : List ℕ). put_text (opened_text (file_step input v)) output) e)
