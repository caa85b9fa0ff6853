-- The octal digits of a factor list, stored from the lowest on: those before the rest n of the number f stand in the output.
use mathlib.Core.Path.{◌≡◌, refl, sym, ◌∙◌, ap}
use mathlib.Core.List.{List, [], ◌∷◌, ◌++◌, append_assoc, append-nil}
use Prim.Native.Nat.{ℕ, ◌/◌, ◌%◌}
use native.Mathlib.Omega.{arith}
use lib.ListN.{length, length-append}
use Rattle.lengths.specs.Lengths.{octal_digits}
use Rattle.lengths.proofs.Digits.{digit_cons}
use Rattle.output.specs.Written.{Wrote, Ends}
use Rattle.output.proofs.Writing.{wrote_none, wrote_append, wrote_as}
use Rattle.file_format.proofs.layout.Digits.{no_digits, digit_more}

pub record Spelling (f start : ℕ) (before : List ℕ) (n at : ℕ) (after : List ℕ) : Type 0 where
  pub done : List ℕ
  pub whole : octal_digits f ≡ done ++ octal_digits n
  pub wrote : Wrote start done before at after

pub spelling_start : (f start : ℕ) (before : List ℕ) → Spelling f start before f start before
spelling_start f start before = record { done = []; whole = refl; wrote = wrote_none start before }

module _ {f start : ℕ} {before : List ℕ} {n at : ℕ} {after : List ℕ} (s : Spelling f start before n at after) where
  pub spelling_ends : (n ≡ 0 → ⊥) → Ends start (octal_digits f) → Ends at (n % 8 ∷ [])
  spelling_ends z r = record { low = omega (arith, r.low, s.wrote.place, ap length s.whole, length-append s.done (octal_digits n), digit_more n z) }

  pub spelling_next : (n ≡ 0 → ⊥) → {r : ℕ} {m : List ℕ} → Wrote at (n % 8 ∷ []) after r m → Spelling f start before (n / 8) r m
  spelling_next z o = record {
    done = s.done ++ n % 8 ∷ [];
    whole = s.whole ∙ ap (λ (l : List ℕ). s.done ++ l) (digit_cons n z) ∙ sym (append_assoc s.done (n % 8 ∷ []) (octal_digits (n / 8)));
    wrote = wrote_append s.wrote o;
  }

  pub spelling_done : n ≡ 0 → Wrote start (octal_digits f) before at after
  spelling_done e = wrote_as s.wrote (sym (s.whole ∙ ap (λ (l : List ℕ). s.done ++ l) (no_digits n e) ∙ append-nil s.done))
