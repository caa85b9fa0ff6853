-- Blanks in a row, one at a time; fields that are filled up with them.
use mathlib.Core.Path.{◌≡◌, refl, sym, ◌∙◌, ap, subst}
use mathlib.Core.List.{List, [], ◌∷◌, ◌++◌}
use Prim.Native.Nat.{ℕ, zero, suc, ◌+◌, ◌-◌, ◌<◌, ◌≤◌}
use native.Mathlib.Omega.{arith}
use lib.ListN.{replicate}
use Rattle.output.specs.Output.{blank, each}
use Rattle.output.specs.Written.{Wrote, Ends}
use Rattle.output.proofs.Writing.{each_none, each_ends, each_next, each_done, wrote_as, ends_as}

abbrev one : ℕ → List ℕ
one k = blank ∷ []

blank_last : (n : ℕ) → blank ∷ replicate n blank ≡ replicate n blank ++ blank ∷ []
blank_last zero = refl
blank_last (suc n) = ap (λ l. blank ∷ l) (blank_last n)

pub blanks_each : (n : ℕ) → replicate n blank ≡ each n one
unfolding each
blanks_each zero = refl
blanks_each (suc n) = blank_last n ∙ ap (λ l. l ++ blank ∷ []) (blanks_each n)

-- The invariant of a loop over the places i of a field, from the number of those in use up to the width.
pub record Blanking (at used width i : ℕ) (before : List ℕ) (place : ℕ) (after : List ℕ) : Type 0 where
  pub from : used ≤ i
  pub le : i - used ≤ width - used
  pub wrote : Wrote at (each (i - used) one) before place after

pub blanking_start : (at used width : ℕ) (d : List ℕ) → Blanking at used width used d at d
blanking_start at used width d = record {
  from = omega arith;
  le = omega arith;
  wrote = let e : 0 ≡ used - used = omega arith in subst (λ k. Wrote at (each k one) d at d) e (each_none at one d);
}

module _ {at used width i place : ℕ} {d d' : List ℕ} (b : Blanking at used width i d place d') where
  pub blanking_ends : Ends at (replicate (width - used) blank) → i < width → Ends place (blank ∷ [])
  blanking_ends h l = each_ends {y = i - used} {n = width - used} one (ends_as h (blanks_each (width - used))) (omega (arith, b.from, l)) b.wrote

  pub blanking_next : {next : ℕ} {d'' : List ℕ} → i < width → Wrote place (blank ∷ []) d' next d'' → Blanking at used width (i + 1) d next d''
  blanking_next {next} {d''} l w = record {
    from = omega (arith, b.from);
    le = omega (arith, b.from, l);
    wrote = let e : i - used + 1 ≡ i + 1 - used = omega (arith, b.from) in subst (λ k. Wrote at (each k one) d next d'') e (each_next one b.wrote w);
  }

  pub blanking_done : width ≤ i → Wrote at (replicate (width - used) blank) d place d'
  blanking_done l = wrote_as (each_done {y = i - used} {n = width - used} one b.le (omega (arith, l)) b.wrote) (sym (blanks_each (width - used)))
