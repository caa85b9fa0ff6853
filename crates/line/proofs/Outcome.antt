-- The outcome of a call, refused or accepted, as the call's own parts have it.
use mathlib.Core.Path.{◌≡◌, refl, sym}
use mathlib.Core.List.{List}
use Prim.Native.Nat.{ℕ, zero, suc}
use lib.ListN.{length}
use Rattle.line.specs.Line.{transformed, line_tests, LineOutcome, line_step}
use Rattle.refusals.specs.declared.Refusal.{Refusal}
use Rattle.std.specs.Prelude.{Ok, Err}
use Rattle.refusals.specs.Refusals.{number_of, first, accepted}
use Rattle.lengths.specs.Lengths.{cleared}
use Rattle.line.specs.Answers.{line_outcome}
use Rattle.refusals.proofs.Tests.{fails}

pub refused_outcome : (m kind direction N : ℕ) (factors line scratch : List ℕ) (r : Refusal) → number_of r ≡ first (line_tests m kind direction N factors line (length scratch)) →
    line_outcome (Err r) line scratch ≡ line_step m kind direction N factors line scratch
unfolding line_step
refused_outcome m kind direction N factors line scratch r e = fails r _ _ (λ n. record { answer = n; line = line; scratch = scratch }) e

pub transformed_outcome : (m kind direction N : ℕ) (factors line scratch line' scratch' : List ℕ) → 0 ≡ first (line_tests m kind direction N factors line (length scratch)) →
    line' ≡ transformed m kind direction N line → scratch' ≡ cleared scratch → line_outcome (Ok tt) line' scratch' ≡ line_step m kind direction N factors line scratch
unfolding line_step
transformed_outcome m kind direction N factors line scratch line' scratch' e l s = rw (← e, l, s)

-- ---- what is known of a call that answered 0

answered : (n : ℕ) (o : LineOutcome) (line scratch : List ℕ) → (accepted n o (λ n. record { answer = n; line = line; scratch = scratch })).answer ≡ 0 → 0 ≡ n
answered zero o line scratch e = refl
answered (suc n) o line scratch e = sym e

module _ (m kind direction N : ℕ) (factors line scratch : List ℕ) where
  -- every test was passed ..
  pub none_held : (line_step m kind direction N factors line scratch).answer ≡ 0 → 0 ≡ first (line_tests m kind direction N factors line (length scratch))
  unfolding line_step
  none_held e = answered _ _ line scratch e

  -- .. and then it leaves the transformed line
  pub accepted_outcome : 0 ≡ first (line_tests m kind direction N factors line (length scratch)) →
      line_step m kind direction N factors line scratch ≡ record { answer = 0; line = transformed m kind direction N line; scratch = cleared scratch }
  accepted_outcome h = sym (transformed_outcome m kind direction N factors line scratch _ _ h refl refl)
