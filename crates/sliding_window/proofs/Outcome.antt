-- The outcome of a refused call and of an accepted one, and what is known where every test was passed.
use mathlib.Core.Path.{◌≡◌, refl, ◌∙◌, ap}
use mathlib.Core.Bool.{true, false}
use mathlib.Core.List.{List}
use Prim.Native.Nat.{ℕ, ◌≤◌}
use native.Mathlib.Omega.{arith}
use lib.ListN.{length}
use lib.IntN.{ℤ}
use borrow.Author.Tests.{eqb-false, leb-false, ltb-false}
use Rattle.refusals.specs.declared.Refusal.{Refusal}
use Rattle.refusals.specs.Refusals.{number_of, first}
use Rattle.refusals.proofs.Tests.{passed, passes, fails}
use Rattle.output.specs.Output.{Filled.written, Filled.not_written}
use Rattle.std.specs.Prelude.{Ok, Err}
use Rattle.sliding_window.specs.Window.{best_of, best_score, filled_by, window_count, Extremes, window_tests_of, windows_in, window_step}
use Rattle.sliding_window.specs.Answers.{window_outcome}

-- ---- every test was passed

pub record Sound (run : List ℤ) (w : ℕ) (o : Extremes) : Type 0 where
  pub positive : 1 ≤ w
  pub short : w ≤ 64
  pub least_fits : window_count run w ≤ length o.least
  pub greatest_fits : window_count run w ≤ length o.greatest
  pub place_of_least_fits : window_count run w ≤ length o.place_of_least
  pub place_of_greatest_fits : window_count run w ≤ length o.place_of_greatest

pub sound : (run : List ℤ) (w : ℕ) (o : Extremes) → 0 ≡ first (window_tests_of run w o) → Sound run w o
sound run w o e =
    let p = passed (window_tests_of run w o) tt e in
    let q = p.1.1 in
    record {
      positive = omega (arith, eqb-false w 0 p.0);
      short = omega (arith, leb-false 65 w p.1.0);
      least_fits = ltb-false _ _ q.0;
      greatest_fits = ltb-false _ _ q.1.0;
      place_of_least_fits = ltb-false _ _ q.1.1.0;
      place_of_greatest_fits = ltb-false _ _ q.1.1.1.0;
    }

pub outputs_left : (run : List ℤ) (w : ℕ) (o : Extremes) → 0 ≡ first (window_tests_of run w o) → (window_step run w o).outputs ≡ windows_in run w o
unfolding window_step
outputs_left run w o e = rw (← e) refl

-- ---- the outcomes, over the four outputs as they were lent

module _ (run : List ℤ) (w : ℕ) (l g : List ℤ) (k m : List ℕ) where
  abbrev lent : Extremes
  lent = record { least = l; greatest = g; place_of_least = k; place_of_greatest = m }

  pub refused_outcome : (r : Refusal) → number_of r ≡ first (window_tests_of run w lent) → window_outcome (Err r) l g k m ≡ window_step run w lent
  unfolding window_step
  refused_outcome r e = fails r _ _ (λ n. record { answer = not_written n; outputs = lent }) e

  -- both outputs of the least, and both of the greatest, have come back filled with `count` windows
  pub accepted_outcome : (count : ℕ) {l' g' : List ℤ} {k' m' : List ℕ} → 0 ≡ first (window_tests_of run w lent) → count ≡ window_count run w →
      (l' ≡ filled_by (λ j. best_score false run j w) count l) × (k' ≡ filled_by (λ j. best_of false run j w) count k) →
      (g' ≡ filled_by (λ j. best_score true run j w) count g) × (m' ≡ filled_by (λ j. best_of true run j w) count m) →
      window_outcome (Ok count) l' g' k' m' ≡ window_step run w lent
  unfolding window_step
  accepted_outcome count e n p q =
      (λ i. window_outcome (Ok count) (p.0 i) (q.0 i) (p.1 i) (q.1 i))
      ∙ ap (λ (c : ℕ). record {
        answer = written c;
        outputs = record {
          least = filled_by (λ j. best_score false run j w) c l;
          greatest = filled_by (λ j. best_score true run j w) c g;
          place_of_least = filled_by (λ j. best_of false run j w) c k;
          place_of_greatest = filled_by (λ j. best_of true run j w) c m;
        };
      }) n
      ∙ passes _ _ _ e
