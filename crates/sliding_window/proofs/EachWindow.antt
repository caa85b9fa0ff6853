-- What an accepted call leaves in its outputs: at each place the best score of its window, and the first place of it.
use mathlib.Core.Path.{◌≡◌, refl, sym, ◌∙◌, ap, subst}
use mathlib.Core.Bool.{Bool, true, false}
use mathlib.Core.List.{List}
use Prim.Native.Nat.{ℕ, zero, suc, ◌+◌, ◌≤◌, ◌<◌}
use native.Mathlib.Omega.{arith}
use lib.ListN.{length}
use lib.IntN.{ℤ, pos}
use Rattle.refusals.specs.Refusals.{first, accepted}
use Rattle.output.specs.Output.{Filled.written, Filled.not_written}
use Rattle.sliding_window.specs.Window.{score, best_of, best_score, filled_by, window_count, Extremes, window_tests_of, windows_in, WindowOutcome, window_step}
use Rattle.sliding_window.specs.FirstBest.{WindowAt, Windows, EachWindow}
use Rattle.sliding_window.proofs.FirstBest.{first_best}
use Rattle.slices.proofs.Stores.{get_or_stores}
use Rattle.sliding_window.proofs.Outcome.{sound, outputs_left}

window_at : (g : Bool) (run : List ℤ) (w j n : ℕ) (scores : List ℤ) (places : List ℕ) → 1 ≤ w → j < n → n + w ≤ length run + 1 → n ≤ length scores → n ≤ length places → WindowAt g run w j (filled_by (λ j. best_score g run j w) n scores) (filled_by (λ j. best_of g run j w) n places)
window_at g run w j n scores places l h r a b =
    let p = get_or_stores (λ j. best_of g run j w) n j 0 places h b in
    record {
      inside = omega arith;
      place = rw p (first_best g run j w l);
      its_score = get_or_stores (λ j. best_score g run j w) n j (pos 0) scores h a ∙ ap (score run) (sym p);
    }

-- a call that says what it wrote has passed every test
written_count : (k c n : ℕ) (a b : Extremes) → (accepted {O = WindowOutcome} k (record { answer = written c; outputs = a }) (λ m. record { answer = not_written m; outputs = b })).answer ≡ written n → (0 ≡ k) × (c ≡ n)
written_count zero c n a b e = (refl, cc)
written_count (suc k) c n a b e = let z : ◌≡◌ {A = ℕ} 0 1 = cc in absurd (omega arith)

passed_all : (run : List ℤ) (w : ℕ) (o : Extremes) (n : ℕ) → (window_step run w o).answer ≡ written n → (0 ≡ first (window_tests_of run w o)) × (window_count run w ≡ n)
unfolding window_step
passed_all run w o n e = written_count (first (window_tests_of run w o)) (window_count run w) n (windows_in run w o) o e

pub each_window : EachWindow
each_window run w o n e =
    let p = passed_all run w o n e in
    let s = sound run w o p.0 in
    subst (λ (c : ℕ). Windows run w c (window_step run w o).outputs) p.1
    (rw (outputs_left run w o p.0) (record {
      every = λ j l. omega (arith, s.positive);
      of_least = λ j l. window_at false run w j (window_count run w) o.least o.place_of_least s.positive l (omega arith) s.least_fits s.place_of_least_fits;
      of_greatest = λ j l. window_at true run w j (window_count run w) o.greatest o.place_of_greatest s.positive l (omega arith) s.greatest_fits s.place_of_greatest_fits;
    }))
