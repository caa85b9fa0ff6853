-- `window_extremes`: what the check says is the number of the first test that holds; a refused call has touched nothing, an accepted one has filled both pairs of outputs.
use native.Mathlib.Omega.{arith}
use mathlib.Core.Path.{◌≡◌, ◌∙◌, ap}
use mathlib.Core.List.{List}
use Prim.Native.Nat.{ℕ}
use lib.ListN.{length}
use lib.IntN.{ℤ}
use Rattle.refusals.specs.Refusals.{first}
use Rattle.refusals.proofs.Handed.{handed_on}
use Rattle.sliding_window.specs.Answers.{window_outcome}
use Rattle.sliding_window.specs.Window.{Extremes, window_tests, window_tests_of, window_count}
use Rattle.sliding_window.proofs.Outcome.{Sound, sound, refused_outcome, accepted_outcome}
use Rattle.sliding_window.proofs.window_extremes.Goals as goal

-- the check's number is the specification's
told : (run : List ℤ) (w count : ℕ) (o : Extremes) {n : ℕ} → n ≡ first (window_tests w count (length o.least) (length o.greatest) (length o.place_of_least) (length o.place_of_greatest)) → count ≡ window_count run w → n ≡ first (window_tests_of run w o)
told run w count o e p = e ∙ ap (λ (n : ℕ). first (window_tests w n (length o.least) (length o.greatest) (length o.place_of_least) (length o.place_of_greatest))) p

pub extremes-requires : goal.extremes-requires
extremes-requires c =
    let a = c.args in
    let s = sound _ _ _ (told a.run.now a.w _ (record { least = a.least.now; greatest = a.greatest.now; place_of_least = a.least_at.now; place_of_greatest = a.greatest_at.now }) c.in_ok-check_window.ensures c.window_count-count.ensures) in
    let n = c.window_count-count.ensures in
    (s.positive, s.short, omega (arith, n), omega (arith, n, s.least_fits), omega (arith, n, s.place_of_least_fits))

pub extremes-requires-2 : goal.extremes-requires-2
extremes-requires-2 c =
    let a = c.args in
    let s = sound _ _ _ (told a.run.now a.w _ (record { least = a.least.now; greatest = a.greatest.now; place_of_least = a.least_at.now; place_of_greatest = a.greatest_at.now }) c.in_ok-check_window.ensures c.window_count-count.ensures) in
    let n = c.window_count-count.ensures in
    (s.positive, s.short, omega (arith, n), omega (arith, n, s.greatest_fits), omega (arith, n, s.place_of_greatest_fits))

pub returns-in_err-check_window : goal.returns-in_err-check_window
returns-in_err-check_window c =
    let a = c.args in
    ap (λ r. window_outcome r a.least.now a.greatest.now a.least_at.now a.greatest_at.now) (handed_on _ _ c.from_residual.ensures.1)
    ∙ refused_outcome a.run.now a.w a.least.now a.greatest.now a.least_at.now a.greatest_at.now _ (told a.run.now a.w _ (record { least = a.least.now; greatest = a.greatest.now; place_of_least = a.least_at.now; place_of_greatest = a.greatest_at.now }) c.in_err-check_window.ensures c.window_count-count.ensures)

pub returns : goal.returns
returns c =
    let a = c.args in
    accepted_outcome a.run.now a.w a.least.now a.greatest.now a.least_at.now a.greatest_at.now c.window_count-count.result (told a.run.now a.w _ (record { least = a.least.now; greatest = a.greatest.now; place_of_least = a.least_at.now; place_of_greatest = a.greatest_at.now }) c.in_ok-check_window.ensures c.window_count-count.ensures) c.window_count-count.ensures (c.extremes.ensures.scores_after, c.extremes.ensures.places_after) (c.extremes-2.ensures.scores_after, c.extremes-2.ensures.places_after)
