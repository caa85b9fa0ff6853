-- The sliding window over a run of scores: the least and the greatest of every w neighbouring entries, and the first
-- place of each. What the call refuses, and what it answers and leaves for every input.
use Rattle.algebra.specs.Prelude.{Bool, true, false, cond, eqb, leb, ltb, ℕ, zero, suc, List, []}
use Rattle.algebra.specs.Prelude.{length, get_or}
use Rattle.std.specs.Prelude.{ℤ, pos, ◌+◌, ◌-◌, ◌∷◌}
use Rattle.std.specs.Int.Signed.{lt_z}
use Rattle.slices.specs.Filling.{stores}
use Rattle.refusals.specs.Refusals.{Test, ◌⇒◌, first, accepted}
use Rattle.output.specs.Output.{Filled, Filled.written, Filled.not_written}

-- y is better than x: less where the least is sought, greater where the greatest is
abbrev pub beats : (greatest : Bool) (y x : ℤ) → Bool
beats false y x = lt_z y x
beats true y x = lt_z x y

abbrev pub score : (run : List ℤ) (place : ℕ) → ℤ
score run j = get_or run j (pos 0)

-- of two places the one with the better score, the first of them where the scores are equal
abbrev pub better_of : (greatest : Bool) (run : List ℤ) (a b : ℕ) → ℕ
better_of g run a b = cond (beats g (score run b) (score run a)) b a

-- the place of the best among the w entries from s on: each is compared with the best of those before it
unfoldable pub best_of : (greatest : Bool) (run : List ℤ) (s w : ℕ) → ℕ
best_of g run s zero = s
best_of g run s (suc w) = better_of g run (best_of g run s w) (s + w)

-- the score there
abbrev pub best_score : (greatest : Bool) (run : List ℤ) (s w : ℕ) → ℤ
best_score g run s w = score run (best_of g run s w)

-- a window ends at each entry from the w-th on: none in a run that is shorter
abbrev pub window_count : (run : List ℤ) (w : ℕ) → ℕ
window_count run w = length run + 1 - w

-- ---- The refusals, in the paper's order

-- the four outputs: the scores, and their places in the run, counted from 0
pub record Extremes : Type 0 where
  pub least : List ℤ
  pub greatest : List ℤ
  pub place_of_least : List ℕ
  pub place_of_greatest : List ℕ

-- 34 for a window that is not of 1 to 64 entries, 18 where one of the outputs has fewer than n places. The outputs
-- count by their lengths alone.
abbrev pub window_tests : (w n least greatest place_of_least place_of_greatest : ℕ) → List Test
window_tests w n least greatest place_of_least place_of_greatest =
    eqb w 0 ⇒ 34 ∷ leb 65 w ⇒ 34 ∷
    ltb least n ⇒ 18 ∷ ltb greatest n ⇒ 18 ∷ ltb place_of_least n ⇒ 18 ∷ ltb place_of_greatest n ⇒ 18 ∷
    []

abbrev pub window_tests_of : (run : List ℤ) (w : ℕ) (outputs : Extremes) → List Test
window_tests_of run w o =
    window_tests w (window_count run w) (length o.least) (length o.greatest) (length o.place_of_least)
    (length o.place_of_greatest)

-- ---- The outcome

-- an output whose first n places are f 0, f 1, .., f (n - 1); those beyond are as they were
abbrev pub filled_by : {E : Type 0} (f : ℕ → E) (n : ℕ) (output : List E) → List E
filled_by f n output = stores (λ j. j) f n output

-- the outputs of an accepted call: place j of each is that of the window that starts at entry j
abbrev pub windows_in : (run : List ℤ) (w : ℕ) (outputs : Extremes) → Extremes
windows_in run w o = record {
  least = filled_by (λ j. best_score false run j w) (window_count run w) o.least;
  greatest = filled_by (λ j. best_score true run j w) (window_count run w) o.greatest;
  place_of_least = filled_by (λ j. best_of false run j w) (window_count run w) o.place_of_least;
  place_of_greatest = filled_by (λ j. best_of true run j w) (window_count run w) o.place_of_greatest;
}

-- what a call answers, the count of windows or the refusal's number, and what it leaves in the outputs
pub record WindowOutcome : Type 0 where
  pub answer : Filled
  pub outputs : Extremes

unfoldable pub window_step : (run : List ℤ) (w : ℕ) (outputs : Extremes) → WindowOutcome
window_step run w o =
    accepted (first (window_tests_of run w o))
    (record { answer = written (window_count run w); outputs = windows_in run w o })
    (λ n. record { answer = not_written n; outputs = o })
