-- Refused by a test, or the list is written.
use native.Mathlib.Omega.{arith}
use mathlib.Core.Path.{◌≡◌, ap, ◌∙◌}
use mathlib.Core.Bool.{true, false}
use mathlib.Core.List.{List}
use Prim.Native.Nat.{ℕ, ◌<◌, ◌≤◌}
use lib.ListN.{length}
use borrow.Author.Tests.{lt-ltb, le-ltb}
use Rattle.lengths.specs.Lengths.{admitted}
use Rattle.refusals.specs.Refusals.{accepted}
use Rattle.refusals.proofs.Tests.{stop, pass, none, not_t, not_f, by_true, by_false}
use Rattle.output.specs.Output.{FillOutcome, filled, not_filled, not_written, written}
use Rattle.output.specs.Written.{Wrote}
use Rattle.output.proofs.Writing.{wrote_filled}
use Rattle.factor_lists.specs.Chosen.{chosen_list, list_step}
use Rattle.factor_lists.proofs.Fewest.{chosen_product}
use Rattle.factor_lists.proofs.factor_list.Goals as goal

-- what the number of the first test makes of it
abbrev told : (list output : List ℕ) → ℕ → FillOutcome
told list output k = accepted k (filled list output) (not_filled output)

module _ (N : ℕ) (output : List ℕ) where
  not_admitted : admitted N ≡ false → record { answer = not_written 3; output = output } ≡ list_step N output
  unfolding list_step
  not_admitted e = ap (told (chosen_list N) output) (stop _ (not_f _ e))

  module _ (e : admitted N ≡ true) where
    no_room : length output < length (chosen_list N) → record { answer = not_written 18; output = output } ≡ list_step N output
    unfolding list_step
    no_room h = ap (told (chosen_list N) output) (pass 3 _ (not_t _ e) (stop _ (lt-ltb (length output) (length (chosen_list N)) h)))

    listed : {r : ℕ} {after : List ℕ} → length (chosen_list N) ≤ length output → Wrote 0 (chosen_list N) output r after → record { answer = written r; output = after } ≡ list_step N output
    unfolding list_step
    listed h p = wrote_filled p h ∙ ap (told (chosen_list N) output) (pass 3 _ (not_t _ e) (pass 18 _ (le-ltb (length output) (length (chosen_list N)) h) none))

pub returns-then-not-admitted : goal.returns-then-not-admitted
returns-then-not-admitted c = not_admitted _ _ (by_false _ _ c.admitted.ensures c.if-not-admitted.true)

pub count_factors-requires : goal.count_factors-requires
count_factors-requires c = chosen_product _ (by_true _ _ c.admitted.ensures c.if-not-admitted.false)

pub returns-then-out-count_factors : goal.returns-then-out-count_factors
returns-then-out-count_factors c =
    no_room _ _ (by_true _ _ c.admitted.ensures c.if-not-admitted.false) (omega (arith, c.count_factors.ensures, c.if-out-count_factors.true))

pub put_factors-requires : goal.put_factors-requires
put_factors-requires c = chosen_product _ (by_true _ _ c.admitted.ensures c.if-not-admitted.false)

pub returns : goal.returns
returns c =
    listed _ _ (by_true _ _ c.admitted.ensures c.if-not-admitted.false) (omega (arith, c.count_factors.ensures, c.if-out-count_factors.false)) c.put_factors.ensures
