-- The two directions, call after call: what an accepted call leaves is accepted by the call in the other direction, which restores the line.
use mathlib.Core.Path.{◌≡◌, sym, ◌∙◌, ap}
use mathlib.Core.List.{List}
use Prim.Native.Nat.{ℕ, zero, suc, ◌*◌, ◌-◌, ◌/◌, ◌≤◌, ◌<◌}
use native.Mathlib.Omega.{arith}
use lib.ListN.{length}
use borrow.Author.Tests.{not-false, leb-false, ltb-false, eqb-true, lt-leb, le-ltb, eq-eqb}
use Rattle.numbers.specs.Value.{prime}
use Rattle.numbers.proofs.Primes.{prime_pos}
use Rattle.slices.specs.Pairs.{Below, values_of}
use Rattle.slices.proofs.Bounds.{below_all_below, all_below_below}
use Rattle.slices.proofs.Values.{length_list, below_list}
use Rattle.lengths.specs.Lengths.{kind_of, pair_count, scratch_length, cleared}
use Rattle.lengths.proofs.Scratch.{length_cleared, cleared_twice}
use Rattle.line.specs.Line.{transform, transformed, line_tests, line_step}
use Rattle.refusals.specs.Refusals.{first}
use Rattle.line.specs.Demands.{Restored, RestoredAfter, TakenBack}
use Rattle.refusals.proofs.Tests.{Passed, passed, pass, none, not_t}
use Rattle.line.proofs.Demands.{restored, restored_after}
use Rattle.line.proofs.Accepted.{accepted_modulus}
use Rattle.line.proofs.Outcome.{none_held, accepted_outcome}

-- ---- what a transform leaves

length_transformed : (m kind direction N : ℕ) (line : List ℕ) → length (transformed m kind direction N line) ≡ 2 * pair_count kind N
unfolding transformed
length_transformed m kind direction N line = length_list m (pair_count kind N) (transform m (kind_of kind) direction (N / 2) (values_of m line))

below_transformed : (m kind direction N : ℕ) (line : List ℕ) → Below (prime m) (transformed m kind direction N line)
unfolding transformed
below_transformed m kind direction N line = below_list m (pair_count kind N) (transform m (kind_of kind) direction (N / 2) (values_of m line))

-- ---- the call

module _ (m kind direction N : ℕ) (factors line scratch : List ℕ) (h : 0 ≡ first (line_tests m kind direction N factors line (length scratch))) where
  tests : Passed (line_tests m kind direction N factors line (length scratch))
  tests = passed (line_tests m kind direction N factors line (length scratch)) tt h

  done : line_step m kind direction N factors line scratch ≡ record { answer = 0; line = transformed m kind direction N line; scratch = cleared scratch }
  done = accepted_outcome m kind direction N factors line scratch h

  direction_is : direction < 2
  direction_is = leb-false 2 direction tests.1.1.0

  fits : scratch_length ≤ length scratch
  fits = ltb-false (length scratch) 11520 tests.1.1.1.1.1.1.1.0

  again : 0 ≡ first (line_tests m kind (1 - direction) N factors (transformed m kind direction N line) (length (cleared scratch)))
  again =
      pass 26 _ tests.0
      (pass 1 _ tests.1.0
      (pass 2 _ (lt-leb 2 (1 - direction) (omega arith))
      (pass 3 _ tests.1.1.1.0
      (pass 4 _ tests.1.1.1.1.0
      (pass 5 _ tests.1.1.1.1.1.0
      (pass 6 _ (not_t _ (eq-eqb _ _ (length_transformed m kind direction N line)))
      (pass 13 _ (le-ltb (length (cleared scratch)) scratch_length (omega (arith, fits, length_cleared scratch fits)))
      (pass 7 _ (not_t _ (all_below_below (prime m) _ (below_transformed m kind direction N line)))
      none))))))))

  back : transformed m kind (1 - direction) N (transformed m kind direction N line) ≡ line
  back = go direction direction_is
    where
      len : length line ≡ 2 * pair_count kind N
      len = eqb-true _ _ (not-false _ tests.1.1.1.1.1.1.0)

      small : Below (prime m) line
      small = below_all_below (prime m) line (prime_pos m) (not-false _ tests.1.1.1.1.1.1.1.1.0)

      go : (d : ℕ) → d < 2 → transformed m kind (1 - d) N (transformed m kind d N line) ≡ line
      go zero l = restored.restored m kind N line (accepted_modulus m kind direction N factors line (length scratch) h) (leb-false 6 kind tests.1.0) (not-false _ tests.1.1.1.0) len small
      go (suc zero) l = restored_after.restored m kind N line (accepted_modulus m kind direction N factors line (length scratch) h) (leb-false 6 kind tests.1.0) (not-false _ tests.1.1.1.0) len small
      go (suc (suc d)) l = absurd (omega arith)

  undone : line_step m kind (1 - direction) N factors (transformed m kind direction N line) (cleared scratch) ≡ record { answer = 0; line = line; scratch = cleared scratch }
  unfolding line_step
  undone = rw (← again, back, cleared_twice scratch)

  step_back : let o = line_step m kind direction N factors line scratch in line_step m kind (1 - direction) N factors o.line o.scratch ≡ record { answer = 0; line = line; scratch = o.scratch }
  step_back = ap (λ o. line_step m kind (1 - direction) N factors o.line o.scratch) done ∙ undone ∙ ap (λ o. record { answer = 0; line = line; scratch = o.scratch }) (sym done)

pub taken_back : TakenBack
taken_back = record { taken_back = λ m kind direction N factors line scratch e. step_back m kind direction N factors line scratch (none_held m kind direction N factors line scratch e) }
