-- A synthesis line by line: each line of a job in a turn of its own, on the volume as it then is.
--
-- The lines are taken along l, then h, then k, each by rising place of its pair at index 0, as RisingPlaces of
-- volume_transform says; `along_l`, `along_h` and `along_k` of its Axes are the pairs of each. Along l a line has the
-- pairs of its kind, so an odd h's of Pa has the pairs 1 to A - 1, and none where N3 = 2; along k it has all N2 + 2
-- numbers. What becomes of a line is the direct sum of its kind over the whole line; an odd h's line of P2₁2₁2₁
-- is stored times i, and along l it is divided by i. AxisSums of volume_transform says what all turns along l leave,
-- and all along l and h.
use Rattle.std.specs.Prelude.{◌≡◌, ◌+◌, ◌*◌, ◌/◌, ◌≤◌, ◌∷◌}
use Rattle.algebra.specs.Prelude.{true, not, ltb, ℕ, zero, suc, List, [], length}
use Rattle.refusals.specs.Refusals.{first, Test, accepted, ◌⇒◌}
use Rattle.numbers.specs.Value.{prime}
use Rattle.slices.specs.Pairs.{all_below}
use Rattle.lengths.specs.Lengths.{cleared, scratch_length}
use Rattle.cell.specs.Volume.{layers}
use Rattle.volume_transform.specs.Axes.{line_count, line_numbers, job_turn}
use Rattle.job.specs.declared.Job.{Job}
use Rattle.job.specs.Job.{valid_job, group_in, halves, fits, done, synthesis_step}

unfoldable pub lines_of : Job → ℕ
lines_of j = line_count (group_in j) (halves j)

-- the numbers of line n, and the volume after that line's transform
abbrev pub numbers_at : Job → (n : ℕ) → List ℕ → List ℕ
numbers_at j n v = line_numbers (group_in j) (halves j) n v

unfoldable pub line_synthesised : Job → (n : ℕ) → List ℕ → List ℕ
line_synthesised j n v = job_turn (group_in j) (halves j) j.modulus 0 n v

-- ---- one turn

-- 6, 13, and 7 of the line's own numbers: those of other lines may be anything.
abbrev pub turn_tests : Job → (n : ℕ) (v : List ℕ) (scratch : ℕ) → List Test
turn_tests j n v scratch =
    not (fits j v) ⇒ 6 ∷
    ltb scratch scratch_length ⇒ 13 ∷
    not (all_below (prime j.modulus) (numbers_at j n v)) ⇒ 7 ∷
    []

-- What a turn answers, 0 or the refusal's number, and what it leaves in the volume and in the scratch.
pub record TurnOutcome : Type 0 where
  pub answer : ℕ
  pub volume : List ℕ
  pub scratch : List ℕ

unfoldable pub turn_step : Job → (n : ℕ) (v scratch : List ℕ) → TurnOutcome
turn_step j n v scratch =
    accepted (first (turn_tests j n v (length scratch)))
    (record { answer = 0; volume = line_synthesised j n v; scratch = cleared scratch })
    (λ k. record { answer = k; volume = v; scratch = scratch })

-- ---- all turns, each on the volume that the one before left; turn n is lent the scratch s n

unfoldable pub after_turns : Job → (s : ℕ → List ℕ) (n : ℕ) → List ℕ → List ℕ
after_turns j s zero v = v
after_turns j s (suc n) v = (turn_step j n (after_turns j s n v) (s n)).volume

-- A job has N1 (B + 1) + W (B + 1) + W N1 lines. From a volume that synthesis accepts no turn is refused that is lent
-- scratch enough, and after the last the volume is what the synthesis leaves.
pub record TurnsSynthesise : Type 0 where
  pub counted :
      (j : Job)
      → valid_job j ≡ true
      → let N1 = j.a.length in
      let B = j.b.length / 2 in
      let W = layers (group_in j) (halves j) in
      lines_of j ≡ N1 * (B + 1) + W * (B + 1) + W * N1
  pub taken :
      (j : Job) (v scratch : List ℕ) (s : ℕ → List ℕ) (n : ℕ)
      → (synthesis_step j v scratch).outcome.answer ≡ done
      → ((i : ℕ) → scratch_length ≤ length (s i))
      → (turn_step j n (after_turns j s n v) (s n)).answer ≡ 0
  pub whole :
      (j : Job) (v scratch : List ℕ) (s : ℕ → List ℕ)
      → (synthesis_step j v scratch).outcome.answer ≡ done
      → ((i : ℕ) → scratch_length ≤ length (s i))
      → after_turns j s (lines_of j) v ≡ (synthesis_step j v scratch).outcome.volume
