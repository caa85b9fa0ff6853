-- The combined map of two jobs of one cell, which is the paper's joined map: the tests of the call in the paper's
-- order, and what it answers and leaves.
use Rattle.std.specs.Prelude.{◌&&◌, ◌∷◌}
use Rattle.algebra.specs.Prelude.{Bool, not, eqb, ℕ, List, [], length}
use Rattle.algebra.specs.cells.Cell.{J}
use Rattle.numbers.specs.Value.{prime}
use Rattle.signed.specs.Integers.{ℤ}
use Rattle.refusals.specs.Refusals.{first, Test, ◌⇒◌, accepted}
use Rattle.slices.specs.Pairs.{all_below}
use Rattle.cell.specs.Volume.{group_of, volume_length}
use Rattle.cell.specs.Consistency.{consistent_map}
use Rattle.output.specs.Output.{Filled, Filled.written, Filled.not_written}
use Rattle.combined.specs.Chinese.{combined_numbers}
use Rattle.job.specs.declared.Job.{Job}
use Rattle.job.specs.Job.{valid_job, map_held, header_of, as_long, half_lengths}

-- The two jobs are of one cell, one for each prime, in order. Their factor lists may differ.
abbrev pub of_one_cell : (i j : Job) → Bool
of_one_cell i j =
    eqb i.group j.group
    &&
    (eqb i.a.length j.a.length
    &&
    (eqb i.b.length j.b.length
    && (eqb i.c.length j.c.length && (eqb i.modulus 1 && eqb j.modulus 2))))

-- Two maps of a cell, and an output of `room` numbers: 6, 7, 14.
abbrev pub maps_tests : (group : ℕ) (lengths : J) (v w : List ℕ) (room : ℕ) → List Test
maps_tests group n v w room =
    not (as_long group n v && (as_long group n w && eqb room (volume_length (group_of group) (half_lengths n)))) ⇒ 6 ∷
    not (all_below (prime 1) v && all_below (prime 2) w) ⇒ 7 ∷
    not
    (consistent_map (group_of group) (half_lengths n) v && consistent_map (group_of group) (half_lengths n) w) ⇒ 14 ∷
    []

-- 25, 22, 27, 6, 7, 14, each over both jobs or volumes before the next. Behind 27 the group and the lengths of the
-- first are those of the second.
abbrev pub combine_tests : (i j : Job) (v w : List ℕ) (room : ℕ) → List Test
combine_tests i j v w room =
    not (valid_job i && valid_job j) ⇒ 25 ∷
    not (eqb i.state map_held && eqb j.state map_held) ⇒ 22 ∷ not (of_one_cell i j) ⇒ 27 ∷
    maps_tests i.group (header_of i).lengths v w room

-- what the call answers, the count of numbers or the refusal's number, and what it leaves in the output
pub record CombineOutcome : Type 0 where
  pub answer : Filled
  pub output : List ℤ

-- number by number; a refused call leaves the output as it was
unfoldable pub combine_step : (i : Job) (v : List ℕ) (j : Job) (w : List ℕ) (output : List ℤ) → CombineOutcome
combine_step i v j w output =
    accepted (first (combine_tests i j v w (length output)))
    (record { answer = written (length output); output = combined_numbers v w })
    (λ n. record { answer = not_written n; output = output })
