-- A factor file read, and written: what opening a job by it answers and leaves; the records of a volume, the file of a
-- job, and what writing it answers and leaves. Its layout, its bytes and the tests of its shape are those of
-- file_format's Format.
use Rattle.std.specs.Prelude.{◌∷◌, ◌++◌}
use Rattle.algebra.specs.Prelude.{ℕ, List, [], length, map, replicate, Bool, not, eqb, ltb}
use Rattle.job.specs.declared.Job.{Job}
use Rattle.job.specs.declared.Reflection.{Reflection}
use Rattle.job.specs.Job.{half_lengths, opened, not_opened, OpenOutcome, index, own_tests, open_step, header_of}
use Rattle.job.specs.Job.{group_in, halves, valid_job, map_held, fits}
use Rattle.file_format.specs.declared.FileRecord.{FileRecord}
pub use Rattle.file_format.specs.Format.{byte_at, after_list, list1_at, record_count, records_in, shape_tests}
pub use Rattle.file_format.specs.Format.{header_in}
use Rattle.refusals.specs.Refusals.{first, accepted, Test, ◌⇒◌}
use Rattle.algebra.specs.cells.Cell.{J, Group, full, image_of, at, factor_acts, every, some}
use Rattle.algebra.specs.cells.Cell.{same_orbit, lex_le, places_of}
use Rattle.algebra.specs.cells.Cell as Tests
use Rattle.numbers.specs.Value.{prime, Value, field, conj, value}
use Rattle.cell.specs.Volume.{group_of, factors_in}
use Rattle.cell.specs.Consistency.{same_value, record_on, consistent_factors}
use Rattle.slices.specs.Pairs.{all_below}
use Rattle.file_format.specs.Format.{version_of, file_of}
use Rattle.file_format.specs.Parsed.{file_record}
use Rattle.output.specs.Output.{FillOutcome, filled, not_filled}
unfoldable pub use Rattle.file_format.specs.Format.{two_bytes, four_bytes, modulus_in, lengths_at, list_at, list2_at}
unfoldable pub use Rattle.file_format.specs.Format.{list3_at, count_at, record_at, records_from}

abbrev pub index_of : FileRecord → Reflection
index_of c = record { 0 = c.h; 1 = c.k; 2 = c.l }

abbrev pub index_in : FileRecord → J
index_in c = index (index_of c)

-- ---- the records of a file: each is judged by itself and against those before it, then all are recorded

-- 24: one of the records before is of its orbit, whatever their values.
abbrev pub orbit_seen : (group : ℕ) (lengths : J) (before : List J) (at : J) → List Test
orbit_seen group n before at = some before (λ i. same_orbit (group_of group) (half_lengths n) i at) ⇒ 24 ∷ []

-- A record of a file after records at the indices before it: 10, 7, 12, 24.
abbrev pub judge_tests : (modulus group : ℕ) (lengths : J) (before : List J) (at : J) (x y : ℕ) → List Test
judge_tests m group n before at x y = own_tests m group n at x y ++ orbit_seen group n before at

-- all records are taken, or the first that a test refuses: its number, and its place from 0
pub data Judgement : Type 0 where
  taken : Judgement
  refused_at : (number place : ℕ) → Judgement

unfoldable pub judged : (modulus group : ℕ) (lengths : J) (before : List J) → List FileRecord → Judgement
judged m group n before [] = taken
judged m group n before (c ∷ cs) =
    accepted (first (judge_tests m group n before (index_in c) c.a c.b))
    (judged m group n (index_in c ∷ before) cs) (λ k. refused_at k (length before))

-- every record puts its value at its index and the implied values at all images
unfoldable pub record_all_on : Group → J → (modulus : ℕ) → List FileRecord → List ℕ → List ℕ
record_all_on g a m [] v = v
record_all_on g a m (c ∷ cs) v = record_all_on g a m cs (record_on g a m (index_in c) (value m c.a c.b) v)

-- A refused record gives its place, no job, and leaves the volume zero.
unfoldable pub feed : List FileRecord → Job → List ℕ → OpenOutcome
feed cs j v =
    elim (judged j.modulus j.group (header_of j).lengths [] cs) [
      | taken ↦ record { answer = opened j; volume = record_all_on (group_in j) (halves j) j.modulus cs v }
      | refused_at n place ↦ record { answer = not_opened n place; volume = replicate (length v) 0 }
    ]

-- ---- the opening of a file

-- An opening with kind 0 and the file's modulus, then the records.
unfoldable pub file_step : (file volume : List ℕ) → OpenOutcome
file_step file v =
    accepted (first (shape_tests file))
    (let o = open_step (modulus_in file) (header_in file) 0 v in
    elim o.answer [ opened j ↦ feed (records_in file) j o.volume | not_opened n place ↦ o ])
    (λ n. record { answer = not_opened n 0; volume = v })

-- ---- a file written

-- the order of records: i comes no later than j by h, then k, then l
abbrev pub no_later : (i j : J) → Bool
no_later i j = lex_le i j

-- j comes no later than any of its images
abbrev pub is_lowest : Group → (a j : J) → Bool
is_lowest g a j = every (full g) (λ s. no_later j (image_of a s j))

-- ---- the records of a volume of packed factors: one for each orbit with a value other than zero, at its lowest (h, k,
-- l), by rising h, then k, then l.

-- of the places of a list, each that is the lowest of its orbit and has a factor other than zero gives a record
abbrev pub records_at : Group → J → (m : ℕ) → List ℕ → List J → List (J × Value m)
records_at g a m v places =
    Tests.records_of (factor_acts (field m) (conj m) a) no_later same_value (full g) (at (factors_in g a m v)) places

-- ---- the file of a job

unfoldable pub job_records : (j : Job) → List ℕ → List (J × Value j.modulus)
job_records j v = records_at (group_in j) (halves j) j.modulus v (places_of (halves j))

unfoldable pub job_file : Job → List ℕ → List ℕ
job_file j v = file_of (version_of j.modulus) j.modulus (header_of j) (map (file_record j.modulus) (job_records j v))

-- ---- the call

-- 18: the output has fewer places than the file has bytes
abbrev pub room_tests : (size room : ℕ) → List Test
room_tests size room = ltb room size ⇒ 18 ∷ []

-- Writer: 25, 23, 6, 7, 14, 18.
abbrev pub write_tests : Job → (v output : List ℕ) → List Test
write_tests j v output =
    not (valid_job j) ⇒ 25 ∷
    eqb j.state map_held ⇒ 23 ∷
    not (fits j v) ⇒ 6 ∷
    not (all_below (prime j.modulus) v) ⇒ 7 ∷
    not (consistent_factors (group_in j) (halves j) j.modulus v) ⇒ 14 ∷
    room_tests (length (job_file j v)) (length output)

unfoldable pub write_step : Job → (v output : List ℕ) → FillOutcome
write_step j v output = accepted (first (write_tests j v output)) (filled (job_file j v) output) (not_filled output)

-- ---- how long the file is, asked before it is written

pub data Sized : Type 0 where
  bytes : ℕ → Sized
  not_sized : (number : ℕ) → Sized

-- the writer's tests but the last: 25, 23, 6, 7, 14
abbrev pub held_tests : Job → (v : List ℕ) → List Test
held_tests j v =
    not (valid_job j) ⇒ 25 ∷
    eqb j.state map_held ⇒ 23 ∷
    not (fits j v) ⇒ 6 ∷
    not (all_below (prime j.modulus) v) ⇒ 7 ∷
    not (consistent_factors (group_in j) (halves j) j.modulus v) ⇒ 14 ∷
    []

unfoldable pub length_step : Job → (v : List ℕ) → Sized
length_step j v = accepted (first (held_tests j v)) (bytes (length (job_file j v))) not_sized
