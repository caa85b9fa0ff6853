-- Lists of calls: what they answer and leave on a job and a volume, each call by its own promise, and what the model
-- says of the same list. The third demand: over every list of calls from an accepted opening or file on, every answer,
-- the job and the volume are the model's; and what follows from it. Each statement is the promise of the function of
-- the same name in src/lib.rt.
use Rattle.algebra.specs.Prelude.{true, eqb, ℕ, suc, List, [], map}
use Rattle.algebra.specs.Prelude.{length, take, replicate}
use Rattle.std.specs.Prelude.{◌⊎◌, ◌≡◌, ◌↔◌, ◌+◌, ◌/◌, ◌%◌, ◌≤◌, ◌∷◌, ◌++◌}
use Rattle.algebra.specs.cells.Cell.{J, Sym, ops, full, image_of, point_image, at, factor_acts}
use Rattle.algebra.specs.orbits.Orbit.{Mem, Perm, record_all}
use Rattle.numbers.specs.Value.{Value, field, conj, value}
use Rattle.lengths.specs.Lengths.{scratch_length}
use Rattle.cell.specs.Volume.{group_of, factors_in, map_of}
use Rattle.cell.specs.Exactly.{FactorsConsistent, MapConsistent}
use Rattle.job.specs.declared.Job.{Job}
use Rattle.job.specs.declared.Reflection.{Reflection}
use Rattle.job.specs.declared.GridPoint.{GridPoint}
use Rattle.job.specs.Job.{Header, half_lengths, needed, map_held, factors_held, with_state, header_of, valid_job}
use Rattle.job.specs.Job.{group_in, halves, within, index, position, opened, not_opened, OpenOutcome, own_tests}
use Rattle.job.specs.Job.{open_tests, open_step, Said, done, density, refused, record_step, synthesis_step}
use Rattle.job.specs.Job.{analysis_step, point_step}
use Rattle.job.specs.Job.{map_power_step, factor_power_step, factor, power}
use Rattle.file_format.specs.declared.FileRecord.{FileRecord}
use Rattle.refusals.specs.Refusals.{first}
use Rattle.refusals.specs.Orders.{NoneOf}
use Rattle.factor_file.specs.File.{index_of, index_in, count_at, records_in, shape_tests, file_step}
use Rattle.factor_file.specs.File.{modulus_in, header_in, write_step}
use Rattle.model.specs.Model.{Model, group, half, factor_of, density_of, signed_real, Call, model_volume, model_job}
use Rattle.model.specs.Model.{factor_volume, map_volume, Beginning, begun, not_begun, recording, synthesis, analysis}
use Rattle.model.specs.Model.{read_point, read_factor, read_map_power, read_factor_power, model_said, model_after}
use Rattle.model.specs.Model.{opening_model, model_open, model_file}
use Rattle.output.specs.Output.{not_written}
pub use Rattle.job.specs.Job.{step}

-- two records of a file are of one orbit: the index of the second is an image of that of the first
abbrev pub OneOrbit : Header → (c d : FileRecord) → Type 0
OneOrbit h c d =
    (s : Sym) × Mem s (full (group_of h.group)) × (image_of (half_lengths h.lengths) s (index_in c) ≡ index_in d)

-- ---- how a job begins: an opening or a file, each with the volume that it is lent

-- a start under the modulus number μ; a file's is its own
pub data Start (μ : ℕ) : Type 0 where
  opening : Header → (kind : ℕ) (volume : List ℕ) → Start μ
  reading : (file volume : List ℕ) → modulus_in file ≡ μ → Start μ

abbrev pub start : {μ : ℕ} → Start μ → OpenOutcome
start {μ} (opening h kind v) = open_step μ h kind v
start {μ} (reading file v of) = file_step file v

abbrev pub model_start : {μ : ℕ} → Start μ → Beginning μ
model_start {μ} (opening h kind v) = model_open μ h kind v
model_start {μ} (reading file v of) = model_file μ file

-- a file is an opening with kind 0, then its records
abbrev pub start_header : {μ : ℕ} → Start μ → Header
start_header (opening h kind v) = h
start_header (reading file v of) = header_in file

abbrev pub start_kind : {μ : ℕ} → Start μ → ℕ
start_kind (opening h kind v) = kind
start_kind (reading file v of) = 0

abbrev pub start_volume : {μ : ℕ} → Start μ → List ℕ
start_volume (opening h kind v) = v
start_volume (reading file v of) = v

abbrev pub start_records : {μ : ℕ} → Start μ → List FileRecord
start_records (opening h kind v) = []
start_records (reading file v of) = records_in file

-- the model that the opening begins, before a file's records
abbrev pub first_model : {μ : ℕ} → Start μ → Model μ
first_model {μ} s = opening_model μ (start_header s) (start_kind s) (start_volume s)

-- ---- a list of calls; each is handed the job and the volume that the one before left

pub record Ran : Type 0 where
  pub answers : List Said
  pub job : Job
  pub volume : List ℕ

abbrev pub answering : Said → Ran → Ran
answering a r = record { answers = a ∷ r.answers; job = r.job; volume = r.volume }

unfoldable pub run : Job → List ℕ → List Call → Ran
run j v [] = record { answers = []; job = j; volume = v }
run j v (c ∷ l) = answering (step j v c).answer (run (step j v c).job (step j v c).volume l)

-- the same list in the model: the answers, and the model after it
unfoldable pub model_answers : {μ : ℕ} → Model μ → List Call → List Said
model_answers m [] = []
model_answers m (c ∷ l) = model_said m c ∷ model_answers (model_after m c) l

unfoldable pub model_end : {μ : ℕ} → Model μ → List Call → Model μ
model_end m [] = m
model_end m (c ∷ l) = model_end (model_after m c) l

abbrev pub model_ran : {μ : ℕ} → Model μ → List Call → Ran
model_ran m l =
    record { answers = model_answers m l; job = model_job (model_end m l); volume = model_volume (model_end m l) }

-- ---- the records of a list of calls that were accepted, in their order

abbrev pub accepted_record : Call → Said → List FileRecord → List FileRecord
accepted_record (recording k x y) done cs = record { h = k.0; k = k.1; l = k.2; a = x; b = y } ∷ cs
accepted_record (recording k x y) (density n) cs = cs
accepted_record (recording k x y) (factor n n') cs = cs
accepted_record (recording k x y) (power n) cs = cs
accepted_record (recording k x y) (refused n) cs = cs
accepted_record (synthesis scratch) a cs = cs
accepted_record (analysis scratch) a cs = cs
accepted_record (read_point x) a cs = cs
accepted_record (read_factor k) a cs = cs
accepted_record read_map_power a cs = cs
accepted_record read_factor_power a cs = cs

unfoldable pub accepted_records : List Call → List Said → List FileRecord
accepted_records [] answers = []
accepted_records (c ∷ l) [] = []
accepted_records (c ∷ l) (a ∷ answers) = accepted_record c a (accepted_records l answers)

-- A start that is accepted, with the job and the volume that it gives, and the model that it begins.
pub record Started {μ : ℕ} (s : Start μ) (j : Job) (v : List ℕ) (m : Model μ) : Type 0 where
  pub gives : start s ≡ record { answer = opened j; volume = v }
  pub begins : model_start s ≡ begun m

-- Demand 3. What a start accepts the model accepts; and from there on, whatever the list of calls, refused ones too:
-- all answers, the job and the volume are the model's.
pub record EveryList : Type 0 where
  pub begins : (μ : ℕ) (s : Start μ) (j : Job) (v : List ℕ) →
      start s ≡ record { answer = opened j; volume = v } →
      (m : Model μ) × (model_start s ≡ begun m)
  pub runs : (μ : ℕ) (s : Start μ) (j : Job) (v : List ℕ) (m : Model μ) →
      Started s j v m →
      (l : List Call) →
      run j v l ≡ model_ran m l

-- A start that is refused, for no fault of its volume (6, 7, 14), is refused by the model, by the same number and
-- place.
pub record RefusedStarts : Type 0 where
  pub alike : (μ : ℕ) (s : Start μ) (n place : ℕ) →
      (start s).answer ≡ not_opened n place →
      (n ≡ 6 → ⊥) →
      (start_kind s ≡ 1 → (n ≡ 7 → ⊥) × (n ≡ 14 → ⊥)) →
      model_start s ≡ not_begun n place

-- A volume without fault: as long as the header asks for, and for kind 1 the map, with its zeros, of some cell that
-- obeys the group; its numbers are then residues.
pub record Faultless {μ : ℕ} (s : Start μ) : Type 0 where
  pub long : length (start_volume s) ≡ needed (start_header s)
  pub map : start_kind s ≡ 1 →
      MapConsistent (group_of (start_header s).group) (half_lengths (start_header s).lengths) μ (start_volume s)

-- A start whose volume is without fault does what the model does: it gives the model's job and volume, or is refused by
-- the model's number and place.
pub record FaultlessStarts : Type 0 where
  pub accepts : (μ : ℕ) (s : Start μ) (m : Model μ) →
      Faultless s → model_start s ≡ begun m →
      start s ≡ record { answer = opened (model_job m); volume = model_volume m }
  pub refuses : (μ : ℕ) (s : Start μ) (n place : ℕ) →
      Faultless s →
      model_start s ≡ not_begun n place →
      (start s).answer ≡ not_opened n place

-- all records that were accepted: those of the file, then those of the list
abbrev pub all_records : {μ : ℕ} → Start μ → Job → List ℕ → List Call → List FileRecord
all_records s j v l = start_records s ++ accepted_records l (run j v l).answers

-- The model's F is what these records put, one after another, into the F of the opening: zero for kind 0 and for a
-- file, the analysis of the map for kind 1.
abbrev pub entry : (μ : ℕ) → FileRecord → J × Value μ
entry μ c = (index (index_of c), value μ c.a c.b)

pub record FactorsImplied : Type 0 where
  pub implied : (μ : ℕ) (s : Start μ) (j : Job) (v : List ℕ) (m : Model μ) →
      Started s j v m →
      (l : List Call) (q : J) →
      let o = first_model s in
      factor_of (model_end m l) q
      ≡ record_all (factor_acts (field μ) (conj μ) (half o)) (full (group o)) (map (entry μ) (all_records s j v l))
      (factor_of o) q

-- Every number of a map that a list of calls leaves is the triple sum over the model's F, which is real: of any point
-- of the cell, read by a call, which gives it with its sign. (The volume itself is `model_volume`, by EveryList.)
pub record TripleSums : Type 0 where
  pub sums : (μ : ℕ) (s : Start μ) (j : Job) (v : List ℕ) (m : Model μ) →
      Started s j v m →
      (l : List Call) →
      (run j v l).job.state ≡ map_held →
      (x : GridPoint) →
      within m.header.lengths (position x) ≡ true →
      ((point_step (run j v l).job x (run j v l).volume).answer
      ≡ density (signed_real μ (density_of (model_end m l) (position x))))
      × ((density_of (model_end m l) (position x)).1.val ≡ 0)

-- A map is always real: for any job and volume that synthesis accepts, the triple sum over the factors that are read
-- off the volume has no imaginary part, at any point of the cell. Its real part, with its sign, is the number that a
-- reading of the point gives afterwards.
pub record MapsReal : Type 0 where
  pub real : (j : Job) (v scratch : List ℕ) →
      let o = (synthesis_step j v scratch).outcome in
      o.answer ≡ done →
      (x : GridPoint) →
      within (header_of j).lengths (position x) ≡ true →
      let d = at (map_of j.modulus (halves j) (factors_in (group_in j) (halves j) j.modulus v)) (position x) in
      ((point_step o.job x o.volume).answer ≡ density (signed_real j.modulus d)) × (d.1.val ≡ 0)

-- All images of a point carry the same number.
pub record ImagesAlike : Type 0 where
  pub alike : (μ : ℕ) (s : Start μ) (j : Job) (v : List ℕ) (m : Model μ) →
      Started s j v m →
      (l : List Call) (q : Sym) →
      Mem q (ops (group m)) →
      (x y : GridPoint) →
      within m.header.lengths (position x) ≡ true →
      position y ≡ point_image (half m) q (position x) →
      (point_step (run j v l).job y (run j v l).volume).answer
      ≡ (point_step (run j v l).job x (run j v l).volume).answer

-- Analysis of the map of packed factors restores them: for any job and volume that synthesis accepts, and any scratch
-- that is long enough.
pub record AnalysisRestores : Type 0 where
  pub restores : (j : Job) (v scratch scratch' : List ℕ) →
      let o = (synthesis_step j v scratch).outcome in
      o.answer ≡ done →
      scratch_length ≤ length scratch' →
      (analysis_step o.job o.volume scratch').outcome
      ≡ record { answer = done; job = with_state j factors_held; volume = v }

-- Starts under one modulus are alike if they differ at most in factor lists and, for kind 0, in what the volume held.
pub record Alike {μ : ℕ} (s s' : Start μ) : Type 0 where
  pub same_group : (start_header s).group ≡ (start_header s').group
  pub same_lengths : (start_header s).lengths ≡ (start_header s').lengths
  pub same_kind : start_kind s ≡ start_kind s'
  pub same_map : start_kind s ≡ 1 → start_volume s ≡ start_volume s'

-- Lists alike in opening and accepted records, in whatever two orders in which every record is taken, have the same
-- packed factors and the same map: so the same volume, where both hold a map or both hold factors.
pub record OrderFree : Type 0 where
  pub same : (μ : ℕ) (s s' : Start μ) (j j' : Job) (v v' : List ℕ) (m m' : Model μ) →
      Started s j v m → Started s' j' v' m' → Alike s s' →
      (l l' : List Call) →
      Perm (all_records s j v l) (all_records s' j' v' l') →
      (factor_volume (model_end m l) ≡ factor_volume (model_end m' l'))
      × (map_volume (model_end m l) ≡ map_volume (model_end m' l')) ×
      (eqb (run j v l).job.state map_held ≡ eqb (run j' v' l').job.state map_held →
      (run j v l).volume ≡ (run j' v' l').volume)

-- Alike starts of the same records answer every list of calls alike, and leave the same volume and state.
pub record AlikeStarts : Type 0 where
  pub same : (μ : ℕ) (s s' : Start μ) (j j' : Job) (v v' : List ℕ) (m m' : Model μ) →
      Started s j v m → Started s' j' v' m' → Alike s s' →
      Perm (start_records s) (start_records s') →
      (l : List Call) →
      ((run j v l).answers ≡ (run j' v' l).answers)
      × ((run j v l).volume ≡ (run j' v' l).volume)
      × ((run j v l).job.state ≡ (run j' v' l).job.state)

-- The same file with its records in another order: as long, the same bytes before the first record, and the same
-- records behind them.
pub record Reordered (file file' : List ℕ) : Type 0 where
  pub same_length : length file ≡ length file'
  pub same_head : take (count_at file + 4) file ≡ take (count_at file + 4) file'
  pub same_records : Perm (records_in file) (records_in file')

-- An accepted file with its records in another order is accepted too and gives the same job and volume, whatever the
-- lent volume held.
pub record FileOrderFree : Type 0 where
  pub same : (file file' v v' : List ℕ) (j : Job) (w : List ℕ) →
      Reordered file file' → length v ≡ length v' →
      file_step file v ≡ record { answer = opened j; volume = w } →
      file_step file' v' ≡ record { answer = opened j; volume = w }

-- Refusal 24 of a call exactly if F at the index is not zero: of a record that no other test refuses, after any list of
-- calls.
pub record OccupiedExactly : Type 0 where
  pub exactly : (μ : ℕ) (s : Start μ) (j : Job) (v : List ℕ) (m : Model μ) →
      Started s j v m →
      (l : List Call) (k : Reflection) (x y : ℕ) →
      let a = (record_step (run j v l).job k x y (run j v l).volume).answer in
      ((n : ℕ) → a ≡ refused n → n ≡ 24) →
      ((a ≡ refused 24) ↔ (factor_of (model_end m l) (index k) ≡ value μ 0 0 → ⊥))

-- Refusal 24 of a file exactly if a record before is of the same orbit, whatever the values of both: of a record that
-- no other test refuses, if none before it is refused.
pub record FileOccupied : Type 0 where
  pub exactly : (file v : List ℕ) →
      0 ≡ first (shape_tests file) →
      0 ≡ first (open_tests (modulus_in file) (header_in file) 0 v) →
      (cs rest : List FileRecord) (c : FileRecord) →
      records_in file ≡ cs ++ c ∷ rest →
      let a = (file_step file v).answer in
      ((n place : ℕ) → a ≡ not_opened n place → length cs ≤ place) →
      ((n : ℕ) → a ≡ not_opened n (length cs) → n ≡ 24) →
      ((a ≡ not_opened 24 (length cs)) ↔ ((d : FileRecord) × Mem d cs × OneOrbit (header_in file) d c))

-- the records of a file called one by one, until one is refused: its number, its place, and the volume zero
unfoldable pub called : List FileRecord → (place : ℕ) → Job → List ℕ → OpenOutcome
called [] place j v = record { answer = opened j; volume = v }
called (c ∷ cs) place j v = let o = record_step j (index_of c) c.a c.b v in
    elim o.answer [
      | done ↦ called cs (suc place) o.job o.volume
      | density n ↦ called cs (suc place) o.job o.volume
      | factor x y ↦ called cs (suc place) o.job o.volume
      | power n ↦ called cs (suc place) o.job o.volume
      | refused n ↦ record { answer = not_opened n place; volume = replicate (length v) 0 }
    ]

-- no two records are of one orbit
unfoldable pub DifferentOrbits : Header → List FileRecord → Type 0
DifferentOrbits h [] = Unit {0}
DifferentOrbits h (c ∷ cs) = ((d : FileRecord) → Mem d cs → OneOrbit h c d → ⊥) × DifferentOrbits h cs

-- A file without two records of one orbit is its records called one by one, on the job and the volume that an opening
-- with kind 0 gives.
pub record FileAsCalls : Type 0 where
  pub same : (file v : List ℕ) (j : Job) (w : List ℕ) →
      0 ≡ first (shape_tests file) →
      open_step (modulus_in file) (header_in file) 0 v ≡ record { answer = opened j; volume = w } →
      DifferentOrbits (header_in file) (records_in file) →
      file_step file v ≡ called (records_in file) 0 j w

-- A zero, and later another value for the same orbit by calls: the other value counts.
pub record LaterValueCounts : Type 0 where
  -- a record of value zero that is taken changes neither job nor volume, whatever the volume holds: no later call can
  -- tell that it was made
  pub unchanged : (j : Job) (k : Reflection) (v : List ℕ) →
      (record_step j k 0 0 v).answer ≡ done →
      record_step j k 0 0 v ≡ record { answer = done; job = j; volume = v }
  -- at Pa's zero slots, where h is odd and l is 0 or A, it is taken whatever stands there
  pub zero_slot :
      (j : Job) (k : Reflection) (v : List ℕ) →
      j.group ≡ 3 →
      k.0 % 2 ≡ 1 →
      (k.2 ≡ 0) ⊎ (k.2 ≡ j.c.length / 2) →
      NoneOf refused (25 ∷ 21 ∷ 10 ∷ 6 ∷ []) (record_step j k 0 0 v).answer →
      (record_step j k 0 0 v).answer ≡ done
  -- it is refused by 12 at no index
  pub agrees : (j : Job) (k : Reflection) (v : List ℕ) → (record_step j k 0 0 v).answer ≡ refused 12 → ⊥
  -- after it a record of its orbit that its own numbers do not refuse is taken
  pub taken : (μ : ℕ) (s : Start μ) (j : Job) (v : List ℕ) (m : Model μ) →
      Started s j v m →
      (l : List Call) (k k' : Reflection) (q : Sym) →
      Mem q (full (group m)) →
      image_of (half m) q (index k) ≡ index k' →
      (x y : ℕ) →
      let r = run j v l in
      (record_step r.job k 0 0 r.volume).answer ≡ done →
      0 ≡ first (own_tests μ m.header.group m.header.lengths (index k') x y) →
      (record_step r.job k' x y r.volume).answer ≡ done
  -- the value of a record that is taken is F at its index
  pub counts : (μ : ℕ) (s : Start μ) (j : Job) (v : List ℕ) (m : Model μ) →
      Started s j v m →
      (l : List Call) (k : Reflection) (x y : ℕ) →
      let r = run j v l in
      (record_step r.job k x y r.volume).answer ≡ done →
      factor_of (model_end m (l ++ recording k x y ∷ [])) (index k) ≡ value μ x y

-- Refusal 14 exactly if no whole cell that obeys group and Friedel has these packed factors, or none that obeys the
-- group has this map with its zeros: of a call that no test before it refuses, whatever job, volume and scratch it is
-- lent. In the writer 18 comes after it.
pub record InconsistentExactly : Type 0 where
  pub opening : (μ : ℕ) (h : Header) (v : List ℕ) → let a = (open_step μ h 1 v).answer in
      ((n place : ℕ) → a ≡ not_opened n place → n ≡ 14) →
      ((a ≡ not_opened 14 0) ↔ (MapConsistent (group_of h.group) (half_lengths h.lengths) μ v → ⊥))
  pub synthesis : (j : Job) (v scratch : List ℕ) → let a = (synthesis_step j v scratch).outcome.answer in
      ((n : ℕ) → a ≡ refused n → n ≡ 14) →
      ((a ≡ refused 14) ↔ (FactorsConsistent (group_in j) (halves j) j.modulus v → ⊥))
  pub analysis : (j : Job) (v scratch : List ℕ) → let a = (analysis_step j v scratch).outcome.answer in
      ((n : ℕ) → a ≡ refused n → n ≡ 14) →
      ((a ≡ refused 14) ↔ (MapConsistent (group_in j) (halves j) j.modulus v → ⊥))
  pub map_power_lem :
      (j : Job) (v : List ℕ) →
      let a = (map_power_step j v).answer in
      ((n : ℕ) → a ≡ refused n → n ≡ 14) →
      ((a ≡ refused 14) ↔ (MapConsistent (group_in j) (halves j) j.modulus v → ⊥))
  pub factor_power_lem :
      (j : Job) (v : List ℕ) →
      let a = (factor_power_step j v).answer in
      ((n : ℕ) → a ≡ refused n → n ≡ 14) →
      ((a ≡ refused 14) ↔ (FactorsConsistent (group_in j) (halves j) j.modulus v → ⊥))
  pub writer : (j : Job) (v output : List ℕ) → let a = (write_step j v output).answer in
      ((n : ℕ) → a ≡ not_written n → (n ≡ 14) ⊎ (n ≡ 18)) →
      ((a ≡ not_written 14) ↔ (FactorsConsistent (group_in j) (halves j) j.modulus v → ⊥))

-- A job that an opening or a later call could have made: from an accepted opening or file on, some list of calls leaves
-- it.
abbrev pub Reachable : Job → Type 0
Reachable j =
    (μ : ℕ)
    × (s : Start μ)
    × (i : Job)
    × (v : List ℕ)
    × (l : List Call)
    × (start s ≡ record { answer = opened i; volume = v })
    × ((run i v l).job ≡ j)

-- Refusal 25 exactly of a job that no opening and no later call could have made: `valid_job`, which every call tests
-- first, is true of the others and of no more; and a call that is lent another volume than the one left for it makes no
-- other job.
pub record ImpossibleExactly : Type 0 where
  pub exactly : (j : Job) → (valid_job j ≡ true) ↔ Reachable j
  pub refuses : (j : Job) (v : List ℕ) (c : Call) → ((step j v c).answer ≡ refused 25) ↔ (Reachable j → ⊥)
  pub keeps : (j : Job) (v : List ℕ) (c : Call) → Reachable j → Reachable (step j v c).job
