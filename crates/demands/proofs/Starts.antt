-- How a job begins. A start, opening or file, does what the model does, unless its volume is at fault; so an accepted start begins a sound model whose job and volume
-- are the ones given, from there on every list of calls is the model's, and a refused start is refused by the model.
use mathlib.Core.Path.{◌≡◌, refl, sym, ◌∙◌, ap, subst}
use mathlib.Core.List.{List, [], ◌∷◌}
use Prim.Native.Nat.{ℕ, zero, suc}
use native.Mathlib.Omega.{arith}
use lib.ListN.{length, replicate}
use lib.Dec.{eqb}
use borrow.Author.Tests.{not-false}
use Rattle.algebra.specs.cells.Cell.{J}
use Rattle.numbers.specs.Value.{value}
use Rattle.cell.specs.Consistency.{record_on}
use Rattle.refusals.specs.Refusals.{first, accepted}
use Rattle.refusals.proofs.Tests.{passed}
use Rattle.job.specs.declared.Job.{Job}
use Rattle.job.specs.Job.{Header, collecting, map_held, open_tests, open_step, Opening, opened, not_opened, OpenOutcome}
use Rattle.file_format.specs.declared.FileRecord.{FileRecord}
use Rattle.factor_file.specs.File.{modulus_in, header_in, records_in, shape_tests, index_in, judge_tests, Judgement, taken, refused_at, judged, record_all_on, feed, file_step}
use Rattle.factor_file.proofs.Judging.{taken_first}
use Rattle.model.specs.Model.{Model, group, half, Call, model_next, model_job, factor_volume, model_volume, zero_model, beginning_tests, Beginning, begun, not_begun, opening_model, model_open, recording_of, model_recorded, model_feed, model_file}
use Rattle.demands.specs.Demands.{Start, opening, reading, start, model_start, start_header, start_kind, start_volume, run, model_ran, Started, EveryList, RefusedStarts, Faultless, FaultlessStarts, TripleSums, ImagesAlike, OccupiedExactly}
use Rattle.model.proofs.Sound.{LawfulModel, holds_factors, within_inside, lawful_recorded, recorded_packed}
use Rattle.demands.proofs.Corollaries
use Rattle.demands.proofs.Openings.{given, opening_sound, opening_gives, fault_of, Verdict, passes, fails, faulty, verdict, open_refused, no_fault, faultless}

-- ---- records that are fed

-- what is answered and left is what the model begins
abbrev Agrees : {μ : ℕ} → OpenOutcome → Beginning μ → Type 0
Agrees o (begun m) = (o ≡ given m) × LawfulModel m
Agrees o (not_begun n place) = o.answer ≡ not_opened n place

-- what becomes of a file once it is opened
abbrev pub after_opening : List FileRecord → OpenOutcome → OpenOutcome
after_opening cs o = elim o.answer [ opened j ↦ feed cs j o.volume | not_opened n place ↦ o ]

-- what all records leave, on the volume and in the model
record AllRecorded {μ : ℕ} (cs : List FileRecord) (m : Model μ) : Type 0 where
  pub volume : record_all_on (group m) (half m) μ cs (model_volume m) ≡ model_volume (model_recorded cs m)
  pub job : model_job (model_recorded cs m) ≡ model_job m
  pub lawful : LawfulModel (model_recorded cs m)

-- while collecting the packed factors stand in the volume
collected : {μ : ℕ} (m : Model μ) → m.state ≡ collecting → model_volume m ≡ factor_volume m
collected m c = holds_factors m (ap (λ k. eqb k map_held) c)

all_recorded : (before : List J) (cs : List FileRecord) {μ : ℕ} (m : Model μ) → LawfulModel m → m.state ≡ collecting → judged μ m.header.group m.header.lengths before cs ≡ taken → AllRecorded cs m
unfolding model_recorded record_all_on
all_recorded before [] m s c e = record { volume = refl; job = refl; lawful = s }
all_recorded before (d ∷ cs) {μ} m s c e =
    let q = taken_first μ m.header.group m.header.lengths before d cs e in
    let t = passed (judge_tests μ m.header.group m.header.lengths before (index_in d) d.a d.b) tt q.0 in
    let x = value μ d.a d.b in
    let inside = within_inside m s (index_in d) (not-false _ t.0) in
    let agrees = not-false _ t.1.1.0 in
    let next = model_next m (recording_of d) in
    let r = all_recorded (index_in d ∷ before) cs next (record { valid = s.valid; lawful = lawful_recorded m s (index_in d) x inside agrees }) c q.1 in
    record {
      volume = ap (record_all_on (group m) (half m) μ cs) (ap (record_on (group m) (half m) μ (index_in d) x) (collected m c) ∙ recorded_packed m s (index_in d) x inside agrees ∙ sym (collected next c)) ∙ r.volume;
      job = r.job;
      lawful = r.lawful;
    }

feed_agrees : (cs : List FileRecord) {μ : ℕ} (m : Model μ) → LawfulModel m → m.state ≡ collecting → Agrees (feed cs (model_job m) (model_volume m)) (model_feed cs m)
unfolding feed model_feed
feed_agrees cs {μ} m s c = by (judged μ m.header.group m.header.lengths [] cs) refl
  where
    by : (b : Judgement) → judged μ m.header.group m.header.lengths [] cs ≡ b →
        Agrees {μ = μ} (elim b [ taken ↦ record { answer = opened (model_job m); volume = record_all_on (group m) (half m) μ cs (model_volume m) } | refused_at n place ↦ record { answer = not_opened n place; volume = replicate (length (model_volume m)) 0 } ])
        (elim b [ taken ↦ begun (model_recorded cs m) | refused_at n place ↦ not_begun n place ])
    by taken q = let r = all_recorded [] cs m s c q in (λ i. record { answer = opened (sym r.job i); volume = r.volume i }, r.lawful)
    by (refused_at n place) q = refl

feed_gives : (cs : List FileRecord) {μ : ℕ} (m m' : Model μ) → LawfulModel m → m.state ≡ collecting → model_feed cs m ≡ begun m' → feed cs (model_job m) (model_volume m) ≡ given m'
feed_gives cs m m' s c e = let a : Agrees _ (begun m') = subst (Agrees _) e (feed_agrees cs m s c) in a.0

-- ---- files

module _ {μ : ℕ} (file v : List ℕ) (of : modulus_in file ≡ μ) (shape : first (shape_tests file) ≡ 0) where
  -- the opening is that of the file's own modulus
  opened_at : after_opening (records_in file) (open_step (modulus_in file) (header_in file) 0 v) ≡ after_opening (records_in file) (open_step μ (header_in file) 0 v)
  opened_at = ap (λ x. after_opening (records_in file) (open_step x (header_in file) 0 v)) of

  pub file_opened : 0 ≡ first (open_tests μ (header_in file) 0 v) → file_step file v ≡ feed (records_in file) (model_job (zero_model μ (header_in file))) (model_volume (zero_model μ (header_in file)))
  unfolding file_step
  file_opened e = rw shape (opened_at ∙ ap (after_opening (records_in file)) (opening_gives μ (header_in file) 0 v e))

  file_refused : {n : ℕ} → first (open_tests μ (header_in file) 0 v) ≡ suc n → file_step file v ≡ record { answer = not_opened (suc n) 0; volume = v }
  unfolding file_step
  file_refused e = rw shape (opened_at ∙ ap (after_opening (records_in file)) (open_refused μ (header_in file) 0 v e))

  -- a file whose records the model takes
  pub file_gives : (m : Model μ) → 0 ≡ first (open_tests μ (header_in file) 0 v) → model_feed (records_in file) (zero_model μ (header_in file)) ≡ begun m → file_step file v ≡ given m
  file_gives m none e = file_opened none ∙ feed_gives (records_in file) (zero_model μ (header_in file)) m (opening_sound μ (header_in file) 0 v none) refl e

opened_not : {o : Opening} {j : Job} {n place : ℕ} → o ≡ opened j → o ≡ not_opened n place → ⊥
opened_not q r = let z : ◌≡◌ {A = ℕ} 0 1 = cc in omega arith

-- an accepted file has a sound shape
pub file_shape : (file v : List ℕ) (j : Job) → (file_step file v).answer ≡ opened j → first (shape_tests file) ≡ 0
unfolding file_step
file_shape file v j e = by (first (shape_tests file)) _ e
  where
    by : (n : ℕ) (o : OpenOutcome) → (accepted n o (λ n. record { answer = not_opened n 0; volume = v })).answer ≡ opened j → n ≡ 0
    by zero o e = refl
    by (suc n) o e = absurd (opened_not e refl)

-- ---- every start

-- a start begins a model, with the job and the volume that it gives; or is refused as the model refuses it; or is refused for a fault of its volume
data Course {μ : ℕ} (s : Start μ) : Type 0 where
  begins : (m : Model μ) → start s ≡ given m → model_start s ≡ begun m → LawfulModel m → 0 ≡ first (open_tests μ (start_header s) (start_kind s) (start_volume s)) → Course s
  refuses : (n place : ℕ) → (start s).answer ≡ not_opened n place → model_start s ≡ not_begun n place → Course s
  faults : (n : ℕ) → (start s).answer ≡ not_opened (suc n) 0 → first (beginning_tests μ (start_header s) (start_kind s)) ≡ 0 → fault_of μ (start_header s) (start_kind s) (start_volume s) ≡ suc n → Course s

course : {μ : ℕ} (s : Start μ) → Course s
unfolding model_open model_file file_step
course {μ} (opening h kind v) = by (verdict μ h kind v)
  where
    by : Verdict μ h kind v → Course {μ = μ} (opening h kind v)
    by (passes e f) = begins (opening_model μ h kind v) (opening_gives μ h kind v (sym e)) (rw f) (opening_sound μ h kind v (sym e)) (sym e)
    by (fails n e f) = refuses (suc n) 0 (ap (λ o. o.answer) (open_refused μ h kind v e)) (rw f)
    by (faulty n e b f) = faults n (ap (λ o. o.answer) (open_refused μ h kind v e)) b f
course {μ} (reading file v of) = shaped (first (shape_tests file)) refl
  where
    h : Header
    h = header_in file

    fed : first (shape_tests file) ≡ 0 → first (open_tests μ h 0 v) ≡ 0 → first (beginning_tests μ h 0) ≡ 0 → (b : Beginning μ) → model_feed (records_in file) (zero_model μ h) ≡ b → Agrees (feed (records_in file) (model_job (zero_model μ h)) (model_volume (zero_model μ h))) b → Course {μ = μ} (reading file v of)
    fed q e f (begun m) r a = begins m (file_opened file v of q (sym e) ∙ a.0) (rw (q, f) r) a.1 (sym e)
    fed q e f (not_begun n place) r a = refuses n place (ap (λ o. o.answer) (file_opened file v of q (sym e)) ∙ a) (rw (q, f) r)

    by : first (shape_tests file) ≡ 0 → Verdict μ h 0 v → Course {μ = μ} (reading file v of)
    by q (passes e f) = fed q e f (model_feed (records_in file) (zero_model μ h)) refl (feed_agrees (records_in file) (zero_model μ h) (opening_sound μ h 0 v (sym e)) refl)
    by q (fails n e f) = refuses (suc n) 0 (ap (λ o. o.answer) (file_refused file v of q e)) (rw (q, f))
    by q (faulty n e b f) = faults n (ap (λ o. o.answer) (file_refused file v of q e)) b f

    shaped : (n : ℕ) → first (shape_tests file) ≡ n → Course {μ = μ} (reading file v of)
    shaped zero q = by q (verdict μ h 0 v)
    shaped (suc n) q = refuses (suc n) 0 (rw q) (rw q)

-- an accepted start begins a sound model, with its job and its volume ..
pub accepted_start : {μ : ℕ} (s : Start μ) (j : Job) (v : List ℕ) → start s ≡ record { answer = opened j; volume = v } → (m : Model μ) × (model_start s ≡ begun m) × LawfulModel m × (j ≡ model_job m) × (v ≡ model_volume m)
accepted_start {μ} s j v e = by (course s)
  where
    by : Course s → (m : Model μ) × (model_start s ≡ begun m) × LawfulModel m × (j ≡ model_job m) × (v ≡ model_volume m)
    by (begins m g b sound none) =
        let same : opened j ≡ opened (model_job m) = ap (λ o. o.answer) (sym e ∙ g) in
        (m, b, sound, cc, ap (λ o. o.volume) (sym e ∙ g))
    by (refuses n place a b) = absurd (opened_not (ap (λ o. o.answer) e) a)
    by (faults n a b f) = absurd (opened_not (ap (λ o. o.answer) e) a)

-- .. and no test of an opening refuses its header and its volume
pub opened_passes : {μ : ℕ} (s : Start μ) (j : Job) → (start s).answer ≡ opened j → 0 ≡ first (open_tests μ (start_header s) (start_kind s) (start_volume s))
opened_passes {μ} s j e = by (course s)
  where
    by : Course s → 0 ≡ first (open_tests μ (start_header s) (start_kind s) (start_volume s))
    by (begins m g b sound none) = none
    by (refuses n place a b) = absurd (opened_not e a)
    by (faults n a b f) = absurd (opened_not e a)

-- a start that is refused, for no fault of its volume, is refused by the model
pub refused_start : RefusedStarts
refused_start = record { alike = alike }
  where
    alike : (μ : ℕ) (s : Start μ) (n place : ℕ) → (start s).answer ≡ not_opened n place → (n ≡ 6 → ⊥) → (start_kind s ≡ 1 → (n ≡ 7 → ⊥) × (n ≡ 14 → ⊥)) → model_start s ≡ not_begun n place
    alike μ s n place e six map = by (course s)
      where
        by : Course s → model_start s ≡ not_begun n place
        by (begins m g b sound none) = absurd (opened_not (ap (λ o. o.answer) g) e)
        by (refuses k l a b) = let same : not_opened k l ≡ not_opened n place = sym a ∙ e in b ∙ cc
        by (faults k a b f) =
            let same : not_opened n place ≡ not_opened (suc k) 0 = sym e ∙ a in
            let number : n ≡ suc k = cc in
            absurd (no_fault μ (start_header s) (start_kind s) (start_volume s) k f (λ q. six (number ∙ q)) (λ q. (λ r. (map q).0 (number ∙ r), λ r. (map q).1 (number ∙ r))))

-- a start whose volume is without fault does what the model does
pub faultless_starts : FaultlessStarts
faultless_starts = record { accepts = accepts; refuses = refused_alike }
  where
    begun_not : {μ : ℕ} {b : Beginning μ} {m : Model μ} {n place : ℕ} → b ≡ begun m → b ≡ not_begun n place → ⊥
    begun_not q r = let z : ◌≡◌ {A = ℕ} 0 1 = cc in omega arith

    no_faults : (μ : ℕ) (s : Start μ) → Faultless s → (n : ℕ) → first (beginning_tests μ (start_header s) (start_kind s)) ≡ 0 → fault_of μ (start_header s) (start_kind s) (start_volume s) ≡ suc n → ⊥
    no_faults μ s sound n b f = let z : 0 ≡ suc n = faultless μ (start_header s) (start_kind s) (start_volume s) b sound.long sound.map ∙ f in omega arith

    accepts : (μ : ℕ) (s : Start μ) (m : Model μ) → Faultless s → model_start s ≡ begun m → start s ≡ given m
    accepts μ s m sound e = by (course s)
      where
        by : Course s → start s ≡ given m
        by (begins k g b lawful none) = let same : begun k ≡ begun m = sym b ∙ e in let is : k ≡ m = cc in g ∙ ap given is
        by (refuses n place a b) = absurd (begun_not e b)
        by (faults n a b f) = absurd (no_faults μ s sound n b f)

    refused_alike : (μ : ℕ) (s : Start μ) (n place : ℕ) → Faultless s → model_start s ≡ not_begun n place → (start s).answer ≡ not_opened n place
    refused_alike μ s n place sound e = by (course s)
      where
        by : Course s → (start s).answer ≡ not_opened n place
        by (begins m g b lawful none) = absurd (begun_not b e)
        by (refuses k l a b) = let same : not_begun k l ≡ not_begun n place = sym b ∙ e in a ∙ cc
        by (faults k a b f) = absurd (no_faults μ s sound k b f)

-- ---- from an accepted start on

module _ {μ : ℕ} (s : Start μ) (j : Job) (v : List ℕ) (m : Model μ) (started : Started s j v m) where
  pub started_sound : LawfulModel m × (j ≡ model_job m) × (v ≡ model_volume m)
  started_sound =
      let (m', b, sound, ej, ev) = accepted_start s j v started.gives in
      let same : begun m' ≡ begun m = sym b ∙ started.begins in
      let is : m' ≡ m = cc in
      (subst LawfulModel is sound, ej ∙ ap model_job is, ev ∙ ap model_volume is)

  pub started_runs : (l : List Call) → run j v l ≡ model_ran m l
  started_runs = let s = started_sound in Corollaries.runs m s.0 j v s.1 s.2

-- demand 3
pub every_start : EveryList
every_start = record { begins = λ μ s j v e. let a = accepted_start s j v e in (a.0, a.1); runs = λ μ. started_runs }

-- what follows after any list of calls
pub triple_sums : TripleSums
triple_sums = record { sums = λ μ s j v m started. let o = started_sound s j v m started in Corollaries.triple_sums m o.0 j v o.1 o.2 }

pub images_alike : ImagesAlike
images_alike = record { alike = λ μ s j v m started. let o = started_sound s j v m started in Corollaries.images_alike m o.0 j v o.1 o.2 }

pub occupied_exactly : OccupiedExactly
occupied_exactly = record { exactly = λ μ s j v m started. let o = started_sound s j v m started in Corollaries.occupied_exactly m o.0 j v o.1 o.2 }
