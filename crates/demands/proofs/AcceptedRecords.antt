-- Accepted records. The model's tests of a record ask exactly what makes it accepted in the sense of `Orbit`; so F after a list of calls is what its accepted records
-- leave, one after another, of the F before it. A file's records are calls too: with those of a list they are one list, from the opening on.
use mathlib.Core.Path.{◌≡◌, refl, sym, ◌∙◌, ap, subst, subst₂}
use mathlib.Core.Bool.{Bool, true, false, ◌&&◌}
use mathlib.Core.List.{List, [], ◌∷◌, ◌++◌, map, append-nil}
use Prim.Native.Nat.{ℕ, zero, suc, ◌<◌}
use native.Mathlib.Omega.{arith}
use lib.Dec.{ltb}
use borrow.Author.Tests.{not-false, ltb-true, lt-ltb, eq-eqb}
use Rattle.algebra.specs.ring.Ring.{gauss, residues}
use Rattle.algebra.specs.cells.Cell.{J, Inside, full, factor_acts}
use Rattle.algebra.specs.orbits.Orbit.{Mem, first as first_of, later, record_all}
use Rattle.algebra.specs.orbits.OrbitLaws.{Fit, Accepted, Sound}
use Rattle.algebra.proofs.ring.Members.{none}
use Rattle.algebra.proofs.orbits.OrbitLists.{sound_accepted}
use Rattle.algebra.proofs.cells.CellGroup.{factor_action, closed}
use Rattle.numbers.proofs.Values.{field_ring, field_star}
use Rattle.numbers.specs.Value.{prime, Value, value}
use Rattle.refusals.specs.Refusals.{first, accepted}
use Rattle.refusals.proofs.Tests.{both, passed, not_t, pass, none as no_test}
use Rattle.cell.specs.Consistency.{same_value, record_in}
use Rattle.cell.proofs.Tests.{true_iff}
use Rattle.cell.proofs.Reading.{same_iff}
use Rattle.cell.proofs.Records.{agrees_iff}
use Rattle.job.specs.declared.Job.{Job}
use Rattle.job.specs.declared.Reflection.{Reflection}
use Rattle.job.specs.Job.{collecting, factors_held, map_held, index, done, refused, open_tests}
use Rattle.file_format.specs.declared.FileRecord.{FileRecord}
use Rattle.factor_file.specs.File.{index_of, header_in, records_in, shape_tests, Judgement, taken, refused_at, judged}
use Rattle.model.specs.Model.{Model, group, half, factor_of, Call, recording, synthesis, analysis, read_point, read_factor, read_map_power, read_factor_power, model_tests, model_next, model_said, model_after, in_state, begun, not_begun, beginning_tests, opening_model, model_open, model_file, zero_model, recording_of, model_recorded, model_feed}
use Rattle.demands.specs.Demands.{Start, opening, reading, start_header, start_kind, start_volume, start_records, first_model, run, model_answers, model_end, accepted_record, accepted_records, Started, entry, FactorsImplied, all_records}
use Rattle.model.proofs.Sound.{LawfulModel, halves_positive, within_inside, inside_within}
use Rattle.model.proofs.OneCall.{one_call}
use Rattle.demands.proofs.Lists.{end_header}
use Rattle.demands.proofs.Judged.{acts_on, DifferentIn, BelowPrime, judged_different, different_judged}
use Rattle.demands.proofs.Openings.{opening_sound}
use Rattle.demands.proofs.Starts.{opened_passes, started_sound, started_runs}

-- ---- one record: the model's tests ask what an accepted record is

abbrev FitsIn : {μ : ℕ} → Model μ → J → Value μ → Type 0
FitsIn {μ} m j x = Fit (acts_on μ (half m)) (Inside (half m)) (full (group m)) j x (factor_of m)

pub record_fits : {μ : ℕ} (m : Model μ) → LawfulModel m → (k : Reflection) (x y : ℕ) → 0 ≡ first (model_tests m (recording k x y)) → ((x < prime μ) × (y < prime μ)) × FitsIn m (index k) (value μ x y)
unfolding factor_acts gauss residues
record_fits {μ} m sound k x y e =
    let t = passed (model_tests m (recording k x y)) tt e in
    let b = both (ltb x (prime μ)) (ltb y (prime μ)) (not-false _ t.1.1.0) in (
      (ltb-true x (prime μ) b.0, ltb-true y (prime μ) b.1),
      (
        within_inside m sound (index k) (not-false _ t.1.0),
        (agrees_iff (group m) (half m) (halves_positive m sound) μ (index k) (value μ x y)).0 (not-false _ t.1.1.1.0),
        (same_iff μ (factor_of m (index k)) (value μ 0 0)).0 ((true_iff (same_value (factor_of m (index k)) (value μ 0 0))).0 (not-false _ t.1.1.1.1.0)),
      ),
    )

both_below : (μ x y : ℕ) → (x < prime μ) × (y < prime μ) → (ltb x (prime μ) && ltb y (prime μ)) ≡ true
both_below μ x y l =
    let u = lt-ltb x (prime μ) l.0 in
    let v = lt-ltb y (prime μ) l.1 in
    λ i. u i && v i

pub fits_passes : {μ : ℕ} (m : Model μ) → LawfulModel m → m.state ≡ collecting → (k : Reflection) (x y : ℕ) → (x < prime μ) × (y < prime μ) → FitsIn m (index k) (value μ x y) → 0 ≡ first (model_tests m (recording k x y))
unfolding factor_acts gauss residues
fits_passes {μ} m sound s k x y l f =
    pass 21 _ (not_t _ (eq-eqb m.state collecting s))
    (pass 10 _ (not_t _ (inside_within m sound (index k) f.0))
    (pass 7 _ (not_t _ (both_below μ x y l))
    (pass 12 _ (not_t _ ((agrees_iff (group m) (half m) (halves_positive m sound) μ (index k) (value μ x y)).1 f.1))
    (pass 24 _ (not_t _ ((true_iff (same_value (factor_of m (index k)) (value μ 0 0))).1 ((same_iff μ (factor_of m (index k)) (value μ 0 0)).1 f.2)))
    no_test))))

-- ---- a list of calls

-- from the model m to m' by these records: each is accepted in its turn, and F is what they leave
abbrev pub Records : {μ : ℕ} → Model μ → Model μ → List FileRecord → Type 0
Records {μ} m m' cs = Accepted (acts_on μ (half m)) (Inside (half m)) (full (group m)) (map (entry μ) cs) (factor_of m) × (factor_of m' ≡ record_all (acts_on μ (half m)) (full (group m)) (map (entry μ) cs) (factor_of m))

-- a change of state alone
same_factors : {μ : ℕ} (m : Model μ) (s n : ℕ) (m' : Model μ) (cs : List FileRecord) → Records (accepted n (in_state m s) (λ n. m)) m' cs → Records m m' cs
same_factors m s zero m' cs r = r
same_factors m s (suc n) m' cs r = r

call_records : {μ : ℕ} (m : Model μ) → LawfulModel m → (c : Call) (m' : Model μ) (cs : List FileRecord) → Records (model_after m c) m' cs → Records m m' (accepted_record c (model_said m c) cs)
unfolding model_said model_after Accepted record_all record_in
call_records m sound (recording k x y) m' cs r = by (first (model_tests m (recording k x y))) refl r
  where
    by : (n : ℕ) → first (model_tests m (recording k x y)) ≡ n → Records (accepted n (model_next m (recording k x y)) (λ n. m)) m' cs → Records m m' (accepted_record (recording k x y) (accepted n done refused) cs)
    by zero e r = (((record_fits m sound k x y (sym e)).1, r.0), r.1)
    by (suc n) e r = r
call_records m sound (synthesis scratch) m' cs r = same_factors m map_held (first (model_tests m (synthesis scratch))) m' cs r
call_records m sound (analysis scratch) m' cs r = same_factors m factors_held (first (model_tests m (analysis scratch))) m' cs r
call_records m sound (read_point x) m' cs r = same_factors m m.state (first (model_tests m (read_point x))) m' cs r
call_records m sound (read_factor k) m' cs r = same_factors m m.state (first (model_tests m (read_factor k))) m' cs r
call_records m sound read_map_power m' cs r = same_factors m m.state (first (model_tests m read_map_power)) m' cs r
call_records m sound read_factor_power m' cs r = same_factors m m.state (first (model_tests m read_factor_power)) m' cs r

pub list_records : {μ : ℕ} (m : Model μ) → LawfulModel m → (l : List Call) → Records m (model_end m l) (accepted_records l (model_answers m l))
unfolding model_end model_answers accepted_records Accepted record_all
list_records m sound [] = (tt, refl)
list_records m sound (c ∷ l) = call_records m sound c (model_end (model_after m c) l) (accepted_records l (model_answers (model_after m c) l)) (list_records (model_after m c) (one_call m sound c).1 l)

-- ---- a file's records are calls too

abbrev pub calls : List FileRecord → List Call
calls cs = map recording_of cs

-- from m to m' by feeding these records: they are of different orbits, and each was accepted, as a call of a list
pub record Fed {μ : ℕ} (cs : List FileRecord) (m m' : Model μ) : Type 0 where
  pub same_header : m'.header ≡ m.header
  pub same_state : m'.state ≡ m.state
  pub below : BelowPrime μ cs
  pub different : DifferentIn m cs
  pub records : (l : List Call) → accepted_records (calls cs ++ l) (model_answers m (calls cs ++ l)) ≡ cs ++ accepted_records l (model_answers m' l)
  pub ends : (l : List Call) → model_end m (calls cs ++ l) ≡ model_end m' l

not_fed : {μ : ℕ} (m m' : Model μ) → m ≡ m' → Fed [] m m'
unfolding Sound
not_fed m m' is = record {
  same_header = ap (λ m. m.header) (sym is);
  same_state = ap (λ m. m.state) (sym is);
  below = λ c i. none i;
  different = tt;
  records = λ l. ap (λ m. accepted_records l (model_answers m l)) is;
  ends = λ l. ap (λ m. model_end m l) is;
}

-- records that are accepted one after another are accepted as calls, and leave what all of them record
accepted_calls : (cs : List FileRecord) {μ : ℕ} (m : Model μ) → LawfulModel m → m.state ≡ collecting → BelowPrime μ cs → DifferentIn m cs → Accepted (acts_on μ (half m)) (Inside (half m)) (full (group m)) (map (entry μ) cs) (factor_of m) → Fed cs m (model_recorded cs m)
unfolding model_recorded model_answers model_end accepted_records model_said model_after Accepted Sound record_in
accepted_calls [] m sound s small different ok = not_fed m m refl
accepted_calls (c ∷ cs) m sound s small different ok =
    let next = model_next m (recording_of c) in
    let q : first (model_tests m (recording_of c)) ≡ 0 = sym (fits_passes m sound s (index_of c) c.a c.b (small c first_of) ok.0) in
    let r = accepted_calls cs next (subst (λ n. LawfulModel (accepted n next (λ n. m))) q (one_call m sound (recording_of c)).1) s (λ c i. small c (later i)) different.2 ok.1 in
    record {
      same_header = r.same_header;
      same_state = r.same_state;
      below = small;
      different = different;
      records = λ l. ap (λ n. accepted_record (recording_of c) (accepted n done refused) (accepted_records (calls cs ++ l) (model_answers (accepted n next (λ n. m)) (calls cs ++ l)))) q ∙ ap (λ rs. c ∷ rs) (r.records l);
      ends = λ l. ap (λ n. model_end (accepted n next (λ n. m)) (calls cs ++ l)) q ∙ r.ends l;
    }

-- on a cell of zeros all are accepted
pub different_accepted : (cs : List FileRecord) {μ : ℕ} (m : Model μ) → ((q : J) → factor_of m q ≡ value μ 0 0) → DifferentIn m cs → Accepted (acts_on μ (half m)) (Inside (half m)) (full (group m)) (map (entry μ) cs) (factor_of m)
unfolding factor_acts gauss residues
different_accepted cs {μ} m zeros different = sound_accepted (factor_action (field_ring μ) (field_star μ) (half m)) (full (group m)) (closed (field_ring μ) (field_star μ) (half m) (group m)) (map (entry μ) cs) (factor_of m) different (λ r i. zeros r.0)

-- what a file's records make of a cell of zeros
fed : (cs : List FileRecord) {μ : ℕ} (m m' : Model μ) → LawfulModel m → m.state ≡ collecting → ((q : J) → factor_of m q ≡ value μ 0 0) → model_feed cs m ≡ begun m' → Fed cs m m'
unfolding model_feed
fed cs {μ} m m' sound s zeros e = by (judged μ m.header.group m.header.lengths [] cs) refl e
  where
    by : (b : Judgement) → judged μ m.header.group m.header.lengths [] cs ≡ b → elim b [ taken ↦ begun (model_recorded cs m) | refused_at n place ↦ not_begun n place ] ≡ begun m' → Fed cs m m'
    by taken q e =
        let is : model_recorded cs m ≡ m' = cc in
        let j = judged_different m sound [] cs q in
        subst (Fed cs m) is (accepted_calls cs m sound s j.below j.different (different_accepted cs m zeros j.different))
    by (refused_at n place) q e = let z : ◌≡◌ {A = ℕ} 0 1 = cc in absurd (omega arith)

-- F after all of them
recorded_all : (cs : List FileRecord) {μ : ℕ} (m : Model μ) → model_recorded cs m ≡ record { header = m.header; state = m.state; F = λ h k l. record_all (acts_on μ (half m)) (full (group m)) (map (entry μ) cs) (factor_of m) (h, k, l) }
unfolding model_recorded record_all record_in
recorded_all [] m = refl
recorded_all (c ∷ cs) m = recorded_all cs (model_next m (recording_of c))

-- and records of different orbits are fed
pub different_fed : (cs : List FileRecord) {μ : ℕ} (m : Model μ) → LawfulModel m → BelowPrime μ cs → DifferentIn m cs →
    model_feed cs m ≡ begun (record { header = m.header; state = m.state; F = λ h k l. record_all (acts_on μ (half m)) (full (group m)) (map (entry μ) cs) (factor_of m) (h, k, l) })
unfolding model_feed
different_fed cs m sound small different = ap (λ (b : Judgement). elim b [ taken ↦ begun (model_recorded cs m) | refused_at n place ↦ not_begun n place ]) (different_judged m sound [] cs small different (λ i j. none j)) ∙ ap begun (recorded_all cs m)

-- ---- from an accepted start on

module _ {μ : ℕ} (s : Start μ) (j : Job) (v : List ℕ) (m : Model μ) (started : Started s j v m) where
  pub start_passes : 0 ≡ first (open_tests μ (start_header s) (start_kind s) (start_volume s))
  start_passes = opened_passes s j (ap (λ o. o.answer) started.gives)

  pub first_sound : LawfulModel (first_model s)
  first_sound = opening_sound μ (start_header s) (start_kind s) (start_volume s) start_passes

pub start_fed : {μ : ℕ} (s : Start μ) (j : Job) (v : List ℕ) (m : Model μ) → Started s j v m → Fed (start_records s) (first_model s) m
unfolding model_open model_file
start_fed {μ} (opening h kind w) j v m started = by (first (beginning_tests μ h kind)) started.begins
  where
    by : (n : ℕ) → accepted n (begun (opening_model μ h kind w)) (λ n. not_begun n 0) ≡ begun m → Fed [] (opening_model μ h kind w) m
    by zero e = not_fed _ m (cc)
    by (suc n) e = let z : ◌≡◌ {A = ℕ} 0 1 = cc in absurd (omega arith)
start_fed {μ} (reading file w of) j v m started = by (first (shape_tests file)) (first (beginning_tests μ (header_in file) 0)) started.begins
  where
    by : (n k : ℕ) → accepted n (accepted k (model_feed (records_in file) (zero_model μ (header_in file))) (λ n. not_begun n 0)) (λ n. not_begun n 0) ≡ begun m → Fed (records_in file) (zero_model μ (header_in file)) m
    by zero zero e = fed (records_in file) (zero_model μ (header_in file)) m (first_sound (reading file w of) j v m started) refl (λ q. refl) e
    by zero (suc k) e = let z : ◌≡◌ {A = ℕ} 0 1 = cc in absurd (omega arith)
    by (suc n) k e = let z : ◌≡◌ {A = ℕ} 0 1 = cc in absurd (omega arith)

module _ {μ : ℕ} (s : Start μ) (j : Job) (v : List ℕ) (m : Model μ) (started : Started s j v m) where
  run_answers : (l : List Call) → (run j v l).answers ≡ model_answers m l
  run_answers l = ap (λ r. r.answers) (started_runs s j v m started l)

  -- the file's records, from the opening on
  pub start_records_lem : Records (first_model s) m (start_records s)
  unfolding model_end accepted_records
  start_records_lem =
      let f = start_fed s j v m started in
      subst₂ (Records (first_model s)) (f.ends []) (f.records [] ∙ append-nil (start_records s)) (list_records (first_model s) (first_sound s j v m started) (calls (start_records s) ++ []))

  -- .. and then those of a list
  pub started_records : (l : List Call) → Records (first_model s) (model_end m l) (all_records s j v l)
  started_records l =
      let f = start_fed s j v m started in
      let r = list_records (first_model s) (first_sound s j v m started) (calls (start_records s) ++ l) in
      subst₂ (Records (first_model s)) (f.ends l) (f.records l ∙ ap (λ a. start_records s ++ accepted_records l a) (sym (run_answers l))) r

  pub started_header : (l : List Call) → (model_end m l).header ≡ (first_model s).header
  started_header l = end_header m l ∙ (start_fed s j v m started).same_header

-- the model's F is what the accepted records put into the F of the opening
pub factors_implied : FactorsImplied
factors_implied = record { implied = λ μ s j v m started l q. ap (λ f. f q) (started_records s j v m started l).1 }
