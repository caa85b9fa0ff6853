-- The file that the writer wrote, read back, gives the job and its factors: its records are those of a whole cell that obeys group and Friedel, each orbit once,
-- so a file's opening takes them all and comes to that cell.
use mathlib.Core.Path.{◌≡◌, refl, sym, ◌∙◌, ap, subst}
use mathlib.Core.Logic.{◌⊎◌, inl, inr}
use mathlib.Core.Bool.{true, cond}
use mathlib.Core.List.{List, [], ◌∷◌, ◌++◌, map}
use Prim.Native.Nat.{ℕ, zero, suc, ◌*◌, ◌<◌, ◌≤◌}
use native.Mathlib.Nat.{mul-le-mul}
use native.Mathlib.Omega.{arith}
use lib.ListN.{length, take, drop}
use lib.Seq.{take-append_seam}
use lib.Dec.{eqb}
use borrow.Author.Tests.{not-false, eqb-true, eq-eqb, lt-leb}
use Rattle.algebra.specs.ring.Ring.{gauss, residues}
use Rattle.algebra.specs.cells.Cell.{J, Inside, Cell, full, at, factor_acts}
use Rattle.algebra.specs.cells.CellSteps.{Lawful}
use Rattle.algebra.specs.orbits.Orbit.{Mem, first as first_of, later, record_all}
use Rattle.algebra.specs.orbits.OrbitLaws.{Sound}
use Rattle.algebra.proofs.ring.Members.{none as no_member, mem_map}
use Rattle.algebra.proofs.cells.CellTests.{Positive}
use Rattle.algebra.proofs.cells.CellWriter.{written_sound, written_read}
use Rattle.algebra.proofs.orbits.OrbitLists.{sound_inside}
use Rattle.algebra.proofs.cells.CellGroup.{factor_action, closed}
use Rattle.numbers.specs.Value.{prime, IsModulus, Value, field, conj, value}
use Rattle.numbers.proofs.Primes.{by_choice, prime_pos, prime_most}
use Rattle.numbers.proofs.ModulusCases.{by_modulus}
use Rattle.numbers.proofs.Residues.{res_val, val_small}
use Rattle.numbers.proofs.Values.{field_ring, field_star}
use Rattle.slices.specs.Pairs.{Below}
use Rattle.slices.proofs.Bounds.{below_all_below}
use Rattle.lengths.specs.Lengths.{product, factors_ok}
use Rattle.refusals.specs.Refusals.{first}
use Rattle.refusals.proofs.Tests.{Passed, passed, append_pass, pass, none, not_t}
use Rattle.lengths.proofs.Factors.{factors_cons}
use Rattle.cell.specs.Volume.{volume_length, factors_in, pack_factors}
use Rattle.cell.specs.Operations.{Sizes}
use Rattle.cell.specs.Consistency.{same_value}
use Rattle.cell.proofs.Reading.{same_iff}
use Rattle.cell.proofs.Consistency.{pack_cong, consistent_read}
use Rattle.job.specs.declared.Job.{Job}
use Rattle.job.specs.Job.{job_cell, header_of, axis_tests, collecting, job_of, with_state, valid_job, group_in, halves, opened, open_tests, volume_tests}
use Rattle.header.proofs.Headers.{sound_lists}
use Rattle.lengths.proofs.Digits.{octal_of_digits}
use Rattle.job.proofs.Jobs.{valid_parts, valid_modulus, valid_sizes}
use Rattle.file_format.specs.declared.FileRecord.{FileRecord}
use Rattle.factor_file.specs.File.{records_in, file_step, job_records, job_file, write_tests, write_step}
use Rattle.output.specs.Output.{written, not_written}
use Rattle.model.specs.Model.{Model, zero_model, model_volume, model_feed, begun}
use Rattle.demands.specs.Demands.{entry}
use Rattle.demands.specs.Written.{Writes, ReadsBack, index_in, FileRises}
use Rattle.demands.proofs.Openings.{opening_sound}
use Rattle.demands.proofs.Starts.{file_gives}
use Rattle.demands.proofs.AcceptedRecords.{different_fed}
use Rattle.demands.proofs.Judged.{acts_on}
use Rattle.file_format.specs.Format.{version_of, modulus_bytes, file_of}
use Rattle.factor_file.specs.RecordOrder.{Rising, LowestOfOrbit}
use Rattle.factor_file.proofs.RecordOrder.{records_of_volume_rise}
use Rattle.file_format.specs.Parsed.{file_record, Short, ShortRecord, Writable}
use Rattle.file_format.proofs.layout.FileParts.{length_header, length_body}
use Rattle.file_format.proofs.WrittenFiles.{parses_back}
use Rattle.factor_file.proofs.file.RecordLaws.{admitted_few}
use Rattle.factor_file.proofs.writer.Files.{told, valid_volume}

-- ---- records of a file and what they stand for

entries : (μ : ℕ) (cs : List (J × Value μ)) → map (entry μ) (map (file_record μ) cs) ≡ cs
entries μ [] = refl
entries μ (c ∷ cs) =
    let x = res_val μ c.1.0 in
    let y = res_val μ c.1.1 in
    let others = entries μ cs in
    λ i. (c.0, (x i, y i)) ∷ others i

residues_below : (μ : ℕ) (cs : List (J × Value μ)) (c : FileRecord) → Mem c (map (file_record μ) cs) → (c.a < prime μ) × (c.b < prime μ)
residues_below μ [] c m = no_member m
residues_below μ (d ∷ cs) c first_of = (val_small μ d.1.0, val_small μ d.1.1)
residues_below μ (d ∷ cs) c (later m) = residues_below μ cs c m

-- a factor list is shorter than its product
list_short : (l : List ℕ) → factors_ok l ≡ true → length l < product l
unfolding product
list_short [] e = omega arith
list_short (f ∷ l) e = let b = factors_cons f l e in one f l b.0.0 (list_short l b.1)
  where
    one : (f : ℕ) (l : List ℕ) → 2 ≤ f → length l < product l → suc (length l) < f * product l
    one f l h k = omega (arith, k, mul-le-mul h k)

-- the version that the writer uses can name the modulus, in one byte or none
version_names : (m : ℕ) → IsModulus m → (version_of m ≡ 2) ⊎ ((version_of m ≡ 1) × (m ≡ 1))
version_names = by_modulus (λ m. (version_of m ≡ 2) ⊎ ((version_of m ≡ 1) × (m ≡ 1))) (inr (refl, refl)) (inl refl)

modulus_short : (version m : ℕ) → length (modulus_bytes version m) ≤ 1
modulus_short version m = by_choice (λ b. length (cond b (m ∷ []) []) ≤ 1) (omega arith) (omega arith) (eqb version 2)

-- ---- a job whose file was written

module _ (j : Job) (v output : List ℕ) (accepts : 0 ≡ first (write_tests j v output)) where
  abbrev μ : ℕ
  μ = j.modulus

  tests : Passed (write_tests j v output)
  tests = passed (write_tests j v output) tt accepts

  valid : valid_job j ≡ true
  valid = not-false _ tests.0

  sizes : Sizes (job_cell j)
  sizes = valid_sizes j valid

  header_sound : 0 ≡ first (axis_tests (header_of j))
  header_sound = (valid_parts j valid).1

  modulus : IsModulus μ
  modulus = valid_modulus j valid

  long : length v ≡ volume_length (group_in j) (halves j)
  long = eqb-true _ _ (not-false _ tests.1.1.0)

  small : Below (prime μ) v
  small = below_all_below (prime μ) v (prime_pos μ) (not-false _ tests.1.1.1.0)

  positive : Positive (halves j)
  positive = (omega (arith, sizes.first.low), omega (arith, sizes.second.low), omega (arith, sizes.third.low))

  -- the cell that is read off the volume
  abbrev cell : Cell (Value μ)
  cell = factors_in (group_in j) (halves j) μ v

  whole : Lawful (field μ) (conj μ) (halves j) (group_in j) cell × (pack_factors (group_in j) (halves j) μ cell ≡ v)
  whole = consistent_read (group_in j) (halves j) positive μ v long small (not-false _ tests.1.1.1.1.0)

  -- ---- its records are of different orbits, and give the cell

  abbrev Different : List (J × Value μ) → Type 0
  Different cs = Sound (acts_on μ (halves j)) (Inside (halves j)) (full (group_in j)) cs

  different : Different (job_records j v)
  unfolding job_records factor_acts gauss residues
  different = written_sound (field_ring μ) (field_star μ) same_value (same_iff μ) (group_in j) (halves j) (at cell) whole.0

  cell_given : (q : J) → Inside (halves j) q → record_all (acts_on μ (halves j)) (full (group_in j)) (job_records j v) (λ q. value μ 0 0) q ≡ at cell q
  unfolding job_records factor_acts gauss residues
  cell_given = written_read (field_ring μ) (field_star μ) same_value (same_iff μ) (group_in j) (halves j) (at cell) whole.0

  -- ---- its file

  abbrev records : List FileRecord
  records = map (file_record μ) (job_records j v)

  few : length records ≤ 33554432
  unfolding job_records
  few = admitted_few sizes μ v long (omega (arith, long, valid_volume j valid))

  list_small : (l : List ℕ) → (factors_ok l ≡ true) × (product l ≤ 1440) → length l < 1440
  list_small l s = omega (arith, s.1, list_short l s.0)

  inside_short : (q : J) → Inside (halves j) q → Short q
  inside_short q n = record {
    h = omega (arith, n.0, sizes.first.high);
    k = omega (arith, n.1, sizes.second.high);
    l = omega (arith, n.2, sizes.third.high);
  }

  short_record : (c : J × Value μ) → Inside (halves j) c.0 → ShortRecord (file_record μ c)
  short_record c n = record { index = inside_short c.0 n; a = omega (arith, val_small μ c.1.0, prime_most modulus); b = omega (arith, val_small μ c.1.1, prime_most modulus) }

  writable : Writable (version_of μ) μ (header_of j) records
  writable =
      let s = sound_lists (header_of j) header_sound in
      record {
        versions = version_names μ modulus;
        lengths = record { h = omega (arith, sizes.first.high); k = omega (arith, sizes.second.high); l = omega (arith, sizes.third.high) };
        records = mem_map (file_record μ) (job_records j v) ShortRecord (λ c m. short_record c (sound_inside (factor_action (field_ring μ) (field_star μ) (halves j)) (full (group_in j)) (closed (field_ring μ) (field_star μ) (halves j) (group_in j)) c (job_records j v) different m));
        short = omega (arith, length_body (version_of μ) μ (header_of j) records, length_header (version_of μ) μ (header_of j), modulus_short (version_of μ) μ, few, list_small _ s.0, list_small _ s.1, list_small _ s.2);
      }

  module _ (u : List ℕ) (same : length u ≡ length v) where
    -- an opening with kind 0 takes its header
    opens : 0 ≡ first (open_tests μ (header_of j) 0 u)
    opens =
        pass 8 _ (lt-leb 5 j.group sizes.known)
        (pass 26 _ (not_t _ (valid_parts j valid).3)
        (pass 2 _ refl
        (append_pass (axis_tests (header_of j)) (volume_tests μ j.group (header_of j).lengths 0 u) (passed (axis_tests (header_of j)) tt header_sound) volume)))
      where
        volume : 0 ≡ first (volume_tests μ j.group (header_of j).lengths 0 u)
        volume = pass 6 _ (not_t _ (eq-eqb (length u) (volume_length (group_in j) (halves j)) (same ∙ long))) (pass 7 _ refl (pass 14 _ refl none))

    -- the model that its records begin
    abbrev fed : List (J × Value μ) → Model μ
    fed cs = record { header = header_of j; state = collecting; F = λ h k l. record_all (acts_on μ (halves j)) (full (group_in j)) cs (λ q. value μ 0 0) (h, k, l) }

    feeds : model_feed records (zero_model μ (header_of j)) ≡ begun (fed (job_records j v))
    feeds =
        different_fed records (zero_model μ (header_of j)) (opening_sound μ (header_of j) 0 u opens) (residues_below μ (job_records j v)) (subst Different (sym (entries μ (job_records j v))) different)
        ∙ ap (λ cs. begun (fed cs)) (entries μ (job_records j v))

    volume_given : model_volume (fed (job_records j v)) ≡ v
    unfolding model_volume
    volume_given = pack_cong (group_in j) (halves j) positive μ cell (fed (job_records j v)).F cell_given whole.0 ∙ whole.1

    job_given : job_of μ (header_of j) collecting ≡ with_state j collecting
    job_given = λ i. record {
      group = j.group;
      modulus = j.modulus;
      a = record { length = j.a.length; factors = octal_of_digits j.a.factors i };
      b = record { length = j.b.length; factors = octal_of_digits j.b.factors i };
      c = record { length = j.c.length; factors = octal_of_digits j.c.factors i };
      state = collecting;
    }

    file_read : file_step (job_file j v) u ≡ record { answer = opened (with_state j collecting); volume = v }
    unfolding job_file
    file_read =
        let file = file_of (version_of μ) μ (header_of j) records in
        let em = parses_back.modulus (version_of μ) μ (header_of j) records writable in
        let eh = sym (parses_back.header (version_of μ) μ (header_of j) records writable) in
        let er = sym (parses_back.records (version_of μ) μ (header_of j) records writable) in
        file_gives file u em (sym (parses_back.shape (version_of μ) μ (header_of j) records writable)) (fed (job_records j v))
        (subst (λ h. 0 ≡ first (open_tests μ h 0 u)) eh opens)
        (subst (λ h. model_feed (records_in file) (zero_model μ h) ≡ begun (fed (job_records j v))) eh (subst (λ cs. model_feed cs (zero_model μ (header_of j)) ≡ begun (fed (job_records j v))) er feeds))
        ∙ λ i. record { answer = opened (job_given i); volume = volume_given i }

-- ---- every written file

-- what was written is the file of the job
told_file : (own output : List ℕ) (k : ℕ) (file : List ℕ) → told own output k ≡ record { answer = written (length file); output = file ++ drop (length file) output } → (0 ≡ k) × (own ≡ file)
told_file own output zero file e =
    let a : written (length own) ≡ written (length file) = ap (λ o. o.answer) e in
    let c : length own ≡ length file = cc in
    (refl, sym (take-append_seam own (drop (length own) output)) ∙ ap (λ o. take (length own) o.output) e ∙ ap (λ m. take m (file ++ drop (length file) output)) c ∙ take-append_seam file (drop (length file) output))
told_file own output (suc k) file e =
    let a : not_written (suc k) ≡ written (length file) = ap (λ o. o.answer) e in
    let z : ◌≡◌ {A = ℕ} 0 1 = cc in absurd (omega arith)

-- and the count is its length
told_writes : (own output : List ℕ) (k n : ℕ) → (told own output k).answer ≡ written n → let file = take n (told own output k).output in told own output k ≡ record { answer = written (length file); output = file ++ drop (length file) output }
told_writes own output zero n e =
    let c : length own ≡ n = cc in
    let whole : own ≡ take n (own ++ drop (length own) output) = sym (take-append_seam own (drop (length own) output)) ∙ ap (λ m. take m (own ++ drop (length own) output)) c in
    ap (λ f. record { answer = written (length f); output = f ++ drop (length f) output }) whole
told_writes own output (suc k) n e = let z : ◌≡◌ {A = ℕ} 0 1 = cc in absurd (omega arith)

module _ {j : Job} {v output file : List ℕ} (w : Writes j v output file) where
  pub writes_file : (0 ≡ first (write_tests j v output)) × (job_file j v ≡ file)
  unfolding write_step
  writes_file = told_file (job_file j v) output (first (write_tests j v output)) file w.outcome

  records_in_lem : records_in file ≡ map (file_record j.modulus) (job_records j v)
  unfolding job_file
  records_in_lem = ap records_in (sym writes_file.1) ∙ parses_back.records (version_of j.modulus) j.modulus (header_of j) (map (file_record j.modulus) (job_records j v)) (writable j v output writes_file.0)

pub reads_back : ReadsBack
unfolding write_step
reads_back = record {
  writes = λ j v output n e. record { outcome = told_writes (job_file j v) output (first (write_tests j v output)) n e };
  reads_back = λ j v output file u w same. let f = writes_file w in ap (λ f. file_step f u) (sym f.1) ∙ file_read j v output f.0 u same;
}

indices : (μ : ℕ) (cs : List (J × Value μ)) → map index_in (map (file_record μ) cs) ≡ map (λ c. c.0) cs
indices μ [] = refl
indices μ (c ∷ cs) = ap (λ js. c.0 ∷ js) (indices μ cs)

pub file_rises : FileRises
file_rises = record {
  rise = λ j v output file w. subst Rising (sym (ap (map index_in) (records_in_lem w) ∙ indices j.modulus (job_records j v))) (records_of_volume_rise.rise j v);
  lowest = λ j v output file w c m. mem_map (file_record j.modulus) (job_records j v) (λ c. LowestOfOrbit j (index_in c)) (records_of_volume_rise.lowest j v) c (subst (Mem c) (records_in_lem w) m);
}
