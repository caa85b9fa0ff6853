-- A file of no records is an opening with kind 0, whose volume is zero; and of a volume of zeros every factor is zero, so that it gives no record.
use mathlib.Core.Path.{◌≡◌, refl, sym, ◌∙◌, ap, subst}
use mathlib.Core.Bool.{true}
use mathlib.Core.List.{List, [], map}
use Prim.Native.Nat.{ℕ, ◌+◌, ◌*◌, ◌≤◌}
use native.Mathlib.Omega.{arith}
use lib.ListN.{length, replicate, length-replicate}
use borrow.Author.Tests.{eq-eqb, ne_eqb, le-ltb}
use Rattle.algebra.specs.ring.Ring.{gauss, residues}
use Rattle.algebra.specs.cells.Cell.{J, Inside, full, at, factor_acts, places_of}
use Rattle.algebra.specs.orbits.Orbit.{Mem}
use Rattle.algebra.proofs.cells.CellOrder.{cell_mem}
use Rattle.algebra.proofs.cells.CellTests.{Positive}
use Rattle.numbers.specs.Value.{prime, Value, field, conj, value}
use Rattle.numbers.proofs.Primes.{prime_pos}
use Rattle.slices.specs.Pairs.{Below}
use Rattle.slices.proofs.Bounds.{below_replicate, all_below_below}
use Rattle.refusals.specs.Refusals.{first, accepted}
use Rattle.refusals.proofs.Tests.{pass, none as no_test, not_t}
use Rattle.cell.specs.Volume.{volume_length, factors_in, pack_factors}
use Rattle.cell.specs.Consistency.{same_value, consistent_factors}
use Rattle.cell.proofs.Tests.{true_iff}
use Rattle.cell.proofs.Reading.{same_iff, read_packed}
use Rattle.cell.proofs.ZeroCell.{zero_lawful, zero_packed, zero_consistent, zero_map}
use Rattle.job.specs.declared.Job.{Job}
use Rattle.job.specs.Job.{Header, half_lengths, needed, header_of, valid_job, collecting, map_held, group_in, halves, job_of, Opening, opened, not_opened, OpenOutcome, open_tests, open_step}
use Rattle.job.proofs.Jobs.{valid_job_sizes}
use Rattle.file_format.specs.Format.{version_of, file_of}
use Rattle.file_format.specs.Parsed.{file_record}
use Rattle.factor_file.specs.File.{count_at, record_count, records_from, records_in, shape_tests, modulus_in, header_in, judged, record_all_on, feed, file_step, no_later, job_records, job_file, write_tests}
use Rattle.factor_file.proofs.file.Places.{records_none}
use Rattle.model.specs.Model.{Model, density_of, zero_model}
use Rattle.demands.specs.Demands.{reading, model_end, Started}
use Rattle.demands.specs.Written.{Writes, WithFactors, EmptyFiles}
use Rattle.demands.proofs.Starts.{after_opening, file_shape, opened_passes}
use Rattle.demands.proofs.AcceptedRecords.{Fed, start_fed}
use Rattle.demands.proofs.read_back.ReadBack.{reads_back}
use Rattle.demands.proofs.read_back.EqualFiles.{below_map, accepted_writes}

-- ---- a file of no records, read

nothing_fed : (a : Opening) (w : List ℕ) → after_opening [] (record { answer = a; volume = w }) ≡ record { answer = a; volume = w }
unfolding feed judged record_all_on
nothing_fed (opened j) w = refl
nothing_fed (not_opened n place) w = refl

opens : (file v : List ℕ) → 0 ≡ first (shape_tests file) → record_count file ≡ 0 → file_step file v ≡ open_step (modulus_in file) (header_in file) 0 v
unfolding file_step records_from
opens file v shape empty =
    let o = open_step (modulus_in file) (header_in file) 0 v in
    ap (λ n. accepted n (after_opening (records_in file) o) (λ n. record { answer = not_opened n 0; volume = v })) (sym shape)
    ∙ ap (λ n. after_opening (records_from file (count_at file + 4) n) o) empty
    ∙ nothing_fed o.answer o.volume

-- an accepted opening with kind 0 leaves zeros
opening_zero : (μ : ℕ) (h : Header) (v : List ℕ) → 0 ≡ first (open_tests μ h 0 v) → open_step μ h 0 v ≡ record { answer = opened (job_of μ h collecting); volume = replicate (length v) 0 }
unfolding open_step
opening_zero μ h v none = rw (← none) refl

opened_zero : (file v : List ℕ) (j : Job) (w : List ℕ) → file_step file v ≡ record { answer = opened j; volume = w } → record_count file ≡ 0 → w ≡ replicate (length v) 0
opened_zero file v j w e empty =
    let answer = ap (λ o. o.answer) e in
    ap (λ o. o.volume) (sym e ∙ opens file v (sym (file_shape file v j answer)) empty ∙ opening_zero (modulus_in file) (header_in file) v (opened_passes {μ = modulus_in file} (reading file v refl) j answer))

zero_model_lem : (file v : List ℕ) (j : Job) (w : List ℕ) (m : Model (modulus_in file)) → Started (reading file v refl) j w m → record_count file ≡ 0 → m ≡ zero_model (modulus_in file) (header_in file)
unfolding records_from model_end
zero_model_lem file v j w m started empty =
    let fed = subst (λ cs. Fed cs (zero_model (modulus_in file) (header_in file)) m) (ap (records_from file (count_at file + 4)) empty) (start_fed (reading file v refl) j w m started) in
    sym (fed.ends [])

-- ---- a volume of zeros, written

module _ (j : Job) (valid : valid_job j ≡ true) where
  abbrev μ : ℕ
  μ = j.modulus

  abbrev zeros : List ℕ
  zeros = replicate (needed (header_of j)) 0

  positive : Positive (halves j)
  positive = let s = valid_job_sizes j valid in (s.first.positive, s.second.positive, s.third.positive)

  packed : pack_factors (group_in j) (halves j) μ (λ h k l. value μ 0 0) ≡ zeros
  packed = zero_packed μ (group_in j) (halves j) positive

  below : Below (prime μ) zeros
  below = below_replicate (needed (header_of j)) 0 (prime_pos μ)

  consistent : consistent_factors (group_in j) (halves j) μ zeros ≡ true
  consistent = zero_consistent μ (group_in j) (halves j) positive

  read : (q : J) → Inside (halves j) q → at (factors_in (group_in j) (halves j) μ zeros) q ≡ value μ 0 0
  read q n = subst (λ v. at (factors_in (group_in j) (halves j) μ v) q ≡ value μ 0 0) packed (read_packed (group_in j) (halves j) positive μ (λ h k l. value μ 0 0) (zero_lawful μ (group_in j) (halves j)) q n)

  inside : (q : J) → Mem q (places_of (halves j)) → Inside (halves j) q
  inside q m = let a = halves j in let r = cell_mem (2 * a.2) (2 * a.1) 0 (2 * a.0) q m in (omega arith, r.2, r.3)

  no_records : job_records j zeros ≡ []
  unfolding job_records factor_acts gauss residues
  no_records = records_none (factor_acts (field μ) (conj μ) (halves j)) no_later same_value (full (group_in j)) (at (factors_in (group_in j) (halves j) μ zeros)) (places_of (halves j))
      (λ q m. (true_iff _).1 ((same_iff μ _ (value μ 0 0)).1 (read q (inside q m))))

  empty : job_file j zeros ≡ file_of (version_of μ) μ (header_of j) []
  unfolding job_file
  empty = ap (λ cs. file_of (version_of μ) μ (header_of j) (map (file_record μ) cs)) no_records

  passes : (output : List ℕ) → WithFactors j → length (file_of (version_of μ) μ (header_of j) []) ≤ length output → 0 ≡ first (write_tests j zeros output)
  passes output held room =
      pass 25 _ (not_t _ valid)
      (pass 23 _ (ne_eqb j.state map_held (λ e. omega (arith, below_map j held)))
      (pass 6 _ (not_t _ (eq-eqb _ _ (length-replicate (needed (header_of j)) 0)))
      (pass 7 _ (not_t _ (all_below_below (prime μ) zeros below))
      (pass 14 _ (not_t _ consistent)
      (pass 18 _ (le-ltb (length output) (length (job_file j zeros)) (subst (λ f. length f ≤ length output) (sym empty) room))
      no_test)))))

pub empty_files : EmptyFiles
empty_files = record {
  opens = opens;
  zero = λ file v j w m started empty. (zero_model_lem file v j w m started empty, opened_zero file v j w started.gives empty);
  map = λ file v j w m started empty x. ap (λ m. density_of m x) (zero_model_lem file v j w m started empty) ∙ zero_map (modulus_in file) (half_lengths (header_in file).lengths) x;
  written = λ j output valid held room. subst (Writes j (zeros j valid) output) (empty j valid) (accepted_writes j (zeros j valid) output (passes j valid output held room));
  only = λ j v output file x empty. opened_zero file v _ v (reads_back.reads_back j v output file v x refl) empty;
}
