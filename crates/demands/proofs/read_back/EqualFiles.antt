-- Equal moduli, headers and volumes give equal files, so a file that was read is written back in one way.
use mathlib.Core.Path.{◌≡◌, refl, sym, ◌∙◌, ap, subst}
use mathlib.Core.Logic.{◌⊎◌, inl, inr}
use mathlib.Core.Bool.{Bool, true, not, ◌&&◌}
use mathlib.Core.List.{List, [], ◌∷◌, ◌++◌, map}
use Prim.Native.Nat.{ℕ, zero, suc, ◌+◌, ◌<◌, ◌≤◌}
use native.Mathlib.Omega.{arith}
use lib.ListN.{length}
use lib.Dec.{ltb, eqb}
use borrow.Author.Tests.{not-false, eqb-true, eqb-false, lt-ltb, le-ltb, ne_eqb}
use Rattle.algebra.specs.cells.Cell.{J, places_of}
use Rattle.numbers.specs.Value.{prime, is_modulus, Value}
use Rattle.slices.specs.Pairs.{all_below}
use Rattle.refusals.specs.Refusals.{Test, ◌⇒◌, first}
use Rattle.refusals.proofs.Tests.{both, passed, pass, none, not_t}
use Rattle.cell.specs.Volume.{group_of}
use Rattle.cell.specs.Consistency.{consistent_factors}
use Rattle.header.specs.Header.{Header, half_lengths, needed, axis_tests}
use Rattle.header.proofs.Headers.{all_three}
use Rattle.job.specs.declared.Job.{Job}
use Rattle.job.specs.Job.{header_of, valid_job, map_held, as_long, OpenOutcome, opened, open_tests}
use Rattle.file_format.specs.Format.{version_of, file_of}
use Rattle.file_format.specs.Parsed.{file_record}
use Rattle.job.proofs.Jobs.{valid_parts}
use Rattle.file_format.proofs.layout.Heads.{same_header}
use Rattle.factor_file.specs.File.{count_at, modulus_in, header_in, file_step, records_at, job_records, job_file, write_tests, write_step}
use Rattle.factor_file.proofs.writer.Files.{told}
use Rattle.demands.specs.Demands.{reading}
use Rattle.demands.specs.Written.{Writes, WithFactors, EqualFiles, WrittenTwice}
use Rattle.demands.proofs.Starts.{opened_passes}
use Rattle.demands.proofs.Order.{file_order_free}
use Rattle.demands.proofs.read_back.ReadBack.{writes_file, reads_back}

-- ---- the writer's tests by the modulus, the header and the state of a job

module _ (μ : ℕ) (h : Header) (v : List ℕ) where
  abbrev records_by : List (J × Value μ)
  records_by = records_at (group_of h.group) (half_lengths h.lengths) μ v (places_of (half_lengths h.lengths))

  abbrev file_by : List ℕ
  file_by = file_of (version_of μ) μ h (map (file_record μ) records_by)

  -- those that ask for neither state nor output
  abbrev middle : List Test
  middle =
      not (as_long h.group h.lengths v) ⇒ 6 ∷
      not (all_below (prime μ) v) ⇒ 7 ∷
      not (consistent_factors (group_of h.group) (half_lengths h.lengths) μ v) ⇒ 14 ∷
      []

  abbrev valid : ℕ → Bool
  valid state = ltb h.group 5 && (is_modulus μ && (eqb (first (axis_tests h)) 0 && ltb state 3))

  abbrev tests_by : (state room : ℕ) → List Test
  tests_by state room = not (valid state) ⇒ 25 ∷ eqb state map_held ⇒ 23 ∷ (middle ++ ltb room (length file_by) ⇒ 18 ∷ [])

  -- the tests of a valid job but that of its state
  sound : (state : ℕ) → valid state ≡ true → (ltb h.group 5 ≡ true) × (is_modulus μ ≡ true) × (eqb (first (axis_tests h)) 0 ≡ true) × (ltb state 3 ≡ true)
  sound state e =
      let g = both (ltb h.group 5) (is_modulus μ && (eqb (first (axis_tests h)) 0 && ltb state 3)) e in
      let t = all_three (is_modulus μ) (eqb (first (axis_tests h)) 0) (ltb state 3) g.1 in
      (g.0, t.0, t.1, t.2)

  passes : (state state' room room' : ℕ) → state' < map_held → length file_by ≤ room' → 0 ≡ first (tests_by state room) → 0 ≡ first (tests_by state' room')
  passes state state' room room' held fits e =
      let t = passed (tests_by state room) tt e in
      let old = sound state (not-false _ t.0) in
      let low = lt-ltb state' 3 (omega arith) in
      let now : valid state' ≡ true = λ i. old.0 i && (old.1 i && (old.2 i && low i)) in
      pass 25 _ (not_t _ now)
      (pass 23 _ (ne_eqb state' map_held (λ e. omega arith))
      (pass 6 _ t.1.1.0
      (pass 7 _ t.1.1.1.0
      (pass 14 _ t.1.1.1.1.0
      (pass 18 _ (le-ltb room' (length file_by) fits)
      none)))))

-- they are the writer's, and the file too is that of modulus and header
by_header : (j : Job) (v output : List ℕ) → (write_tests j v output ≡ tests_by j.modulus (header_of j) v j.state (length output)) × (job_file j v ≡ file_by j.modulus (header_of j) v)
unfolding valid_job job_records job_file
by_header j v output = (refl, refl)

pub below_map : (j : Job) → WithFactors j → j.state < map_held
below_map j (inl e) = omega arith
below_map j (inr e) = omega arith

pub accepted_writes : (j : Job) (v output : List ℕ) → 0 ≡ first (write_tests j v output) → Writes j v output (job_file j v)
unfolding write_step
accepted_writes j v output e = record { outcome = ap (told (job_file j v) output) (sym e) }

equal : (j j' : Job) (v output output' file : List ℕ) → j.modulus ≡ j'.modulus → header_of j ≡ header_of j' → WithFactors j' → length file ≤ length output' → Writes j v output file → Writes j' v output' file
equal j j' v output output' file of same held room w =
    let f = writes_file w in
    let b = by_header j v output in
    let b' = by_header j' v output' in
    let own : job_file j' v ≡ file = b'.1 ∙ (λ i. file_by (sym of i) (sym same i) v) ∙ sym b.1 ∙ f.1 in
    let old : 0 ≡ first (tests_by j'.modulus (header_of j') v j.state (length output)) = f.0 ∙ ap first b.0 ∙ (λ i. first (tests_by (of i) (same i) v j.state (length output))) in
    let fits : length (file_by j'.modulus (header_of j') v) ≤ length output' = subst (λ f. length f ≤ length output') (sym own ∙ b'.1) room in
    let new = passes j'.modulus (header_of j') v j.state j'.state (length output) (length output') (below_map j' held) fits old ∙ sym (ap first b'.0) in
    subst (Writes j' v output') own (accepted_writes j' v output' new)

pub equal_files : EqualFiles
equal_files = record { same = equal }

-- ---- what was read, written back

-- a job whose file was written holds factors
with_factors : {j : Job} {v output file : List ℕ} → Writes j v output file → WithFactors j
with_factors {j} {v} {output} w =
    let t = passed (write_tests j v output) tt (writes_file w).0 in
    one j.state (valid_parts j (not-false _ t.0)).2 (eqb-false j.state map_held t.1.0)
  where
    one : (s : ℕ) → s < 3 → (s ≡ 2 → ⊥) → (s ≡ 0) ⊎ (s ≡ 1)
    one zero h n = inl refl
    one (suc zero) h n = inr refl
    one (suc (suc s)) h n = absurd (n (omega arith))

-- an accepted file was lent the volume that its header asks for
volume_length_lem : (file v : List ℕ) (j : Job) → (file_step file v).answer ≡ opened j → length v ≡ needed (header_in file)
volume_length_lem file v j e =
    let t = passed (open_tests (modulus_in file) (header_in file) 0 v) tt (opened_passes {μ = modulus_in file} (reading file v refl) j e) in
    eqb-true _ _ (not-false _ t.1.1.1.1.1.1.1.0)

-- the job and the volume that a file gives
module _ {o : OpenOutcome} {j j' : Job} {w w' : List ℕ} (e : o ≡ record { answer = opened j; volume = w }) (e' : o ≡ record { answer = opened j'; volume = w' }) where
  same_job : j ≡ j'
  same_job = let a : opened j ≡ opened j' = ap (λ o. o.answer) (sym e ∙ e') in cc

  same_volume : w ≡ w'
  same_volume = ap (λ o. o.volume) (sym e ∙ e')

  writes_too : {output back : List ℕ} → Writes j w output back → Writes j' w' output back
  writes_too {output} {back} x = subst (λ j. Writes j w' output back) same_job (subst (λ w. Writes j w output back) same_volume x)

pub written_twice : WrittenTwice
written_twice = record {
  again = λ j i v w u output output' file x same room e.
      let read = reads_back.reads_back j v output file u x same in
      writes_too read e (equal j _ v output output' file refl refl (inl refl) room x);
  reordered = λ j j' v v' w w' output output' file file' back moved e e' room x.
      let long = volume_length_lem file v j (ap (λ o. o.answer) e) ∙ ap needed (same_header file file' (count_at file + 4) moved.same_head (omega arith)) ∙ sym (volume_length_lem file' v' j' (ap (λ o. o.answer) e')) in
      let read = file_order_free.same file file' v v' j w moved long e in
      let y = writes_too read e' x in
      equal j' j' w' output output' back refl refl (with_factors y) room y;
}
