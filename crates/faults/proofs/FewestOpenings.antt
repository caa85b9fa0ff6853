-- A file whose shape and header are not refused is opened, on a volume of the right length, as its records are judged; so the records at fault are the fewest of
-- its opening too.
use mathlib.Core.Path.{◌≡◌, refl, sym, ◌∙◌, ap, subst}
use mathlib.Core.List.{List, [], ◌∷◌}
use Prim.Native.Nat.{ℕ, zero, suc, ◌+◌, ◌<◌, ◌≤◌}
use native.Mathlib.Omega.{arith}
use lib.ListN.{length, length-map, get_or, replicate, length-replicate}
use borrow.Author.Tests.{eq-eqb}
use Rattle.algebra.specs.cells.Cell.{J}
use Rattle.algebra.proofs.ring.Members.{mem_map}
use Rattle.refusals.specs.Refusals.{first, accepted}
use Rattle.header.specs.Header.{Header, needed}
use Rattle.numbers.proofs.ModulusCases.{modulus_tested}
use Rattle.job.specs.declared.Job.{Job}
use Rattle.job.specs.Job.{collecting, job_of, header_of, Opening, opened, not_opened, OpenOutcome, open_tests, open_step}
use Rattle.job.proofs.check.Openings.{volume_decides, volume_collects}
use Rattle.file_format.specs.declared.FileRecord.{FileRecord}
use Rattle.file_format.specs.Format.{version_at}
use Rattle.file_format.specs.Parsed.{Bytes, ShortRecord, Writable}
use Rattle.file_format.proofs.WrittenFiles.{parses_back}
use Rattle.file_format.proofs.Rewriting.{length_from, got_short, writable_again}
use Rattle.factor_file.specs.File.{index_in, byte_at, count_at, record_count, records_in, modulus_in, header_in, shape_tests, judge_tests, Judgement, taken, refused_at, judged, feed, file_step}
use Rattle.faults.specs.Faults.{header_tests, faults_in}
use Rattle.faults.specs.Fewest.{no_record, chosen, Rising, last, next, judged_under, Fewest}
use Rattle.faults.specs.FewestOpened.{smaller_file, Smaller, RefusedAt, FewestOpened, FewestAreOpened}
use Rattle.factor_file.proofs.Openings.{outcome}
use Rattle.faults.proofs.FaultLaws.{header_sound, header_opened, long_opened}
use Rattle.faults.proofs.FewestFaults.{fewest_of}

-- what an opening answers by its records
abbrev pub answer_by : Job → Judgement → Opening
answer_by j b = elim b [ taken ↦ opened j | refused_at n place ↦ not_opened n place ]

feed_answer : (cs : List FileRecord) (j : Job) (v : List ℕ) → (feed cs j v).answer ≡ answer_by j (judged j.modulus j.group (header_of j).lengths [] cs)
unfolding feed
feed_answer cs j v = by (judged j.modulus j.group (header_of j).lengths [] cs)
  where
    by : (b : Judgement) → (outcome cs j v b).answer ≡ answer_by j b
    by taken = refl
    by (refused_at n place) = refl

-- the tests of an opening, those of the header and the volume's length
opens : (μ : ℕ) (h : Header) → 0 ≡ first (header_tests μ h) → (v : List ℕ) → length v ≡ needed h → 0 ≡ first (open_tests μ h 0 v)
opens μ h e v l =
    let s = header_sound μ h e in
    volume_decides μ h 0 v s.group (modulus_tested μ s.modulus) (omega arith) s.axes (volume_collects μ h.group h.lengths 0 v (eq-eqb _ _ l) (λ q. omega (arith, q)))

pub opening : (μ : ℕ) (h : Header) → 0 ≡ first (header_tests μ h) → (v : List ℕ) → length v ≡ needed h → open_step μ h 0 v ≡ record { answer = opened (job_of μ h collecting); volume = replicate (length v) 0 }
unfolding open_step
opening μ h e v l = ap (λ n. accepted {O = OpenOutcome} n (record { answer = opened (job_of μ h collecting); volume = replicate (length v) 0 }) (λ n. record { answer = not_opened n 0; volume = v })) (sym (opens μ h e v l))

module _ (file : List ℕ) (shape : 0 ≡ first (shape_tests file)) (header : 0 ≡ first (header_tests (modulus_in file) (header_in file))) (v : List ℕ) (long : length v ≡ needed (header_in file)) where
  abbrev job : Job
  job = job_of (modulus_in file) (header_in file) collecting

  abbrev after : OpenOutcome → OpenOutcome
  after o = elim o.answer [ opened j ↦ feed (records_in file) j o.volume | not_opened n place ↦ o ]

  pub file_answer : (file_step file v).answer ≡ answer_by job (judged_under file (records_in file))
  unfolding file_step
  file_answer =
      ap (λ n. (accepted {O = OpenOutcome} n (after (open_step (modulus_in file) (header_in file) 0 v)) (λ n. record { answer = not_opened n 0; volume = v })).answer) (sym shape)
      ∙ ap (λ o. (after o).answer) (opening (modulus_in file) (header_in file) header v long)
      ∙ feed_answer (records_in file) job (replicate (length v) 0)

refused_back : (j : Job) (b : Judgement) (n place : ℕ) → answer_by j b ≡ not_opened n place → b ≡ refused_at n place
refused_back j taken n place e = let z : ◌≡◌ {A = ℕ} 0 1 = cc in absurd (omega arith)
refused_back j (refused_at m q) n place e = let x : m ≡ n = cc in let y : q ≡ place = cc in λ i. refused_at (x i) (y i)

-- ---- a smaller file

-- a record is refused at a place that there is
judged_inside : (μ group : ℕ) (n : J) (before : List J) (cs : List FileRecord) (k r : ℕ) → judged μ group n before cs ≡ refused_at k r → r < length before + length cs
unfolding judged
judged_inside μ group n before [] k r e = let z : ◌≡◌ {A = ℕ} 0 1 = cc in absurd (omega arith)
judged_inside μ group n before (c ∷ cs) k r e = by (first (judge_tests μ group n before (index_in c) c.a c.b)) (judged_inside μ group n (index_in c ∷ before) cs k r) e
  where
    by : (t : ℕ) → (judged μ group n (index_in c ∷ before) cs ≡ refused_at k r → r < suc (length before) + length cs) → accepted t (judged μ group n (index_in c ∷ before) cs) (λ k. refused_at k (length before)) ≡ refused_at k r → r < length before + suc (length cs)
    by zero f e = omega (arith, f e)
    by (suc t) f e = let q : length before ≡ r = cc in omega arith

rising_few : {low r : ℕ} {qs : List ℕ} → Rising low r qs → low + length qs ≤ suc r
rising_few (last l) = omega arith
rising_few (next l s) = let h = rising_few s in omega arith

no_record_short : ShortRecord no_record
no_record_short = record { index = record { h = omega arith; k = omega arith; l = omega arith }; a = omega arith; b = omega arith }

-- its numbers have as many bytes as they are written with, and its body is no longer than that of the file
module _ (file : List ℕ) (bytes : Bytes file) (shape : 0 ≡ first (shape_tests file)) (r : ℕ) (some : r < record_count file) (qs : List ℕ) (rise : Rising 0 r qs) where
  few : length (chosen (records_in file) qs) ≤ record_count file
  few = omega (arith, length-map qs (λ q. get_or (records_in file) q no_record), rising_few rise)

  writable : Writable (byte_at file version_at) (modulus_in file) (header_in file) (chosen (records_in file) qs)
  writable = writable_again file bytes shape (chosen (records_in file) qs) few
      (mem_map (λ q. get_or (records_in file) q no_record) qs ShortRecord (λ q m. got_short file bytes no_record no_record_short (count_at file + 4) (record_count file) q))

  is_smaller : Smaller file qs
  unfolding smaller_file
  is_smaller =
      let v = byte_at file version_at in
      let m = modulus_in file in
      let h = header_in file in
      let cs = chosen (records_in file) qs in
      record { shape = parses_back.shape v m h cs writable; modulus = parses_back.modulus v m h cs writable; header = parses_back.header v m h cs writable; records = parses_back.records v m h cs writable }

module _ (file : List ℕ) (header : 0 ≡ first (header_tests (modulus_in file) (header_in file))) (qs : List ℕ) (s : Smaller file qs) where
  abbrev smaller : List ℕ
  smaller = smaller_file file qs

  same_made : judged_under smaller (records_in smaller) ≡ judged_under file (chosen (records_in file) qs)
  same_made = let m = s.modulus in let h = s.header in let r = s.records in λ i. judged (m i) (h i).group (h i).lengths [] (r i)

  small_header : 0 ≡ first (header_tests (modulus_in smaller) (header_in smaller))
  small_header = let m = sym s.modulus in let h = sym s.header in header ∙ (λ i. first (header_tests (m i) (h i)))

  small_answer : (v : List ℕ) → length v ≡ needed (header_in file) → (file_step smaller v).answer ≡ answer_by (job_of (modulus_in smaller) (header_in smaller) collecting) (judged_under file (chosen (records_in file) qs))
  small_answer v l = file_answer smaller s.shape small_header v (l ∙ ap needed (sym s.header)) ∙ ap (answer_by (job_of (modulus_in smaller) (header_in smaller) collecting)) same_made

  small_refused : {n place : ℕ} → judged_under file (chosen (records_in file) qs) ≡ refused_at n place → RefusedAt file smaller n place
  small_refused e = record { answer = λ v l. small_answer v l ∙ ap (answer_by (job_of (modulus_in smaller) (header_in smaller) collecting)) e }

  small_judged : {n place : ℕ} → RefusedAt file smaller n place → judged_under file (chosen (records_in file) qs) ≡ refused_at n place
  small_judged {n} {place} w =
      let v : List ℕ = replicate (needed (header_in file)) 0 in
      let l : length v ≡ needed (header_in file) = length-replicate {A = ℕ} (needed (header_in file)) 0 in
      refused_back (job_of (modulus_in smaller) (header_in smaller) collecting) _ n place (sym (small_answer v l) ∙ w.answer v l)

pub fewest_are_opened : FewestAreOpened
fewest_are_opened = record { smaller = is_smaller; each = go }
  where
    go : (file v : List ℕ) (j : Job) → Bytes file → 0 ≡ first (shape_tests file) → (open_step (modulus_in file) (header_in file) 0 v).answer ≡ opened j → (number r : ℕ) → (file_step file v).answer ≡ not_opened number r → FewestOpened file number r
    go file v j bytes shape o number r w =
        let header = header_opened (modulus_in file) (header_in file) v j o in
        let l = long_opened (modulus_in file) (header_in file) v j o in
        let e = refused_back (job_of (modulus_in file) (header_in file) collecting) _ number r (sym (file_answer file shape header v l) ∙ w) in
        let f = fewest_of file shape header number r e in
        let inside = judged_inside (modulus_in file) (header_in file).group (header_in file).lengths [] (records_in file) number r e in
        let s : (qs : List ℕ) → Rising 0 r qs → Smaller file qs = is_smaller file bytes shape r (omega (arith, inside, length_from file (count_at file + 4) (record_count file))) in
        record {
          rise = f.rise;
          refused = small_refused file header (faults_in file) (s (faults_in file) f.rise) f.refused;
          fewest = λ qs u place w. f.fewest qs u place (small_judged file header qs (s qs u) w);
          only = λ qs u place w n. f.only qs u place (small_judged file header qs (s qs u) w) n;
        }
