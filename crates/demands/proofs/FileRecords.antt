-- The records of a file. 24 exactly where a record before is of the same orbit; and where no two are of one orbit, each record is judged as its call would be.
use mathlib.Core.Path.{◌≡◌, refl, sym, ◌∙◌, ap, subst}
use mathlib.Core.Logic.{◌↔◌, ◌⊎◌, inl, inr}
use mathlib.Core.Bool.{Bool, true, false, not}
use mathlib.Core.List.{List, [], ◌∷◌, ◌++◌}
use Prim.Native.Nat.{ℕ, zero, suc, ◌+◌, ◌<◌, ◌≤◌}
use native.Mathlib.Omega.{arith}
use lib.Dec.{T}
use lib.ListN.{length, replicate}
use borrow.Author.Tests.{not-false, eq-eqb}
use Rattle.algebra.specs.ring.Ring.{gauss, residues}
use Rattle.algebra.specs.cells.Cell.{J, Inside, full, some, same_orbit, factor_acts}
use Rattle.algebra.specs.orbits.Orbit.{Mem, first as first_of, later}
use Rattle.algebra.specs.orbits.OrbitLaws.{Off}
use Rattle.algebra.proofs.ring.Bool.{some_at, some_by}
use Rattle.algebra.proofs.ring.Members.{none, mem_cons}
use Rattle.algebra.proofs.ring.Laws.{along}
use Rattle.algebra.proofs.orbits.Orbits.{record_off}
use Rattle.algebra.proofs.cells.CellGroup.{factor_action, closed, orbit_iff}
use Rattle.numbers.specs.Value.{value}
use Rattle.numbers.proofs.Values.{field_ring, field_star}
use Rattle.refusals.specs.Refusals.{Test, ◌⇒◌, first, accepted}
use Rattle.refusals.proofs.Tests.{not_t, pass, passed}
use Rattle.cell.specs.Volume.{group_of}
use Rattle.cell.specs.Consistency.{same_value, record_in}
use Rattle.cell.proofs.Tests.{true_iff}
use Rattle.cell.proofs.Reading.{same_iff}
use Rattle.job.specs.declared.Job.{Job}
use Rattle.job.specs.Job.{Header, half_lengths, collecting, job_of, opened, not_opened, Opening, OpenOutcome, Said, done, density, factor, power, refused, Outcome, open_tests, open_step, within}
use Rattle.file_format.specs.declared.FileRecord.{FileRecord}
use Rattle.factor_file.specs.File.{index_of, index_in, modulus_in, header_in, records_in, shape_tests, judge_tests, Judgement, taken, refused_at, judged, record_all_on, feed, file_step}
use Rattle.model.specs.Model.{Model, group, half, factor_of, Call, recording_of, model_tests, model_said, model_after, model_next, model_job, model_volume, zero_model}
use Rattle.model.proofs.Sound.{LawfulModel, within_inside, model_length}
use Rattle.model.proofs.OneCall.{same_next, result, one_call, record_leaves, record_sound}
use Rattle.demands.specs.Demands.{opening, OneOrbit, called, DifferentOrbits, FileOccupied, FileAsCalls}
use Rattle.demands.proofs.Openings.{opening_sound, opening_gives}
use Rattle.demands.proofs.Corollaries.{not_this}
use Rattle.demands.proofs.Judged.{acts_on, unseen}
use Rattle.demands.proofs.Starts.{file_opened, opened_passes}

-- what a judgement answers
abbrev says : (j : Job) → Judgement → Opening
says j taken = opened j
says j (refused_at n place) = not_opened n place

-- ---- how far a file is judged

module _ (μ : ℕ) (h : Header) where
  abbrev judge : List J → List FileRecord → Judgement
  judge before cs = judged μ h.group h.lengths before cs

  abbrev tests : List J → FileRecord → List Test
  tests before c = judge_tests μ h.group h.lengths before (index_in c) c.a c.b

  -- one of the first records is refused, or the others are judged after them
  data Reached (before : List J) (cs ds : List FileRecord) : Type 0 where
    stopped : (k q : ℕ) → q < length before + length cs → judge before (cs ++ ds) ≡ refused_at k q → Reached before cs ds
    reached : (b : List J) → length b ≡ length before + length cs → ((i : J) → Mem i b → Mem i before ⊎ ((d : FileRecord) × Mem d cs × (index_in d ≡ i))) →
        ((i : J) → Mem i before → Mem i b) → ((d : FileRecord) → Mem d cs → Mem (index_in d) b) → judge before (cs ++ ds) ≡ judge b ds → Reached before cs ds

  reach : (before : List J) (cs ds : List FileRecord) → Reached before cs ds
  unfolding judged
  reach before [] ds = reached before (omega arith) (λ i m. inl m) (λ i m. m) (λ d m. none m) refl
  reach before (c ∷ cs) ds = by (first (tests before c)) refl (reach (index_in c ∷ before) cs ds)
    where
      from : (i : J) → Mem i (index_in c ∷ before) ⊎ ((d : FileRecord) × Mem d cs × (index_in d ≡ i)) → Mem i before ⊎ ((d : FileRecord) × Mem d (c ∷ cs) × (index_in d ≡ i))
      from i (inl first_of) = inr (c, first_of, refl)
      from i (inl (later m)) = inl m
      from i (inr (d, m, e)) = inr (d, later m, e)

      by : (k : ℕ) → first (tests before c) ≡ k → Reached (index_in c ∷ before) cs ds → Reached before (c ∷ cs) ds
      by (suc k) e r = stopped (suc k) (length before) (omega arith) (ap (λ n. accepted n (judge (index_in c ∷ before) (cs ++ ds)) (λ k. refused_at k (length before))) e)
      by zero e (stopped k q l f) = stopped k q (omega arith) (ap (λ n. accepted n (judge (index_in c ∷ before) (cs ++ ds)) (λ k. refused_at k (length before))) e ∙ f)
      by zero e (reached b n f g r q) = reached b (omega arith) (λ i m. from i (f i m)) (λ i m. g i (later m)) (mem_cons (λ d. Mem (index_in d) b) (g (index_in c) first_of) r) (ap (λ n. accepted n (judge (index_in c ∷ before) (cs ++ ds)) (λ k. refused_at k (length before))) e ∙ q)

  -- a record that is refused stands behind those before
  judged_place : (before : List J) (cs : List FileRecord) (k q : ℕ) → judge before cs ≡ refused_at k q → length before ≤ q
  unfolding judged
  judged_place before [] k q e = let z : ◌≡◌ {A = ℕ} 0 1 = cc in absurd (omega arith)
  judged_place before (c ∷ cs) k q e = by (first (tests before c)) (judge (index_in c ∷ before) cs) e (λ f. judged_place (index_in c ∷ before) cs k q f)
    where
      by : (n : ℕ) (next : Judgement) → accepted n next (λ k. refused_at k (length before)) ≡ refused_at k q → (next ≡ refused_at k q → suc (length before) ≤ q) → length before ≤ q
      by zero next e f = let l = f e in omega arith
      by (suc n) next e f = let l : length before ≡ q = cc in omega arith

-- ---- 24

last_test : (s : Bool) → first (s ⇒ 24 ∷ []) ≡ 24 → s ≡ true
unfolding first
last_test true e = refl
last_test false e = absurd (omega arith)

seen_number : (μ : ℕ) (h : Header) (b : List J) (c : FileRecord) → first (tests μ h b c) ≡ 24 → some b (λ i. same_orbit (group_of h.group) (half_lengths h.lengths) i (index_in c)) ≡ true
seen_number μ h b c e = last_test _ (not_this _ 12 24 _ (λ q. omega arith) (not_this _ 7 24 _ (λ q. omega arith) (not_this _ 10 24 _ (λ q. omega arith) e)))

module _ (μ : ℕ) (h : Header) (j : Job) (cs rest : List FileRecord) (c : FileRecord) where
  abbrev answer : Opening
  answer = says j (judge μ h [] (cs ++ c ∷ rest))

  occupied : ((n place : ℕ) → answer ≡ not_opened n place → length cs ≤ place) → ((n : ℕ) → answer ≡ not_opened n (length cs) → n ≡ 24) → Reached μ h [] cs (c ∷ rest) → (answer ≡ not_opened 24 (length cs)) ↔ ((d : FileRecord) × Mem d cs × OneOrbit h d c)
  unfolding judged
  occupied before only (stopped k q l e) = absurd (let p = before k q (ap (says j) e) in omega arith)
  occupied before only (reached b n f g r e) = by (first (tests μ h b c)) refl
    where
      found : (i : J) → T (same_orbit (group_of h.group) (half_lengths h.lengths) i (index_in c)) → Mem i [] ⊎ ((d : FileRecord) × Mem d cs × (index_in d ≡ i)) → (d : FileRecord) × Mem d cs × OneOrbit h d c
      found i t (inl m) = none m
      found i t (inr (d, m, q)) = (d, m, (orbit_iff (group_of h.group) (half_lengths h.lengths) (index_in d) (index_in c)).0 (subst (λ i. T (same_orbit (group_of h.group) (half_lengths h.lengths) i (index_in c))) (sym q) t))

      answered : (k : ℕ) → first (tests μ h b c) ≡ k → answer ≡ says j (accepted k (judge μ h (index_in c ∷ b) rest) (λ k. refused_at k (length b)))
      answered k q = ap (says j) (e ∙ ap (λ k. accepted k (judge μ h (index_in c ∷ b) rest) (λ k. refused_at k (length b))) q)

      later_place : (o : Judgement) → judge μ h (index_in c ∷ b) rest ≡ o → says j o ≡ not_opened 24 (length cs) → ⊥
      later_place taken q a = let z : ◌≡◌ {A = ℕ} 0 1 = cc in omega arith
      later_place (refused_at k place) q a = let p : place ≡ length cs = cc in let l = judged_place μ h (index_in c ∷ b) rest k place q in omega arith

      by : (k : ℕ) → first (tests μ h b c) ≡ k → (answer ≡ not_opened 24 (length cs)) ↔ ((d : FileRecord) × Mem d cs × OneOrbit h d c)
      by zero q = (
        λ a. absurd (later_place (judge μ h (index_in c ∷ b) rest) refl (sym (answered zero q) ∙ a)),
        λ d. absurd (subst T (passed (tests μ h b c) tt (sym q)).1.1.1.0 (some_by b _ (index_in d.0) (r d.0 d.1) ((orbit_iff (group_of h.group) (half_lengths h.lengths) (index_in d.0) (index_in c)).1 d.2))),
      )
      by (suc k) q =
          let a : answer ≡ not_opened (suc k) (length cs) = answered (suc k) q ∙ along (not_opened (suc k)) (length b) (length cs) (omega (arith, n)) in
          let z = only (suc k) a in (
            λ _. let t = some_at b _ ((true_iff _).0 (seen_number μ h b c (q ∙ z))) in found t.0 t.2 (f t.0 t.1),
            λ _. a ∙ ap (λ k. not_opened k (length cs)) z,
          )

-- what a judgement leaves of a model's job and volume
abbrev left : {μ : ℕ} → Model μ → List FileRecord → List ℕ → Judgement → OpenOutcome
left {μ} m cs zeros b = elim b [ taken ↦ record { answer = opened (model_job m); volume = record_all_on (group m) (half m) μ cs (model_volume m) } | refused_at n place ↦ record { answer = not_opened n place; volume = zeros } ]

feed_left : (cs : List FileRecord) {μ : ℕ} (m : Model μ) → feed cs (model_job m) (model_volume m) ≡ left m cs (replicate (length (model_volume m)) 0) (judged μ m.header.group m.header.lengths [] cs)
unfolding feed
feed_left cs m = refl

-- what a file answers
file_says : (file v : List ℕ) → 0 ≡ first (shape_tests file) → 0 ≡ first (open_tests (modulus_in file) (header_in file) 0 v) → let μ = modulus_in file in let h = header_in file in (file_step file v).answer ≡ says (job_of μ h collecting) (judge μ h [] (records_in file))
file_says file v shape none = ap (λ (o : OpenOutcome). o.answer) (file_opened file v refl (sym shape) none ∙ feed_left (records_in file) (zero_model μ h)) ∙ by (judge μ h [] (records_in file))
  where
    μ : ℕ
    μ = modulus_in file

    h : Header
    h = header_in file

    by : (b : Judgement) → (left (zero_model μ h) (records_in file) (replicate (length (model_volume (zero_model μ h))) 0) b).answer ≡ says (job_of μ h collecting) b
    by taken = refl
    by (refused_at n place) = refl

pub file_occupied : FileOccupied
file_occupied = record {
  exactly = λ file v shape none cs rest c e.
      let μ = modulus_in file in
      let h = header_in file in
      let j = job_of μ h collecting in
      let a = file_says file v shape none ∙ ap (λ l. says j (judge μ h [] l)) e in
      subst (λ a. ((n place : ℕ) → a ≡ not_opened n place → length cs ≤ place) → ((n : ℕ) → a ≡ not_opened n (length cs) → n ≡ 24) → ((a ≡ not_opened 24 (length cs)) ↔ ((d : FileRecord) × Mem d cs × OneOrbit h d c))) (sym a)
      (λ before only. occupied μ h j cs rest c before only (reach μ h [] cs (c ∷ rest)));
}

-- ---- a file as calls

no_member : {A : Type 0} {i : A} → Mem i [] → ⊥
no_member m = none m

-- F is zero but at the orbits of these indices
abbrev Fresh : {μ : ℕ} → List J → Model μ → Type 0
Fresh {μ} before m = (q : J) → Inside (half m) q → ((i : J) → Mem i before → Off (acts_on μ (half m)) (full (group m)) i q) → factor_of m q ≡ value μ 0 0

-- a record of another orbit is tested as its call is
same_number : {μ : ℕ} (m : Model μ) → LawfulModel m → m.state ≡ collecting → (before : List J) (c : FileRecord) → Fresh before m → ((i : J) → Mem i before → Off (acts_on μ (half m)) (full (group m)) i (index_in c)) →
    first (judge_tests μ m.header.group m.header.lengths before (index_in c) c.a c.b) ≡ first (model_tests m (recording_of c))
same_number {μ} m sound s before c fresh off =
    pass 21 _ (not_t _ (eq-eqb m.state collecting s))
    (same_next _ 10 _ _ (λ w. same_next _ 7 _ _ (λ b. same_next _ 12 _ _ (λ a.
    ap (λ b. first (b ⇒ 24 ∷ [])) (unseen m sound before (index_in c) off ∙ sym (not_t _ ((true_iff (same_value (factor_of m (index_in c)) (value μ 0 0))).1 ((same_iff μ _ _).1 (fresh (index_in c) (within_inside m sound (index_in c) (not-false _ w)) off)))))))))

fresh_next : {μ : ℕ} (m : Model μ) (before : List J) (c : FileRecord) → Fresh before m → Fresh (index_in c ∷ before) (model_next m (recording_of c))
unfolding record_in factor_acts
fresh_next {μ} m before c fresh q n off =
    record_off (factor_action (field_ring μ) (field_star μ) (half m)) (full (group m)) (closed (field_ring μ) (field_star μ) (half m) (group m)) (index_in c) q (value μ c.a c.b) (factor_of m) (off (index_in c) first_of)
    ∙ fresh q n (λ i m. off i (later m))

-- the call of one record, then what follows it
abbrev called_by : (Job → List ℕ → OpenOutcome) → (place : ℕ) → List ℕ → Outcome → OpenOutcome
called_by next place v o =
    elim o.answer [
      | done ↦ next o.job o.volume
      | density n ↦ next o.job o.volume
      | factor x y ↦ next o.job o.volume
      | power n ↦ next o.job o.volume
      | refused n ↦ record { answer = not_opened n place; volume = replicate (length v) 0 }
    ]

as_calls : (before : List J) (cs : List FileRecord) {μ : ℕ} (m : Model μ) → LawfulModel m → m.state ≡ collecting → Fresh before m → DifferentOrbits m.header cs →
    ((i : J) → Mem i before → (d : FileRecord) → Mem d cs → Off (acts_on μ (half m)) (full (group m)) i (index_in d)) → (zeros : List ℕ) → zeros ≡ replicate (length (model_volume m)) 0 →
    called cs (length before) (model_job m) (model_volume m) ≡ left m cs zeros (judged μ m.header.group m.header.lengths before cs)
unfolding called judged record_all_on DifferentOrbits factor_acts model_said model_after
as_calls before [] m sound s fresh different off zeros z = refl
as_calls before (c ∷ cs) {μ} m sound s fresh different off zeros z =
    ap (called_by (called cs (suc (length before))) (length before) (model_volume m)) (one_call m sound (recording_of c)).0
    ∙ by (first (model_tests m (recording_of c))) refl (λ q. as_calls (index_in c ∷ before) cs next (record_sound m sound (index_of c) c.a c.b q) s (fresh_next m before c fresh) different.1 others zeros (z ∙ ap (λ n. replicate n 0) (model_length m ∙ sym (model_length next))))
    ∙ ap (λ n. left m (c ∷ cs) zeros (accepted n (judged μ m.header.group m.header.lengths (index_in c ∷ before) cs) (λ k. refused_at k (length before)))) (sym number)
  where
    next : Model μ
    next = model_next m (recording_of c)

    number : first (judge_tests μ m.header.group m.header.lengths before (index_in c) c.a c.b) ≡ first (model_tests m (recording_of c))
    number = same_number m sound s before c fresh (λ i mi. off i mi c first_of)

    -- a record that is taken leaves what the others begin with
    after : 0 ≡ first (model_tests m (recording_of c)) → (b : Judgement) → left next cs zeros b ≡ left m (c ∷ cs) zeros b
    after e taken = ap (λ v. record { answer = opened (model_job m); volume = record_all_on (group m) (half m) μ cs v }) (sym (record_leaves m sound (index_of c) c.a c.b e))
    after e (refused_at n place) = refl

    others : (i : J) → Mem i (index_in c ∷ before) → (d : FileRecord) → Mem d cs → Off (acts_on μ (half m)) (full (group m)) i (index_in d)
    others = mem_cons (λ i. (d : FileRecord) → Mem d cs → Off (acts_on μ (half m)) (full (group m)) i (index_in d)) (λ d md q mq e. different.0 d md (q, mq, e)) (λ i mi d md. off i mi d (later md))

    by : (k : ℕ) → first (model_tests m (recording_of c)) ≡ k → (0 ≡ first (model_tests m (recording_of c)) → called cs (suc (length before)) (model_job next) (model_volume next) ≡ left next cs zeros (judged μ m.header.group m.header.lengths (index_in c ∷ before) cs)) → called_by (called cs (suc (length before))) (length before) (model_volume m) (result (accepted k done refused) (accepted k next (λ n. m)))
        ≡ left m (c ∷ cs) zeros (accepted k (judged μ m.header.group m.header.lengths (index_in c ∷ before) cs) (λ k. refused_at k (length before)))
    by zero q f = f (sym q) ∙ after (sym q) (judged μ m.header.group m.header.lengths (index_in c ∷ before) cs)
    by (suc k) q f = ap (λ v. record { answer = not_opened (suc k) (length before); volume = v }) (sym z)

pub file_as_calls : FileAsCalls
file_as_calls = record { same = same }
  where
    same : (file v : List ℕ) (j : Job) (w : List ℕ) → 0 ≡ first (shape_tests file) → open_step (modulus_in file) (header_in file) 0 v ≡ record { answer = opened j; volume = w } → DifferentOrbits (header_in file) (records_in file) → file_step file v ≡ called (records_in file) 0 j w
    same file v j w shape e different =
        let μ = modulus_in file in
        let h = header_in file in
        let m : Model μ = zero_model μ h in
        let none = opened_passes {μ = μ} (opening h 0 v) j (ap (λ (o : OpenOutcome). o.answer) e) in
        let g = sym e ∙ opening_gives μ h 0 v none in
        let a : opened j ≡ opened (model_job m) = ap (λ (o : OpenOutcome). o.answer) g in
        let ej : model_job m ≡ j = cc in
        let ew : model_volume m ≡ w = sym (ap (λ (o : OpenOutcome). o.volume) g) in
        file_opened file v refl (sym shape) none
        ∙ feed_left (records_in file) m
        ∙ sym (as_calls [] (records_in file) m (opening_sound μ h 0 v none) refl (λ q n off. refl) different (λ i mi. absurd (no_member mi)) _ refl)
        ∙ λ i. called (records_in file) 0 (ej i) (ew i)
