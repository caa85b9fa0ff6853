-- Records of value zero by calls: one that is taken changes nothing, so that a later record of its orbit is taken too, and its value counts.
use mathlib.Core.Path.{◌≡◌, refl, sym, ◌∙◌, ap, subst}
use mathlib.Core.Logic.{◌↔◌, ◌⊎◌}
use mathlib.Core.Bool.{Bool, true, false, ◌&&◌, not}
use mathlib.Core.List.{List, [], ◌∷◌, ◌++◌}
use Prim.Native.Nat.{ℕ, zero, suc, ◌/◌, ◌%◌}
use native.Mathlib.Omega.{arith}
use lib.Dec.{ltb, eqb}
use borrow.Author.Tests.{not-false, eqb-true, ltb-true, lt-ltb}
use Rattle.algebra.specs.ring.Ring.{gauss, residues}
use Rattle.algebra.specs.cells.Cell.{Inside, Sym, one, full, image_of, flip, factor_acts}
use Rattle.algebra.specs.orbits.Orbit.{Mem}
use Rattle.algebra.proofs.orbits.Orbits.{record_at_lem, orbit_zero}
use Rattle.algebra.proofs.cells.CellSym.{implied_one}
use Rattle.algebra.proofs.cells.CellGroup.{factor_action, closed, implied_zero}
use Rattle.numbers.specs.Value.{prime, value}
use Rattle.numbers.proofs.Values.{field_ring, field_star}
use Rattle.numbers.proofs.Primes.{prime_pos}
use Rattle.refusals.specs.Refusals.{Test, ◌⇒◌, first, accepted}
use Rattle.refusals.specs.Orders.{NoneOf}
use Rattle.refusals.proofs.Tests.{passed, pass, none, stop, not_t, both}
use Rattle.cell.specs.Volume.{group_of}
use Rattle.cell.specs.Consistency.{record_on, record_in, agrees_with_itself, orbit_free}
use Rattle.cell.proofs.Records.{agrees_iff}
use Rattle.cell.proofs.ZeroRecords.{zero_record}
use Rattle.cell.proofs.ZeroSlots.{slot_free}
use Rattle.header.proofs.Headers.{all_three}
use Rattle.job.specs.declared.Job.{Job}
use Rattle.job.specs.declared.Reflection.{Reflection}
use Rattle.job.specs.Job.{Header, half_lengths, collecting, header_of, valid_job, group_in, halves, as_long, within, index, done, refused, Said, Outcome, unchanged, own_tests, orbit_tests, record_tests, record_step}
use Rattle.job.proofs.Jobs.{valid_job_sizes}
use Rattle.job.proofs.SaidNumbers.{said_says}
use Rattle.model.specs.Model.{Model, group, half, factor_of, Call, recording, model_tests, model_said, model_after, model_next, model_job, model_volume}
use Rattle.model.proofs.Sound.{LawfulModel, halves_positive, within_inside}
use Rattle.demands.specs.Demands.{model_end, Ran, LaterValueCounts}
use Rattle.refusals.proofs.Orders.{other_first}
use Rattle.demands.proofs.Corollaries.{not_this, record_said}
use Rattle.demands.proofs.Lists.{end_sound, end_header}
use Rattle.demands.proofs.Starts.{started_sound, started_runs}
use Rattle.demands.proofs.AcceptedRecords.{record_fits, fits_passes}

-- a number that refuses nothing
done_number : (n : ℕ) → accepted n done refused ≡ done → 0 ≡ n
done_number zero e = refl
done_number (suc n) e = let z : ◌≡◌ {A = ℕ} 0 1 = cc in absurd (omega arith)

-- ---- on any job and volume

module _ (j : Job) (k : Reflection) (v : List ℕ) where
  abbrev zero_tests : List Test
  zero_tests = record_tests j (index k) 0 0 v

  zero_unchanged : (record_step j k 0 0 v).answer ≡ done → record_step j k 0 0 v ≡ record { answer = done; job = j; volume = v }
  unfolding record_step gauss residues
  zero_unchanged e = by (first zero_tests) refl e
    where
      written : List ℕ
      written = record_on (group_in j) (halves j) j.modulus (index k) (value j.modulus 0 0) v

      by : (n : ℕ) → first zero_tests ≡ n → (accepted {O = Outcome} n (record { answer = done; job = j; volume = written }) (unchanged j v)).answer ≡ done → accepted {O = Outcome} n (record { answer = done; job = j; volume = written }) (unchanged j v) ≡ record { answer = done; job = j; volume = v }
      by zero q e = ap (λ (w : List ℕ). record { answer = done; job = j; volume = w }) (zero_record (group_in j) (halves j) j.modulus v (index k) (not-false _ (passed zero_tests tt (sym q)).1.1.1.1.1.1.0))
      by (suc n) q e = let z : ◌≡◌ {A = ℕ} 0 1 = cc in absurd (omega arith)

  agrees : valid_job j ≡ true → agrees_with_itself (group_in j) (halves j) j.modulus (index k) (value j.modulus 0 0) ≡ true
  unfolding gauss residues
  agrees valid =
      let s = valid_job_sizes j valid in
      (agrees_iff (group_in j) (halves j) (s.first.positive, s.second.positive, s.third.positive) j.modulus (index k) (value j.modulus 0 0)).1 (λ q mq e. implied_zero (field_ring j.modulus) (field_star j.modulus) (halves j) q (index k))

  zero_agrees : (record_step j k 0 0 v).answer ≡ refused 12 → ⊥
  unfolding record_step
  zero_agrees e = by (valid_job j) agrees (number (first zero_tests) _ e)
    where
      number : (n : ℕ) (w : List ℕ) → (accepted {O = Outcome} n (record { answer = done; job = j; volume = w }) (unchanged j v)).answer ≡ refused 12 → n ≡ 12
      number zero w e = let z : ◌≡◌ {A = ℕ} 0 1 = cc in absurd (omega arith)
      number (suc n) w e = cc

      rest : List Test
      rest = orbit_tests j.group (header_of j).lengths (index k) v

      last : (a : Bool) → a ≡ true → first (not a ⇒ 12 ∷ rest) ≡ 12 → ⊥
      last a q e = let z : first rest ≡ 12 = pass 12 rest (not_t a q) refl ∙ e in other_first 11 rest tt z

      by : (b : Bool) → (b ≡ true → agrees_with_itself (group_in j) (halves j) j.modulus (index k) (value j.modulus 0 0) ≡ true) → first (not b ⇒ 25 ∷ not (eqb j.state collecting) ⇒ 21 ∷ (own_tests j.modulus j.group (header_of j).lengths (index k) 0 0 ++ rest)) ≡ 12 → ⊥
      by true f e = last _ (f refl) (not_this _ 7 12 _ (λ q. omega arith) (not_this _ 10 12 _ (λ q. omega arith) (not_this _ 21 12 _ (λ q. omega arith) (not_this false 25 12 _ (λ q. omega arith) e))))
      by false f e = let z : ◌≡◌ {A = ℕ} 25 12 = stop _ refl ∙ e in omega arith

-- ---- Pa's zero slots

-- a test that is not the first to hold does not hold
settled : (b : Bool) (n : ℕ) (ts : List Test) → (first (not b ⇒ n ∷ ts) ≡ n → ⊥) → b ≡ true
unfolding first
settled true n ts f = refl
settled false n ts f = absurd (f refl)

module _ (j : Job) (k : Reflection) (v : List ℕ) where
  abbrev zero_answer : Said
  zero_answer = (record_step j k 0 0 v).answer

  zero_says : (n : ℕ) → (first (record_tests j (index k) 0 0 v) ≡ suc n) ↔ (zero_answer ≡ refused (suc n))
  unfolding record_step
  zero_says = said_says (λ (o : Outcome). o.answer) _ _ refl (λ n. refl) (first (record_tests j (index k) 0 0 v))

  zero_done : 0 ≡ first (record_tests j (index k) 0 0 v) → zero_answer ≡ done
  unfolding record_step
  zero_done e =
      let written = record_on (group_in j) (halves j) j.modulus (index k) (value j.modulus 0 0) v in
      ap (λ n. (accepted {O = Outcome} n (record { answer = done; job = j; volume = written }) (unchanged j v)).answer) (sym e)

  inside_of : valid_job j ≡ true → within (header_of j).lengths (index k) ≡ true → Inside (halves j) (index k)
  inside_of valid e =
      let s = valid_job_sizes j valid in
      let t = all_three (ltb k.0 j.a.length) (ltb k.1 j.b.length) (ltb k.2 j.c.length) e in
      (rw s.first.whole (ltb-true _ _ t.0), rw s.second.whole (ltb-true _ _ t.1), rw s.third.whole (ltb-true _ _ t.2))

  slot_vacant : j.group ≡ 3 → k.0 % 2 ≡ 1 → (k.2 ≡ 0) ⊎ (k.2 ≡ j.c.length / 2) → valid_job j ≡ true → within (header_of j).lengths (index k) ≡ true →
      orbit_free (group_of j.group) (half_lengths (header_of j).lengths) v (index k) ≡ true
  slot_vacant g odd end valid within =
      let s = valid_job_sizes j valid in
      ap (λ n. orbit_free (group_of n) (half_lengths (header_of j).lengths) v (index k)) g
      ∙ slot_free (halves j) (s.first.positive, s.second.positive, s.third.positive) v (index k) (inside_of valid within) odd end

  zero_slot : j.group ≡ 3 → k.0 % 2 ≡ 1 → (k.2 ≡ 0) ⊎ (k.2 ≡ j.c.length / 2) → NoneOf refused (25 ∷ 21 ∷ 10 ∷ 6 ∷ []) zero_answer → zero_answer ≡ done
  zero_slot g odd end given =
      let n = (header_of j).lengths in
      let residues : (ltb 0 (prime j.modulus) && ltb 0 (prime j.modulus)) ≡ true = λ i. lt-ltb 0 _ (prime_pos j.modulus) i && lt-ltb 0 _ (prime_pos j.modulus) i in
      let six = orbit_tests j.group n (index k) v in
      let twelve = not (agrees_with_itself (group_of j.group) (half_lengths n) j.modulus (index k) (value j.modulus 0 0)) ⇒ 12 ∷ six in
      let seven = not (ltb 0 (prime j.modulus) && ltb 0 (prime j.modulus)) ⇒ 7 ∷ twelve in
      let ten = not (within n (index k)) ⇒ 10 ∷ seven in
      let twentyone = not (eqb j.state collecting) ⇒ 21 ∷ ten in
      let valid = settled (valid_job j) 25 twentyone (λ e. given.0 ((zero_says 24).0 e)) in
      let p = pass {m = first twentyone} 25 twentyone (not_t _ valid) refl in
      let state = settled (eqb j.state collecting) 21 ten (λ e. given.1.0 ((zero_says 20).0 (sym p ∙ e))) in
      let q = pass {m = first ten} 21 ten (not_t _ state) refl ∙ p in
      let inner = settled (within n (index k)) 10 seven (λ e. given.1.1.0 ((zero_says 9).0 (sym q ∙ e))) in
      let r = pass {m = first six} 12 six (not_t _ (agrees j k v valid)) refl ∙ pass {m = first twelve} 7 twelve (not_t _ residues) refl ∙ pass {m = first seven} 10 seven (not_t _ inner) refl ∙ q in
      let long = settled (as_long j.group n v) 6 (not (orbit_free (group_of j.group) (half_lengths n) v (index k)) ⇒ 24 ∷ []) (λ e. given.1.1.1.0 ((zero_says 5).0 (sym r ∙ e))) in
      zero_done (pass 6 _ (not_t _ long) (pass 24 [] (not_t _ (slot_vacant g odd end valid inner)) none) ∙ r)

-- ---- after any list of calls

-- a call at the end of a list
end_append : {μ : ℕ} (m : Model μ) (l : List Call) (c : Call) → model_end m (l ++ c ∷ []) ≡ model_after (model_end m l) c
unfolding model_end
end_append m [] c = refl
end_append m (d ∷ l) c = end_append (model_after m d) l c

module _ {μ : ℕ} (m : Model μ) (sound : LawfulModel m) where
  accepted_number : (k : Reflection) (x y : ℕ) → (record_step (model_job m) k x y (model_volume m)).answer ≡ done → 0 ≡ first (model_tests m (recording k x y))
  unfolding model_said
  accepted_number k x y e = done_number _ (sym (record_said m sound k x y) ∙ e)

  -- a zero was taken: F is zero on its orbit, and a record there is taken
  taken_after : (k k' : Reflection) (q : Sym) → Mem q (full (group m)) → image_of (half m) q (index k) ≡ index k' → (x y : ℕ) → (record_step (model_job m) k 0 0 (model_volume m)).answer ≡ done →
      0 ≡ first (own_tests μ m.header.group m.header.lengths (index k') x y) → (record_step (model_job m) k' x y (model_volume m)).answer ≡ done
  unfolding model_said factor_acts gauss residues
  taken_after k k' q mq e x y took own =
      let z = accepted_number k 0 0 took in
      let f = (record_fits m sound k 0 0 z).1 in
      let t = passed (own_tests μ m.header.group m.header.lengths (index k') x y) tt own in
      let b = both (ltb x (prime μ)) (ltb y (prime μ)) (not-false _ t.1.0) in
      let free = ap (factor_of m) (sym e) ∙ (orbit_zero (factor_action (field_ring μ) (field_star μ) (half m)) (full (group m)) (closed (field_ring μ) (field_star μ) (half m) (group m)) q (index k) (factor_of m) f.0 mq sound.lawful).1 f.2 in
      let state = eqb-true m.state collecting (not-false _ (passed (model_tests m (recording k 0 0)) tt z).0) in
      let n = fits_passes m sound state k' x y (ltb-true x (prime μ) b.0, ltb-true y (prime μ) b.1) (within_inside m sound (index k') (not-false _ t.0), (agrees_iff (group m) (half m) (halves_positive m sound) μ (index k') (value μ x y)).0 (not-false _ t.1.1.0), free) in
      record_said m sound k' x y ∙ ap (λ n. accepted n done refused) (sym n)

  counts_after : (k : Reflection) (x y : ℕ) → (record_step (model_job m) k x y (model_volume m)).answer ≡ done → factor_of (model_after m (recording k x y)) (index k) ≡ value μ x y
  unfolding model_after record_in factor_acts image_of flip
  counts_after k x y e =
      let z = accepted_number k x y e in
      let f = (record_fits m sound k x y z).1 in
      ap (λ n. factor_of (accepted n (model_next m (recording k x y)) (λ n. m)) (index k)) (sym z)
      ∙ record_at_lem (factor_action (field_ring μ) (field_star μ) (half m)) (full (group m)) (closed (field_ring μ) (field_star μ) (half m) (group m)) one (index k) (value μ x y) (factor_of m) f.0 (closed (field_ring μ) (field_star μ) (half m) (group m)).has_one f.1
      ∙ implied_one (field_ring μ) (field_star μ) (index k) (value μ x y)

pub later_value_counts : LaterValueCounts
later_value_counts = record {
  unchanged = zero_unchanged;
  zero_slot = zero_slot;
  agrees = zero_agrees;
  taken = λ μ s j v m started l k k' q mq e x y took own.
      let sound = end_sound m (started_sound s j v m started).0 l in
      let ran = started_runs s j v m started l in
      let h = subst (λ (h : Header). (Mem q (full (group_of h.group)) × (image_of (half_lengths h.lengths) q (index k) ≡ index k')) × (0 ≡ first (own_tests μ h.group h.lengths (index k') x y))) (sym (end_header m l)) ((mq, e), own) in
      ap (λ (r : Ran). (record_step r.job k' x y r.volume).answer) ran
      ∙ taken_after (model_end m l) sound k k' q h.0.0 h.0.1 x y (sym (ap (λ (r : Ran). (record_step r.job k 0 0 r.volume).answer) ran) ∙ took) h.1;
  counts = λ μ s j v m started l k x y e.
      let sound = end_sound m (started_sound s j v m started).0 l in
      let ran = started_runs s j v m started l in
      ap (λ n. factor_of n (index k)) (end_append m l (recording k x y)) ∙ counts_after (model_end m l) sound k x y (sym (ap (λ (r : Ran). (record_step r.job k x y r.volume).answer) ran) ∙ e);
}
