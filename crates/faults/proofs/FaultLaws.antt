-- The records at fault: what the walks find of a file settles what is made of its records.
use mathlib.Core.Path.{◌≡◌, refl, sym, ◌∙◌, ap, subst}
use mathlib.Core.Logic.{◌↔◌}
use mathlib.Core.Bool.{Bool, true, false, ◌||◌, ◌&&◌, not, cond}
use mathlib.Core.List.{List, [], ◌∷◌, map}
use Prim.Native.Nat.{ℕ, zero, suc, ◌+◌, ◌*◌, ◌-◌, ◌<◌, ◌≤◌}
use native.Mathlib.Omega.{arith}
use native.Mathlib.Decide.{ℕ_discrete}
use lib.Dec.{T, eqb, ltb}
use lib.ListN.{length, get_or, replicate}
use borrow.Author.Tests.{not-false, eq-eqb, ne_eqb, leb-false, ltb-false, eqb-true}
use Rattle.algebra.specs.cells.Cell.{J, Inside, Group, some, same_orbit}
use Rattle.algebra.specs.orbits.Orbit.{Mem, first as first_of, later}
use Rattle.algebra.proofs.ring.Bool.{same_test, some_at, some_by}
use Rattle.algebra.proofs.ring.Members.{none as no_member, mem_cons}
use Rattle.refusals.specs.declared.Refusal.{Refusal}
use Rattle.refusals.specs.Refusals.{number_of, first, accepted}
use Rattle.refusals.proofs.Tests.{pass, none, stop, passed, append_stop, fails, passes}
use Rattle.bits.specs.Set.{in_set, Inserted}
use Rattle.cell.specs.Volume.{volume_length}
use Rattle.cell.specs.declared.operations.UnitCell.{UnitCell}
use Rattle.cell.specs.declared.operations.Index.{Index}
use Rattle.cell.specs.Operations.{cell_group, cell_halves, cell_lengths, triple_of, Sizes, Within}
use Rattle.cell.proofs.OrbitPlaces.{orbit_place_low, same_place}
use Rattle.cell.specs.Consistency.{agrees_with_itself}
use Rattle.numbers.specs.Value.{prime, IsModulus, value}
use Rattle.numbers.proofs.ModulusCases.{tested_modulus}
use Rattle.job.specs.declared.Job.{Job}
use Rattle.job.specs.Job.{within, own_tests, collecting, job_of, opened, not_opened, OpenOutcome, open_tests, open_step}
use Rattle.header.specs.Header.{Header, needed, axis_tests}
use Rattle.header.specs.Cells.{header_cell}
use Rattle.header.proofs.Headers.{sound_sizes}
use Rattle.job.proofs.check.Points.{within_of}
use Rattle.job.proofs.check.Openings.{header_passed}
use Rattle.file_format.specs.declared.FileRecord.{FileRecord}
use Rattle.file_format.specs.Format.{count_at, record_count, record_at, records_from, records_in, modulus_in, header_in, shape_tests}
use Rattle.file_format.specs.declared.places.HeaderNumbers.{HeaderNumbers}
use Rattle.file_format.specs.Places.{NumbersOf}
use Rattle.factor_file.specs.File.{index_in, orbit_seen, judge_tests, Judgement, taken, refused_at, judged}
use Rattle.faults.specs.Faults.{header_tests, first_of_orbit, record_faults, faults_in}
use Rattle.faults.specs.FaultSteps.{record_place, own_number, place_of, own_at, place_at, SoundTo, Apart, FirstOf, range, Noted}
use Rattle.factor_file.proofs.Judging.{cell_positive, cell_inside}

-- ---- a place noted

module _ (low place : ℕ) (s : List ℕ) where
  pub noted_out : ((k : ℕ) → k < range → low + k ≡ place → ⊥) → Noted low place s false s
  noted_out n = record {
    hit = λ e. let z : ◌≡◌ {A = ℕ} 0 1 = cc in absurd (omega arith);
    miss = λ e l h. absurd (n (place - low) (omega arith) (omega arith));
    each = λ k h. ap (λ b. b || in_set s k) (sym (ne_eqb (low + k) place (n k h)));
  }

  pub noted_in : low ≤ place → place < low + range → {seen : Bool} {s' : List ℕ} → seen ≡ in_set s (place - low) → Inserted (place - low) s s' → Noted low place s seen s'
  noted_in l h q i = record { hit = λ e. (l, h, sym q ∙ e); miss = λ e l h. sym q ∙ e; each = λ k h. i.each k ∙ ap (λ b. b || in_set s k) (moved k (ℕ_discrete k (place - low))) }
    where
      moved : (k : ℕ) → Dec (k ≡ place - low) → eqb k (place - low) ≡ eqb (low + k) place
      moved k (yes e) = eq-eqb k (place - low) e ∙ sym (eq-eqb (low + k) place (omega arith))
      moved k (no n) = ne_eqb k (place - low) n ∙ sym (ne_eqb (low + k) place (λ e. n (omega arith)))

-- ---- a record that its own numbers do not refuse

pub own_tested : (μ : ℕ) (c : UnitCell) (r : FileRecord) → 0 ≡ own_number μ c r → within (cell_lengths c) (index_in r) ≡ true
unfolding own_number
own_tested μ c r e = not-false _ (passed (own_tests μ c.group (cell_lengths c) (index_in r) r.a r.b) tt e).0

pub record_within : (c : UnitCell) (r : FileRecord) (j : Index) → triple_of j ≡ index_in r → within (cell_lengths c) (index_in r) ≡ true → Within c j
record_within c r j e o = within_of c j (ap (within (cell_lengths c)) e ∙ o)

pub own_not_24 : (μ : ℕ) (c : UnitCell) (r : FileRecord) → own_number μ c r ≡ 24 → ⊥
unfolding own_number first
own_not_24 μ c r e = by (not (within (cell_lengths c) (index_in r))) (not (ltb r.a (prime μ) && ltb r.b (prime μ))) (not (agrees_with_itself (cell_group c) (cell_halves c) μ (index_in r) (value μ r.a r.b))) e
  where
    by : (b d f : Bool) → ◌≡◌ {A = ℕ} (cond b 10 (cond d 7 (cond f 12 0))) 24 → ⊥
    by true d f e = omega (arith, e)
    by false true f e = omega (arith, e)
    by false false true e = omega (arith, e)
    by false false false e = omega (arith, e)

cond_yes : {A : Type 0} (b : Bool) (x y : A) → T b → cond b x y ≡ x
cond_yes true x y t = refl
cond_yes false x y t = absurd t

cond_no : {A : Type 0} (b : Bool) (x y : A) → (T b → ⊥) → cond b x y ≡ y
cond_no true x y n = absurd (n tt)
cond_no false x y n = refl

pub refused_by : {O : Type 0} (n : ℕ) (o : O) (f : ℕ → O) → (n ≡ 0 → ⊥) → accepted n o f ≡ f n
refused_by zero o f z = absurd (z refl)
refused_by (suc n) o f z = refl

-- ---- the records by their places

module _ (μ : ℕ) (c : UnitCell) (file : List ℕ) where
  abbrev at : ℕ → FileRecord
  at i = record_at file (record_place file i)

  abbrev ix : ℕ → J
  ix i = index_in (at i)

  abbrev g : Group
  g = cell_group c

  abbrev a : J
  a = cell_halves c

  -- the indices before place r, the last first
  unfoldable before : ℕ → List J
  before zero = []
  before (suc r) = ix r ∷ before r

  before_length : (r : ℕ) → length (before r) ≡ r
  unfolding before
  before_length zero = refl
  before_length (suc r) = ap suc (before_length r)

  before_at : (r : ℕ) (i : J) → Mem i (before r) → (k : ℕ) × (k < r) × (i ≡ ix k)
  unfolding before
  before_at zero i m = no_member m
  before_at (suc r) i m = mem_cons (λ i. (k : ℕ) × (k < suc r) × (i ≡ ix k)) (r, omega arith, refl) (λ i m. let p = before_at r i m in (p.0, omega (arith, p.1), p.2)) i m

  in_before : (r k : ℕ) → k < r → Mem (ix k) (before r)
  unfolding before
  in_before zero k l = absurd (omega arith)
  in_before (suc r) k l = by (ℕ_discrete k r) (in_before r k)
    where
      by : Dec (k ≡ r) → (k < r → Mem (ix k) (before r)) → Mem (ix k) (ix r ∷ before r)
      by (yes e) f = subst (λ n. Mem (ix n) (ix r ∷ before r)) (sym e) first_of
      by (no n) f = later (f (omega arith))

  abbrev seen : ℕ → Bool
  seen r = some (before r) (λ i. same_orbit g a i (ix r))

  abbrev number : ℕ → ℕ
  number r = first (judge_tests μ c.group (cell_lengths c) (before r) (ix r) (at r).a (at r).b)

  abbrev left : ℕ → List FileRecord
  left r = records_from file (record_place file r) (record_count file - r)

  abbrev judged_from : ℕ → Judgement
  judged_from r = judged μ c.group (cell_lengths c) (before r) (left r)

  abbrev whole : Judgement
  whole = judged μ c.group (cell_lengths c) [] (records_in file)

  then_orbit : (r : ℕ) → 0 ≡ own_at μ c file r → {n : ℕ} → n ≡ first (orbit_seen c.group (cell_lengths c) (before r) (ix r)) → n ≡ number r
  unfolding own_number
  then_orbit r e q = let p = passed (own_tests μ c.group (cell_lengths c) (ix r) (at r).a (at r).b) tt e in pass 10 _ p.0 (pass 7 _ p.1.0 (pass 12 _ p.1.1.0 q))

  first_left : (r : ℕ) → r < record_count file → left r ≡ at r ∷ left (suc r)
  unfolding records_from
  first_left r l =
      let n : record_count file - r ≡ suc (record_count file - suc r) = omega arith in
      let p : record_place file r + 14 ≡ record_place file (suc r) = omega arith in
      ap (records_from file (record_place file r)) n ∙ ap (λ q. at r ∷ records_from file q (record_count file - suc r)) p

  step : (r : ℕ) → r < record_count file → judged_from r ≡ accepted (number r) (judged_from (suc r)) (λ k. refused_at k r)
  unfolding judged before
  step r l = ap (judged μ c.group (cell_lengths c) (before r)) (first_left r l) ∙ ap (λ n. accepted (number r) (judged_from (suc r)) (λ k. refused_at k n)) (before_length r)

  module _ (sizes : Sizes c) where
    pub own_inside : (i : ℕ) → 0 ≡ own_at μ c file i → Inside a (ix i)
    own_inside i e = cell_inside sizes {j = record { h = (at i).h; k = (at i).k; l = (at i).l }} (record_within c (at i) (record { h = (at i).h; k = (at i).k; l = (at i).l }) refl (own_tested μ c (at i) e))

    pub same_orbit_lem : (i j : ℕ) → 0 ≡ own_at μ c file i → 0 ≡ own_at μ c file j → (place_at c file i ≡ place_at c file j) ↔ T (same_orbit g a (ix i) (ix j))
    unfolding place_of
    same_orbit_lem i j e f = same_place g a (cell_positive sizes) (ix i) (ix j) (own_inside i e) (own_inside j f)

    pub place_low : (i : ℕ) → 0 ≡ own_at μ c file i → place_at c file i < volume_length g a
    unfolding place_of
    place_low i e = orbit_place_low g a (cell_positive sizes) (ix i) (own_inside i e)

    unseen : (r : ℕ) → ((i : ℕ) → i < suc r → 0 ≡ own_at μ c file i) → ((k : ℕ) → k < r → place_at c file k ≡ place_at c file r → ⊥) → seen r ≡ false
    unseen r s n = same_test (seen r) false (λ t.
        let p = some_at (before r) _ t in
        let m = before_at r p.0 p.1 in
        n m.0 m.1 ((same_orbit_lem m.0 r (s m.0 (omega (arith, m.1))) (s r (omega arith))).1 (subst (λ i. T (same_orbit g a i (ix r))) m.2 p.2))) (λ t. absurd t)

    is_seen : (r k : ℕ) → k < r → 0 ≡ own_at μ c file k → 0 ≡ own_at μ c file r → place_at c file k ≡ place_at c file r → seen r ≡ true
    is_seen r k l e f q = same_test (seen r) true (λ t. tt) (λ t. some_by (before r) _ (ix k) (in_before r k l) ((same_orbit_lem k r e f).0 q))

    judged_to : (r : ℕ) → r ≤ record_count file → ((i : ℕ) → i < r → 0 ≡ own_at μ c file i) → ((k i : ℕ) → k < i → i < r → place_at c file k ≡ place_at c file i → ⊥) → whole ≡ judged_from r
    unfolding before
    judged_to zero l s n =
        let q : count_at file + 4 ≡ record_place file 0 = omega arith in
        let m : record_count file ≡ record_count file - 0 = omega arith in
        λ i. judged μ c.group (cell_lengths c) [] (records_from file (q i) (m i))
    judged_to (suc r) l s n =
        let z = then_orbit r (s r (omega arith)) (pass 24 _ (unseen r s (λ k h. n k r h (omega arith))) none) in
        judged_to r (omega arith) (λ i h. s i (omega arith)) (λ k i h u. n k i h (omega arith)) ∙ step r (omega arith) ∙ ap (λ n. accepted n (judged_from (suc r)) (λ k. refused_at k r)) (sym z)

    -- ---- what is made of them

    module _ (r : ℕ) (sound : SoundTo μ c file r) (apart : Apart c file 0 (volume_length g a) r) where
      judged_here : whole ≡ judged_from r
      judged_here = judged_to r sound.some sound.each (λ k i l h e. apart.each k i l h (omega arith) (place_low i (sound.each i h)) e)

      pub all_taken : r ≡ record_count file → whole ≡ taken
      unfolding judged records_from
      all_taken e = let n : record_count file - r ≡ 0 = omega arith in judged_here ∙ ap (λ n. judged μ c.group (cell_lengths c) (before r) (records_from file (record_place file r) n)) n

      pub own_refused : r < record_count file → (own_at μ c file r ≡ 0 → ⊥) → whole ≡ refused_at (own_at μ c file r) r
      unfolding own_number
      own_refused l z =
          let n = append_stop (own_tests μ c.group (cell_lengths c) (ix r) (at r).a (at r).b) (orbit_seen c.group (cell_lengths c) (before r) (ix r)) z refl in
          judged_here ∙ step r l ∙ ap (λ n. accepted n (judged_from (suc r)) (λ k. refused_at k r)) (sym n) ∙ refused_by _ _ (λ k. refused_at k r) z

      pub orbit_refused : r < record_count file → 0 ≡ own_at μ c file r → (k : ℕ) → k < r → place_at c file k ≡ place_at c file r → whole ≡ refused_at 24 r
      orbit_refused l e k h q =
          let n = then_orbit r e (stop _ (is_seen r k h (sound.each k h) e q)) in
          judged_here ∙ step r l ∙ ap (λ n. accepted n (judged_from (suc r)) (λ k. refused_at k r)) (sym n)

    -- ---- the records at fault

    abbrev pub faults_by : Judgement → List ℕ
    faults_by j = elim j [ taken ↦ [] | refused_at k r ↦ cond (eqb k 24) (first_of_orbit g a (get_or (map index_in (records_in file)) r (0, 0, 0)) (map index_in (records_in file)) ∷ r ∷ []) (r ∷ []) ]

    index_in_lem : (q n i : ℕ) → i < n → get_or (map index_in (records_from file q n)) i (0, 0, 0) ≡ index_in (record_at file (q + 14 * i))
    unfolding records_from
    index_in_lem q zero i l = absurd (omega arith)
    index_in_lem q (suc n) zero l = let e : q ≡ q + 14 * 0 = omega arith in ap (λ q. index_in (record_at file q)) e
    index_in_lem q (suc n) (suc i) l = let e : q + 14 + 14 * i ≡ q + 14 * suc i = omega arith in index_in_lem (q + 14) n i (omega arith) ∙ ap (λ q. index_in (record_at file q)) e

    first_in : (j : J) (q n f : ℕ) → f < n → T (same_orbit g a (index_in (record_at file (q + 14 * f))) j) → ((k : ℕ) → k < f → T (same_orbit g a (index_in (record_at file (q + 14 * k))) j) → ⊥) → first_of_orbit g a j (map index_in (records_from file q n)) ≡ f
    unfolding records_from first_of_orbit
    first_in j q zero f l t u = absurd (omega arith)
    first_in j q (suc n) zero l t u = let e : q + 14 * 0 ≡ q = omega arith in cond_yes (same_orbit g a (index_in (record_at file q)) j) 0 (suc (first_of_orbit g a j (map index_in (records_from file (q + 14) n)))) (subst (λ q. T (same_orbit g a (index_in (record_at file q)) j)) e t)
    first_in j q (suc n) (suc f) l t u =
        let z : q ≡ q + 14 * 0 = omega arith in
        let e : q + 14 * suc f ≡ q + 14 + 14 * f = omega arith in
        cond_no (same_orbit g a (index_in (record_at file q)) j) 0 (suc (first_of_orbit g a j (map index_in (records_from file (q + 14) n)))) (λ s. u 0 (omega arith) (subst (λ q. T (same_orbit g a (index_in (record_at file q)) j)) z s))
        ∙ ap suc (first_in j (q + 14) n f (omega arith) (subst (λ q. T (same_orbit g a (index_in (record_at file q)) j)) e t)
        (λ k h s. let p : q + 14 + 14 * k ≡ q + 14 * suc k = omega arith in u (suc k) (omega arith) (subst (λ q. T (same_orbit g a (index_in (record_at file q)) j)) p s)))

    module _ (r : ℕ) (sound : SoundTo μ c file r) (apart : Apart c file 0 (volume_length g a) r) where
      pub faults_none : r ≡ record_count file → [] ≡ record_faults μ c.group (cell_lengths c) (records_in file)
      unfolding record_faults
      faults_none e = sym (ap faults_by (all_taken r sound apart e))

      pub faults_one : r < record_count file → (own_at μ c file r ≡ 0 → ⊥) → r ∷ [] ≡ record_faults μ c.group (cell_lengths c) (records_in file)
      unfolding record_faults
      faults_one l z = sym (ap faults_by (own_refused r sound apart l z) ∙ ap (λ b. cond b (first_of_orbit g a (get_or (map index_in (records_in file)) r (0, 0, 0)) (map index_in (records_in file)) ∷ r ∷ []) (r ∷ [])) (ne_eqb _ 24 (own_not_24 μ c (at r))))

      pub faults_two : r < record_count file → 0 ≡ own_at μ c file r → (k : ℕ) × (k < r) × (place_at c file k ≡ place_at c file r) → (f : ℕ) → FirstOf c file r f → f ∷ r ∷ [] ≡ record_faults μ c.group (cell_lengths c) (records_in file)
      unfolding record_faults
      faults_two l e m f o =
          let sounds : (i : ℕ) → i ≤ r → 0 ≡ own_at μ c file i = λ i h. by i h (ℕ_discrete i r) in
          let j : get_or (map index_in (records_in file)) r (0, 0, 0) ≡ ix r = index_in_lem (count_at file + 4) (record_count file) r l in
          let first_is = first_in (ix r) (count_at file + 4) (record_count file) f (omega (arith, o.some))
          ((same_orbit_lem f r (sounds f o.some) e).0 o.same)
          (λ k h t. o.before k h ((same_orbit_lem k r (sounds k (omega (arith, o.some))) e).1 t)) in
          sym (ap faults_by (orbit_refused r sound apart l e m.0 m.1 m.2) ∙ ap (λ f. f ∷ r ∷ []) (ap (λ j. first_of_orbit g a j (map index_in (records_in file))) j ∙ first_is))
        where
          by : (i : ℕ) → i ≤ r → Dec (i ≡ r) → 0 ≡ own_at μ c file i
          by i h (yes q) = subst (λ i. 0 ≡ own_at μ c file i) (sym q) e
          by i h (no n) = sound.each i (omega arith)

-- ---- the file

-- a header that is not refused
pub record SoundHeader (μ : ℕ) (h : Header) : Type 0 where
  pub group : h.group < 5
  pub modulus : IsModulus μ
  pub axes : 0 ≡ first (axis_tests h)
  pub sizes : Sizes (header_cell h)
  pub near : needed h ≤ 16777216

pub header_sound : (μ : ℕ) (h : Header) → 0 ≡ first (header_tests μ h) → SoundHeader μ h
header_sound μ h e =
    let t = passed (header_tests μ h) tt e in
    let own = t.1.1 in
    let axes = pass 3 _ own.0 (pass 4 _ own.1.0 (pass 5 _ own.1.1.0 (pass 9 _ own.1.1.1.0 none))) in
    record { group = leb-false _ _ t.0; modulus = tested_modulus μ (not-false _ t.1.0); axes = axes; sizes = sound_sizes h axes (leb-false _ _ t.0); near = ltb-false _ _ own.1.1.1.0 }

-- an opening that gives a job has passed its tests: those of the header, whatever is tested of a file's, and the volume is as long as it must be
pub open_tested : (μ : ℕ) (h : Header) (v : List ℕ) (j : Job) → (open_step μ h 0 v).answer ≡ opened j → 0 ≡ first (open_tests μ h 0 v)
unfolding open_step
open_tested μ h v j e = by (first (open_tests μ h 0 v)) refl e
  where
    by : (n : ℕ) → first (open_tests μ h 0 v) ≡ n → (accepted {O = OpenOutcome} n (record { answer = opened (job_of μ h collecting); volume = replicate (length v) 0 }) (λ n. record { answer = not_opened n 0; volume = v })).answer ≡ opened j → 0 ≡ first (open_tests μ h 0 v)
    by zero q e = sym q
    by (suc n) q e = let z : ◌≡◌ {A = ℕ} 0 1 = cc in absurd (omega arith)

pub header_opened : (μ : ℕ) (h : Header) (v : List ℕ) (j : Job) → (open_step μ h 0 v).answer ≡ opened j → 0 ≡ first (header_tests μ h)
header_opened μ h v j e =
    let o = open_tested μ h v j e in
    let t = passed (open_tests μ h 0 v) tt o in
    pass 8 _ t.0 (pass 26 _ t.1.0 (header_passed μ h 0 v o))

pub long_opened : (μ : ℕ) (h : Header) (v : List ℕ) (j : Job) → (open_step μ h 0 v).answer ≡ opened j → length v ≡ needed h
long_opened μ h v j e = let t = passed (open_tests μ h 0 v) tt (open_tested μ h v j e) in eqb-true _ _ (not-false _ t.1.1.1.1.1.1.1.0)

-- the cell that the code holds
pub cell_of_lem : {file : List ℕ} {h : HeaderNumbers} → NumbersOf file h → header_cell (header_in file) ≡ h.cell
cell_of_lem n = λ i. record { group = sym n.group i; n1 = sym n.first i; n2 = sym n.second i; n3 = sym n.third i }

module _ (file : List ℕ) where
  pub shape_faults : (r : Refusal) → number_of r ≡ first (shape_tests file) → [] ≡ faults_in file
  unfolding faults_in
  shape_faults r e = fails {O = List ℕ} r _ _ (λ n. []) e

  module _ (sound : 0 ≡ first (shape_tests file)) where
    pub header_faults : (r : Refusal) → number_of r ≡ first (header_tests (modulus_in file) (header_in file)) → [] ≡ faults_in file
    unfolding faults_in
    header_faults r e = fails {O = List ℕ} r _ (record_faults (modulus_in file) (header_in file).group (header_in file).lengths (records_in file)) (λ n. []) e ∙ passes _ _ (λ n. []) sound

    pub records_fault : 0 ≡ first (header_tests (modulus_in file) (header_in file)) → {h : HeaderNumbers} → NumbersOf file h → {o : List ℕ} → o ≡ record_faults h.modulus h.cell.group (cell_lengths h.cell) (records_in file) → o ≡ faults_in file
    unfolding faults_in
    records_fault h n e =
        let cell = sym (cell_of_lem n) in
        e ∙ (λ i. record_faults (n.modulus i) (cell i).group (cell_lengths (cell i)) (records_in file))
        ∙ passes _ (record_faults (modulus_in file) (header_in file).group (header_in file).lengths (records_in file)) (λ n. []) h ∙ passes _ _ (λ n. []) sound
