-- The records at fault are the fewest.
use mathlib.Core.Path.{◌≡◌, refl, sym, ◌∙◌, ap, subst}
use mathlib.Core.Logic.{◌⊎◌, inl, inr, ⊎_elim}
use mathlib.Core.Bool.{Bool, true, false}
use mathlib.Core.List.{List, [], ◌∷◌, map}
use Prim.Native.Nat.{ℕ, zero, suc, ◌+◌, ◌*◌, ◌-◌, ◌<◌, ◌≤◌}
use native.Mathlib.Omega.{arith}
use native.Mathlib.Decide.{ℕ_discrete}
use lib.Dec.{T}
use lib.ListN.{length, get_or}
use Rattle.algebra.specs.cells.Cell.{J, some, same_orbit}
use Rattle.algebra.specs.orbits.Orbit.{first as first_of}
use Rattle.algebra.proofs.ring.Bool.{same_test, some_at, some_by}
use Rattle.algebra.proofs.ring.Members.{none as no_member, mem_cons}
use Rattle.refusals.specs.Refusals.{◌⇒◌, first, accepted}
use Rattle.refusals.proofs.Tests.{pass, none, stop, passed, append_stop, passes}
use Rattle.cell.specs.Volume.{volume_length}
use Rattle.cell.specs.declared.operations.UnitCell.{UnitCell}
use Rattle.cell.specs.Operations.{cell_group, cell_halves, cell_lengths, Sizes}
use Rattle.header.specs.Cells.{header_cell}
use Rattle.job.specs.Job.{own_tests}
use Rattle.file_format.specs.declared.FileRecord.{FileRecord}
use Rattle.file_format.specs.Format.{count_at, record_count, record_at, records_from, records_in, modulus_in, header_in, shape_tests}
use Rattle.factor_file.specs.File.{index_in, orbit_seen, judge_tests, Judgement, taken, refused_at, judged}
use Rattle.faults.specs.Faults.{header_tests, record_faults, faults_in}
use Rattle.faults.specs.FaultSteps.{record_place, own_number, own_at, place_at, SoundTo, Apart, FirstOf}
use Rattle.faults.specs.Fewest.{no_record, chosen, Rising, last, next, judged_under, Fewest, FewestExactly}
use Rattle.faults.proofs.FaultLaws.{same_orbit_lem, place_low, all_taken, own_refused, orbit_refused, refused_by, faults_none, faults_one, faults_two, own_not_24, header_sound, header_opened}
use Rattle.faults.proofs.FaultWalks.{sound_start, sound_next, sound_fewer}

-- ---- what is made of the records of a file, found in the logic

module _ (μ : ℕ) (c : UnitCell) (file : List ℕ) where
  -- a first record whose orbit has a place, before place n
  data Earlier (x n : ℕ) : Type 0 where
    found : (k : ℕ) → k < n → place_at c file k ≡ x → ((m : ℕ) → m < k → place_at c file m ≡ x → ⊥) → Earlier x n
    not_found : ((m : ℕ) → m < n → place_at c file m ≡ x → ⊥) → Earlier x n

  earlier : (x n : ℕ) → Earlier x n
  earlier x zero = not_found (λ m h. absurd (omega arith))
  earlier x (suc n) = go (earlier x n) (ℕ_discrete (place_at c file n) x)
    where
      go : Earlier x n → Dec (place_at c file n ≡ x) → Earlier x (suc n)
      go (found k l e f) d = found k (omega arith) e f
      go (not_found f) (yes e) = found n (omega arith) e f
      go (not_found f) (no u) = not_found (λ m h e. by m h e (ℕ_discrete m n))
        where
          by : (m : ℕ) → m < suc n → place_at c file m ≡ x → Dec (m ≡ n) → ⊥
          by m h e (yes q) = u (ap (place_at c file) (sym q) ∙ e)
          by m h e (no q) = f m (omega arith) e

  abbrev Apart' : ℕ → Type 0
  Apart' r = Apart c file 0 (volume_length (cell_group c) (cell_halves c)) r

  data Scanned (n : ℕ) : Type 0 where
    clean : SoundTo μ c file n → Apart' n → Scanned n
    own : (r : ℕ) → r < n → SoundTo μ c file r → Apart' r → (own_at μ c file r ≡ 0 → ⊥) → Scanned n
    orbit : (r f : ℕ) → r < n → SoundTo μ c file r → Apart' r → 0 ≡ own_at μ c file r → f < r → FirstOf c file r f → Scanned n

  scan : (n : ℕ) → n ≤ record_count file → Scanned n
  scan zero l = clean (sound_start μ c file) (record { each = λ k i h u. absurd (omega arith) })
  scan (suc n) l = go (scan n (omega arith)) (ℕ_discrete (own_at μ c file n) 0) (earlier (place_at c file n) n)
    where
      go : Scanned n → Dec (own_at μ c file n ≡ 0) → Earlier (place_at c file n) n → Scanned (suc n)
      go (own r h s a z) d e = own r (omega arith) s a z
      go (orbit r f h s a z u o) d e = orbit r f (omega arith) s a z u o
      go (clean s a) (no z) e = own n (omega arith) s a z
      go (clean s a) (yes z) (found k h e f) = orbit n k (omega arith) s a (sym z) h (record { some = omega arith; same = e; before = f })
      go (clean s a) (yes z) (not_found f) = clean (subst (SoundTo μ c file) (omega arith) (sound_next μ c file n s (omega arith) (sym z))) (record { each = λ k i h u g v e. by k i h u g v e (ℕ_discrete i n) })
        where
          by : (k i : ℕ) → k < i → i < suc n → 0 ≤ place_at c file i → place_at c file i < volume_length (cell_group c) (cell_halves c) → place_at c file k ≡ place_at c file i → Dec (i ≡ n) → ⊥
          by k i h u g v e (yes q) = f k (omega arith) (e ∙ ap (place_at c file) q)
          by k i h u g v e (no q) = a.each k i h (omega arith) g v e

-- ---- one record, and two

module _ (μ : ℕ) (c : UnitCell) where
  abbrev made : List FileRecord → Judgement
  made cs = judged μ c.group (cell_lengths c) [] cs

  own_then : (before : List J) (x : FileRecord) → 0 ≡ own_number μ c x → {n : ℕ} → n ≡ first (orbit_seen c.group (cell_lengths c) before (index_in x)) → n ≡ first (judge_tests μ c.group (cell_lengths c) before (index_in x) x.a x.b)
  unfolding own_number
  own_then before x e q = let p = passed (own_tests μ c.group (cell_lengths c) (index_in x) x.a x.b) tt e in pass 10 _ p.0 (pass 7 _ p.1.0 (pass 12 _ p.1.1.0 q))

  one_refused : (x : FileRecord) → (own_number μ c x ≡ 0 → ⊥) → made (x ∷ []) ≡ refused_at (own_number μ c x) 0
  unfolding judged own_number
  one_refused x z =
      let n = append_stop (own_tests μ c.group (cell_lengths c) (index_in x) x.a x.b) (orbit_seen c.group (cell_lengths c) [] (index_in x)) z refl in
      ap (λ n. accepted n taken (λ k. refused_at k 0)) (sym n) ∙ refused_by _ _ (λ k. refused_at k 0) z

  first_taken : (x : FileRecord) → 0 ≡ own_number μ c x → (cs : List FileRecord) → made (x ∷ cs) ≡ judged μ c.group (cell_lengths c) (index_in x ∷ []) cs
  unfolding judged some
  first_taken x e cs = ap (λ n. accepted n (judged μ c.group (cell_lengths c) (index_in x ∷ []) cs) (λ k. refused_at k 0)) (sym (own_then [] x e (pass 24 _ refl none)))

  one_taken : (x : FileRecord) → 0 ≡ own_number μ c x → made (x ∷ []) ≡ taken
  unfolding judged
  one_taken x e = first_taken x e []

  two_made : (x y : FileRecord) → 0 ≡ own_number μ c x → 0 ≡ own_number μ c y → made (x ∷ y ∷ []) ≡ accepted (first (orbit_seen c.group (cell_lengths c) (index_in x ∷ []) (index_in y))) taken (λ k. refused_at k 1)
  unfolding judged
  two_made x y e f = first_taken x e (y ∷ []) ∙ ap (λ n. accepted n taken (λ k. refused_at k 1)) (sym (own_then (index_in x ∷ []) y f refl))

  not_taken : {A : Type 0} {n place : ℕ} → taken ≡ refused_at n place → A
  not_taken e = let z : ◌≡◌ {A = ℕ} 0 1 = cc in absurd (omega arith)

  two_refused : (x y : FileRecord) → 0 ≡ own_number μ c x → 0 ≡ own_number μ c y → T (same_orbit (cell_group c) (cell_halves c) (index_in x) (index_in y)) → made (x ∷ y ∷ []) ≡ refused_at 24 1
  two_refused x y e f t =
      let s = same_test (some (index_in x ∷ []) (λ i. same_orbit (cell_group c) (cell_halves c) i (index_in y))) true (λ t. tt) (λ u. some_by (index_in x ∷ []) _ (index_in x) first_of t) in
      two_made x y e f ∙ ap (λ n. accepted n taken (λ k. refused_at k 1)) (sym (stop {n = 24} [] s))

  two_of_orbit : (x y : FileRecord) → 0 ≡ own_number μ c x → 0 ≡ own_number μ c y → {n place : ℕ} → made (x ∷ y ∷ []) ≡ refused_at n place → T (same_orbit (cell_group c) (cell_halves c) (index_in x) (index_in y))
  two_of_orbit x y e f {n} {place} q =
      let m = some_at (index_in x ∷ []) (λ i. same_orbit (cell_group c) (cell_halves c) i (index_in y)) (by (some (index_in x ∷ []) (λ i. same_orbit (cell_group c) (cell_halves c) i (index_in y))) (sym (two_made x y e f) ∙ q)) in
      mem_cons (λ i. T (same_orbit (cell_group c) (cell_halves c) i (index_in y)) → T (same_orbit (cell_group c) (cell_halves c) (index_in x) (index_in y))) (λ t. t) (λ i m. no_member m) m.0 m.1 m.2
    where
      by : (b : Bool) → accepted (first (b ⇒ 24 ∷ [])) taken (λ k. refused_at k 1) ≡ refused_at n place → T b
      by true q = tt
      by false q = not_taken (passes _ taken (λ k. refused_at k 1) (pass {b = false} 24 [] refl none) ∙ q)

-- ---- rising places

pub one_long : {low r : ℕ} {qs : List ℕ} → Rising low r qs → 1 ≤ length qs
one_long (last l) = omega arith
one_long (next l s) = omega arith

one_only : {low r : ℕ} {qs : List ℕ} → Rising low r qs → (qs ≡ r ∷ []) ⊎ (2 ≤ length qs)
one_only (last l) = inl refl
one_only (next l s) = let h = one_long s in inr (omega arith)

two_only : {low r : ℕ} {qs : List ℕ} → Rising low r qs → length qs ≡ 2 → (q : ℕ) × (q < r) × (qs ≡ q ∷ r ∷ [])
two_only (last l) e = absurd (omega (arith, e))
two_only (next {low} {r} {q} l (last h)) e = (q, h, refl)
two_only (next l (next h s)) e = let o = one_long s in absurd (omega (arith, e))

-- ---- the records at fault

module _ (file : List ℕ) (shape : 0 ≡ first (shape_tests file)) (header : 0 ≡ first (header_tests (modulus_in file) (header_in file))) where
  abbrev μ : ℕ
  μ = modulus_in file

  abbrev c : UnitCell
  c = header_cell (header_in file)

  abbrev at : ℕ → FileRecord
  at i = record_at file (record_place file i)

  sizes : Sizes c
  sizes = (header_sound μ (header_in file) header).sizes

  record_in_lem : (q n i : ℕ) → i < n → get_or (records_from file q n) i no_record ≡ record_at file (q + 14 * i)
  unfolding records_from
  record_in_lem q zero i l = absurd (omega arith)
  record_in_lem q (suc n) zero l = let e : q ≡ q + 14 * 0 = omega arith in ap (record_at file) e
  record_in_lem q (suc n) (suc i) l = let e : q + 14 + 14 * i ≡ q + 14 * suc i = omega arith in record_in_lem (q + 14) n i (omega arith) ∙ ap (record_at file) e

  one_chosen : (r : ℕ) → r < record_count file → chosen (records_in file) (r ∷ []) ≡ at r ∷ []
  one_chosen r l = ap (λ x. x ∷ []) (record_in_lem (count_at file + 4) (record_count file) r l)

  two_chosen : (q r : ℕ) → q < record_count file → r < record_count file → chosen (records_in file) (q ∷ r ∷ []) ≡ at q ∷ at r ∷ []
  two_chosen q r l h =
      let x = record_in_lem (count_at file + 4) (record_count file) q l in
      let y = record_in_lem (count_at file + 4) (record_count file) r h in
      λ i. x i ∷ y i ∷ []

  own_fewest : (r : ℕ) → r < record_count file → (own_at μ c file r ≡ 0 → ⊥) → Fewest file (r ∷ []) (own_at μ c file r) r
  own_fewest r l z = record {
    rise = last {low = 0} {r = r} (omega arith);
    refused = ap (judged_under file) (one_chosen r l) ∙ one_refused μ c (at r) z;
    fewest = λ qs s place e. one_long s;
    only = λ qs s place e n. ⊎_elim (λ q. q) (λ h. absurd (omega (arith, n))) (one_only s);
  }

  orbit_fewest : (r f : ℕ) → r < record_count file → SoundTo μ c file r → Apart c file 0 (volume_length (cell_group c) (cell_halves c)) r → 0 ≡ own_at μ c file r → f < r → FirstOf c file r f → Fewest file (f ∷ r ∷ []) 24 r
  orbit_fewest r f l s a z h o = record {
    rise = next {low = 0} {r = r} {q = f} {qs = r ∷ []} (omega arith) (last {low = suc f} {r = r} h);
    refused = ap (judged_under file) (two_chosen f r (omega arith) l) ∙ two_refused μ c (at f) (at r) (s.each f h) z ((same_orbit_lem μ c file sizes f r (s.each f h) z).0 o.same);
    fewest = λ qs u place e. ⊎_elim (λ q. alone qs place q e) (λ n. n) (one_only u);
    only = λ qs u place e n. let t = two_only u n in t.2 ∙ ap (λ q. q ∷ r ∷ []) (mate t.0 t.1 place (ap (λ qs. judged_under file (chosen (records_in file) qs)) (sym t.2) ∙ e));
  }
    where
      alone : (qs : List ℕ) (place : ℕ) → qs ≡ r ∷ [] → judged_under file (chosen (records_in file) qs) ≡ refused_at 24 place → 2 ≤ length qs
      alone qs place q e = not_taken μ c (sym (one_taken μ c (at r) z) ∙ ap (judged_under file) (sym (one_chosen r l)) ∙ ap (λ qs. judged_under file (chosen (records_in file) qs)) (sym q) ∙ e)

      same : (q : ℕ) → q < r → place_at c file q ≡ place_at c file r → Dec (q ≡ f) → q ≡ f
      same q u e (yes p) = p
      same q u e (no p) = absurd (by (ℕ_discrete (q - f) 0))
        where
          by : Dec (q - f ≡ 0) → ⊥
          by (yes d) = o.before q (omega arith) e
          by (no d) = a.each f q (omega arith) u (omega arith) (place_low μ c file sizes q (s.each q u)) (o.same ∙ sym e)

      mate : (q : ℕ) → q < r → (place : ℕ) → judged_under file (chosen (records_in file) (q ∷ r ∷ [])) ≡ refused_at 24 place → q ≡ f
      mate q u place e =
          let t = two_of_orbit μ c (at q) (at r) (s.each q u) z (ap (judged_under file) (sym (two_chosen q r (omega arith) l)) ∙ e) in
          same q u ((same_orbit_lem μ c file sizes q r (s.each q u) z).1 t) (ℕ_discrete q f)

  faults_are : record_faults μ c.group (cell_lengths c) (records_in file) ≡ faults_in file
  unfolding faults_in
  faults_are = passes _ (record_faults μ (header_in file).group (header_in file).lengths (records_in file)) (λ n. []) header ∙ passes _ _ (λ n. []) shape

  same_refusal : {n m r s : ℕ} → refused_at n r ≡ refused_at m s → (n ≡ m) × (r ≡ s)
  same_refusal e = (cc, cc)

  -- the same number at the same place
  as_found : {m s number r : ℕ} → judged_under file (records_in file) ≡ refused_at m s → judged_under file (records_in file) ≡ refused_at number r → {places : List ℕ} → Fewest file places m s → places ≡ record_faults μ c.group (cell_lengths c) (records_in file) → Fewest file (faults_in file) number r
  as_found {m} {s} {number} {r} e f {places} w p =
      let q = same_refusal {n = m} {m = number} {r = s} {s = r} (sym e ∙ f) in
      subst (λ n. Fewest file (faults_in file) n r) q.0 (subst (λ r. Fewest file (faults_in file) m r) q.1 (subst (λ ps. Fewest file ps m s) (p ∙ faults_are) w))

  pub fewest_of : (number r : ℕ) → judged_under file (records_in file) ≡ refused_at number r → Fewest file (faults_in file) number r
  fewest_of number r e = go (scan μ c file (record_count file) (omega arith))
    where
      go : Scanned μ c file (record_count file) → Fewest file (faults_in file) number r
      go (clean s a) = not_taken μ c (sym (all_taken μ c file sizes (record_count file) s a refl) ∙ e)
      go (own q l s a z) = as_found (own_refused μ c file sizes q s a l z) e (own_fewest q l z) (faults_one μ c file sizes q s a l z)
      go (orbit q f l s a z h o) = as_found (orbit_refused μ c file sizes q s a l z f h o.same) e (orbit_fewest q f l s a z h o) (faults_two μ c file sizes q s a l z (f, h, o.same) f o)

pub fewest_exactly : FewestExactly
fewest_exactly = record { each = λ file v j shape e. fewest_of file shape (header_opened (modulus_in file) (header_in file) v j e) }
