-- The order of records. Two orders in which every record is accepted leave the same F, and a file's records, which are of different orbits, are accepted in every order:
-- so a list's packed factors, its map and a file's outcome do not depend on it. Of the header the model uses group and lengths alone, so starts that are alike answer every list alike.
use mathlib.Core.Path.{◌≡◌, refl, sym, ◌∙◌, ap, subst, subst₂}
use mathlib.Core.Logic.{◌⊎◌, inl, inr}
use mathlib.Core.Bool.{false, not, cond}
use mathlib.Core.List.{List, [], ◌∷◌, ◌++◌, map, append-nil}
use Prim.Native.Nat.{ℕ, zero, suc, ◌+◌, ◌<◌}
use native.Mathlib.Omega.{arith}
use lib.ListN.{length}
use lib.Dec.{leb, eqb}
use borrow.Author.Tests.{eq-eqb, ne_eqb}
use Rattle.algebra.specs.cells.Cell.{full, factor_acts}
use Rattle.algebra.specs.orbits.Orbit.{Perm, record_all}
use Rattle.algebra.proofs.ring.Members.{perm_map, perm_mem, perm_sym}
use Rattle.algebra.proofs.orbits.OrbitLists.{sound_perm}
use Rattle.algebra.proofs.cells.CellTests as CellTests
use Rattle.algebra.proofs.cells.CellGroup.{factor_action, closed}
use Rattle.numbers.specs.Value.{is_modulus}
use Rattle.numbers.proofs.Values.{field_ring, field_star}
use Rattle.refusals.specs.Refusals.{◌⇒◌, first, accepted}
use Rattle.cell.specs.Consistency.{same_value}
use Rattle.cell.proofs.Reading.{same_iff}
use Rattle.cell.specs.Volume.{group_of, pack_factors, map_in, pack_map, map_of, factors_of}
use Rattle.job.specs.declared.Job.{Job}
use Rattle.job.specs.Job.{Header, half_lengths, needed, axis_tests, factors_held, map_held, opened, open_tests}
use Rattle.file_format.specs.declared.FileRecord.{FileRecord}
use Rattle.file_format.proofs.shape.Shapes.{same_shape}
use Rattle.file_format.proofs.places.Heads.{same_modulus}
use Rattle.file_format.proofs.layout.Heads.{same_header}
use Rattle.file_format.specs.Format.{modulus_at, list2_at, list3_at}
use Rattle.factor_file.specs.File.{count_at, modulus_in, header_in, records_in, shape_tests, file_step}
use Rattle.model.specs.Model.{Model, group, half, factor_of, Call, recording, synthesis, analysis, read_point, read_factor, read_map_power, read_factor_power, model_tests, model_next, model_said, model_after, in_state, factor_volume, map_volume, model_volume, begun, zero_model, map_model, model_feed}
use Rattle.demands.specs.Demands.{Start, reading, start_header, start_kind, start_volume, start_records, first_model, run, model_answers, model_end, accepted_records, Started, entry, Alike, all_records, OrderFree, AlikeStarts, FileOrderFree}
use Rattle.model.proofs.Sound.{LawfulModel, halves_positive}
use Rattle.demands.proofs.Openings.{kind_is}
use Rattle.demands.proofs.Judged.{acts_on}
use Rattle.demands.proofs.Starts.{file_shape, accepted_start, file_gives, started_runs}
use Rattle.demands.proofs.AcceptedRecords.{Records, different_accepted, different_fed, start_passes, first_sound, start_fed, start_records_lem, started_records, started_header}

-- two orders in which every record is accepted leave the same F
records_order : {μ : ℕ} (m m₁ m₂ : Model μ) → LawfulModel m → {cs cs' : List FileRecord} → Perm cs cs' → Records m m₁ cs → Records m m₂ cs' → factor_of m₁ ≡ factor_of m₂
unfolding factor_acts
records_order {μ} m m₁ m₂ sound perm r r' =
    r.1
    ∙ CellTests.records_order (field_ring μ) (field_star μ) same_value (same_iff μ) (group m) (half m) (halves_positive m sound) (perm_map (entry μ) perm) (factor_of m) sound.lawful r.0 r'.0
    ∙ sym r'.1

-- ---- what the model uses

-- the same group, lengths and F, whatever the factor lists and the state
record SameCell {μ : ℕ} (m m' : Model μ) : Type 0 where
  pub same_group : m.header.group ≡ m'.header.group
  pub same_lengths : m.header.lengths ≡ m'.header.lengths
  pub same_F : m.F ≡ m'.F

module _ {μ : ℕ} {m m' : Model μ} (same : SameCell m m') where
  same_factor_volume : factor_volume m ≡ factor_volume m'
  same_factor_volume = λ i. pack_factors (group_of (same.same_group i)) (half_lengths (same.same_lengths i)) μ (same.same_F i)

  same_map_volume : map_volume m ≡ map_volume m'
  same_map_volume = λ i. pack_map (group_of (same.same_group i)) (half_lengths (same.same_lengths i)) μ (map_of μ (half_lengths (same.same_lengths i)) (same.same_F i))

  same_volume : eqb m.state map_held ≡ eqb m'.state map_held → model_volume m ≡ model_volume m'
  unfolding model_volume
  same_volume e = λ i. cond (e i) (same_map_volume i) (same_factor_volume i)

-- without the factor lists, which it does not use, a model answers the same
abbrev unlisted : {μ : ℕ} → Model μ → Model μ
unlisted m = record { header = record { group = m.header.group; lengths = m.header.lengths; list1 = []; list2 = []; list3 = [] }; state = m.state; F = m.F }

same_unlisted : {μ : ℕ} (m m' : Model μ) → SameCell m m' → m.state ≡ m'.state → unlisted m ≡ unlisted m'
same_unlisted m m' same e = λ i. record { header = record { group = same.same_group i; lengths = same.same_lengths i; list1 = []; list2 = []; list3 = [] }; state = e i; F = same.same_F i }

unlisted_said : {μ : ℕ} (m : Model μ) (c : Call) → model_said m c ≡ model_said (unlisted m) c
unfolding model_said
unlisted_said m (recording k x y) = refl
unlisted_said m (synthesis scratch) = refl
unlisted_said m (analysis scratch) = refl
unlisted_said m (read_point x) = refl
unlisted_said m (read_factor k) = refl
unlisted_said m read_map_power = refl
unlisted_said m read_factor_power = refl

unlisted_accepted : {μ : ℕ} (n : ℕ) (m next : Model μ) {next' : Model μ} → unlisted next ≡ next' → unlisted (accepted n next (λ n. m)) ≡ accepted n next' (λ n. unlisted m)
unlisted_accepted zero m next e = e
unlisted_accepted (suc n) m next e = refl

unlisted_after : {μ : ℕ} (m : Model μ) (c : Call) → unlisted (model_after m c) ≡ model_after (unlisted m) c
unfolding model_after
unlisted_after m (recording k x y) = unlisted_accepted (first (model_tests m (recording k x y))) m (model_next m (recording k x y)) refl
unlisted_after m (synthesis scratch) = unlisted_accepted (first (model_tests m (synthesis scratch))) m (in_state m map_held) refl
unlisted_after m (analysis scratch) = unlisted_accepted (first (model_tests m (analysis scratch))) m (in_state m factors_held) refl
unlisted_after m (read_point x) = unlisted_accepted (first (model_tests m (read_point x))) m m refl
unlisted_after m (read_factor k) = unlisted_accepted (first (model_tests m (read_factor k))) m m refl
unlisted_after m read_map_power = unlisted_accepted (first (model_tests m read_map_power)) m m refl
unlisted_after m read_factor_power = unlisted_accepted (first (model_tests m read_factor_power)) m m refl

unlisted_answers : {μ : ℕ} (m : Model μ) (l : List Call) → model_answers m l ≡ model_answers (unlisted m) l
unfolding model_answers
unlisted_answers m [] = refl
unlisted_answers m (c ∷ l) =
    let answer = unlisted_said m c in
    let others = unlisted_answers (model_after m c) l ∙ ap (λ m. model_answers m l) (unlisted_after m c) in
    λ i. answer i ∷ others i

unlisted_end : {μ : ℕ} (m : Model μ) (l : List Call) → unlisted (model_end m l) ≡ model_end (unlisted m) l
unfolding model_end
unlisted_end m [] = refl
unlisted_end m (c ∷ l) = unlisted_end (model_after m c) l ∙ ap (λ m. model_end m l) (unlisted_after m c)

-- ---- starts that are alike

first_collects : {μ : ℕ} (s : Start μ) → start_kind s ≡ 0 → first_model s ≡ zero_model μ (start_header s)
first_collects {μ} s e = ap (λ b. cond b (zero_model μ (start_header s)) (map_model μ (start_header s) (start_volume s))) (eq-eqb (start_kind s) 0 e)

first_map : {μ : ℕ} (s : Start μ) → start_kind s ≡ 1 → first_model s ≡ map_model μ (start_header s) (start_volume s)
first_map {μ} s e = ap (λ b. cond b (zero_model μ (start_header s)) (map_model μ (start_header s) (start_volume s))) (ne_eqb (start_kind s) 0 (λ z. omega arith))

-- they begin alike but for the factor lists
alike_first : {μ : ℕ} (s s' : Start μ) → Alike s s' → (start_kind s ≡ 0) ⊎ (start_kind s ≡ 1) → unlisted (first_model s) ≡ unlisted (first_model s')
alike_first {μ} s s' a (inl e) =
    ap unlisted (first_collects s e)
    ∙ same_unlisted (zero_model μ (start_header s)) (zero_model μ (start_header s')) (record { same_group = a.same_group; same_lengths = a.same_lengths; same_F = refl }) refl
    ∙ ap unlisted (sym (first_collects s' (sym a.same_kind ∙ e)))
alike_first {μ} s s' a (inr e) =
    ap unlisted (first_map s e)
    ∙ same_unlisted (map_model μ (start_header s) (start_volume s)) (map_model μ (start_header s') (start_volume s')) (record {
      same_group = a.same_group;
      same_lengths = a.same_lengths;
      same_F = λ i. factors_of μ (half_lengths (a.same_lengths i)) (map_in (group_of (a.same_group i)) (half_lengths (a.same_lengths i)) μ (a.same_map e i));
    }) refl
    ∙ ap unlisted (sym (first_map s' (sym a.same_kind ∙ e)))

module _ {μ : ℕ} (s s' : Start μ) (j j' : Job) (v v' : List ℕ) (m m' : Model μ) (started : Started s j v m) (started' : Started s' j' v' m') (alike : Alike s s') where
  same_first : unlisted (first_model s) ≡ unlisted (first_model s')
  same_first = alike_first s s' alike (kind_is μ (start_header s) (start_kind s) (start_volume s) (start_passes s j v m started))

  -- the same records in another order leave the same F
  ends_same : (l l' : List Call) → Perm (all_records s j v l) (all_records s' j' v' l') → SameCell (model_end m l) (model_end m' l')
  ends_same l l' perm =
      let r : Records (first_model s') (model_end m l) (all_records s j v l) = subst (λ b. Records b (model_end m l) (all_records s j v l)) same_first (started_records s j v m started l) in
      let e = records_order (first_model s') (model_end m l) (model_end m' l') (first_sound s' j' v' m' started') perm r (started_records s' j' v' m' started' l') in
      let eh = started_header s j v m started l in
      let eh' = sym (started_header s' j' v' m' started' l') in
      record {
        same_group = ap (λ h. h.group) eh ∙ ap (λ m. m.header.group) same_first ∙ ap (λ h. h.group) eh';
        same_lengths = ap (λ h. h.lengths) eh ∙ ap (λ m. m.header.lengths) same_first ∙ ap (λ h. h.lengths) eh';
        same_F = λ i h k l. e i (h, k, l);
      }

  -- .. and so the same packed factors, the same map, the same volume
  order : (l l' : List Call) → Perm (all_records s j v l) (all_records s' j' v' l') →
      (factor_volume (model_end m l) ≡ factor_volume (model_end m' l')) × (map_volume (model_end m l) ≡ map_volume (model_end m' l')) ×
      (eqb (run j v l).job.state map_held ≡ eqb (run j' v' l').job.state map_held → (run j v l).volume ≡ (run j' v' l').volume)
  order l l' perm =
      let same = ends_same l l' perm in
      let ran = started_runs s j v m started l in
      let ran' = started_runs s' j' v' m' started' l' in (
        same_factor_volume same,
        same_map_volume same,
        λ e. ap (λ r. r.volume) ran ∙ same_volume same (ap (λ r. eqb r.job.state map_held) (sym ran) ∙ e ∙ ap (λ r. eqb r.job.state map_held) ran') ∙ ap (λ r. r.volume) (sym ran'),
      )

  -- starts of the same records begin the same model but for the factor lists
  same_begun : Perm (start_records s) (start_records s') → unlisted m ≡ unlisted m'
  unfolding model_end accepted_records
  same_begun perm =
      same_unlisted m m' (ends_same [] [] (subst₂ Perm (sym (append-nil (start_records s))) (sym (append-nil (start_records s'))) perm))
      ((start_fed s j v m started).same_state ∙ ap (λ m. m.state) same_first ∙ sym (start_fed s' j' v' m' started').same_state)

  answers_alike : Perm (start_records s) (start_records s') → (l : List Call) → ((run j v l).answers ≡ (run j' v' l).answers) × ((run j v l).volume ≡ (run j' v' l).volume) × ((run j v l).job.state ≡ (run j' v' l).job.state)
  unfolding model_volume
  answers_alike perm l =
      let same = same_begun perm in
      let end : unlisted (model_end m l) ≡ unlisted (model_end m' l) = unlisted_end m l ∙ ap (λ m. model_end m l) same ∙ sym (unlisted_end m' l) in
      let ran = started_runs s j v m started l in
      let ran' = sym (started_runs s' j' v' m' started' l) in (
        ap (λ r. r.answers) ran ∙ unlisted_answers m l ∙ ap (λ m. model_answers m l) same ∙ sym (unlisted_answers m' l) ∙ ap (λ r. r.answers) ran',
        ap (λ r. r.volume) ran ∙ ap model_volume end ∙ ap (λ r. r.volume) ran',
        ap (λ r. r.job.state) ran ∙ ap (λ m. m.state) end ∙ ap (λ r. r.job.state) ran',
      )

pub order_free : OrderFree
order_free = record { same = λ μ. order }

pub alike_starts : AlikeStarts
alike_starts = record { same = λ μ. answers_alike }

-- ---- a file with its records in another order

-- an opening with kind 0 asks of the volume its length alone
same_tests : (μ : ℕ) (h : Header) (v v' : List ℕ) → length v ≡ length v' → first (open_tests μ h 0 v) ≡ first (open_tests μ h 0 v')
same_tests μ h v v' e = ap (λ n. first (leb 5 h.group ⇒ 8 ∷ not (is_modulus μ) ⇒ 26 ∷ leb 2 0 ⇒ 2 ∷ (axis_tests h ++ not (eqb n (needed h)) ⇒ 6 ∷ false ⇒ 7 ∷ false ⇒ 14 ∷ []))) e

-- a file of sound shape with the header and, in any order, the records of an accepted file
records_moved : (file file' v v' : List ℕ) (j : Job) (w : List ℕ) → modulus_in file ≡ modulus_in file' → header_in file ≡ header_in file' → first (shape_tests file') ≡ 0 → Perm (records_in file) (records_in file') → length v ≡ length v' →
    file_step file v ≡ record { answer = opened j; volume = w } → file_step file' v' ≡ record { answer = opened j; volume = w }
records_moved file file' v v' j w em eh shape perm long e =
    let μ = modulus_in file in
    let s : Start μ = reading file v refl in
    let (m, begins, sound, ej, ew) = accepted_start s j w e in
    let started : Started s j w m = record { gives = e; begins = begins } in
    let empty = zero_model μ (header_in file) in
    let taken = start_fed s j w m started in
    let sound = first_sound s j w m started in
    let records = records_in file' in
    let different = sound_perm (factor_action (field_ring μ) (field_star μ) (half empty)) (full (group empty)) (closed (field_ring μ) (field_star μ) (half empty) (group empty)) (perm_map (entry μ) perm) taken.different in
    let left : Model μ = record { header = empty.header; state = empty.state; F = λ h k l. record_all (acts_on μ (half empty)) (full (group empty)) (map (entry μ) records) (factor_of empty) (h, k, l) } in
    let f = different_fed records empty sound (λ c i. taken.below c (perm_mem perm c i)) different in
    let same = records_order empty left m sound (perm_sym perm) (different_accepted records empty (λ q. refl) different, refl) (start_records_lem s j w m started) in
    let is : left ≡ m = λ i. record { header = sym taken.same_header i; state = sym taken.same_state i; F = λ h k l. same i (h, k, l) } in
    file_gives file' v' (sym em) shape m (subst (λ h. 0 ≡ first (open_tests μ h 0 v')) eh (start_passes s j w m started ∙ same_tests μ (header_in file) v v' long)) (subst (λ h. model_feed (records_in file') (zero_model μ h) ≡ begun m) eh (f ∙ ap begun is))
    ∙ λ i. record { answer = opened (sym ej i); volume = sym ew i }

-- the modulus, where a file has one, stands before its lists, which stand before the record count
behind_modulus : (file : List ℕ) → modulus_at < count_at file + 4
unfolding list2_at list3_at count_at
behind_modulus file = omega arith

-- the shape, the modulus and the header stand before the first record
pub file_order_free : FileOrderFree
file_order_free = record {
  same = λ file file' v v' j w moved long e.
      let modulus = same_modulus file file' (count_at file + 4) moved.same_head (behind_modulus file) in
      let header = same_header file file' (count_at file + 4) moved.same_head (omega arith) in
      let shape = sym (same_shape file file' moved.same_length moved.same_head) ∙ file_shape file v j (ap (λ o. o.answer) e) in
      records_moved file file' v v' j w modulus header shape moved.same_records long e;
}
