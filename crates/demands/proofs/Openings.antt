-- Openings. One that no test refuses begins a sound model, with the job and the volume that it gives: of kind 0 the packed factors of the cell that is zero everywhere,
-- of kind 1 the map. Of the others: the model's tests come first, then those of the volume, whose faults (6, and of a map 7, 14) the model does not know.
use mathlib.Core.Path.{◌≡◌, refl, sym, ◌∙◌, ap, subst}
use mathlib.Core.Logic.{◌⊎◌, inl, inr, ⊎_elim}
use mathlib.Core.Bool.{Bool, true, false, ◌&&◌, not, cond}
use mathlib.Core.List.{List}
use Prim.Native.Nat.{ℕ, zero, suc, ◌<◌}
use native.Mathlib.Omega.{arith}
use native.Mathlib.Decide.{ℕ_discrete}
use lib.ListN.{length, replicate}
use lib.Dec.{eqb}
use borrow.Author.Tests.{not-false, leb-false, eqb-true, eq-eqb, ne_eqb}
use Rattle.algebra.specs.cells.Cell.{J, Group}
use Rattle.algebra.proofs.cells.CellTests.{Positive}
use Rattle.numbers.specs.Value.{prime, IsModulus}
use Rattle.numbers.proofs.ModulusCases.{tested_modulus}
use Rattle.numbers.proofs.Primes.{prime_pos}
use Rattle.slices.specs.Pairs.{Below, all_below}
use Rattle.slices.proofs.Bounds.{below_all_below, all_below_below}
use Rattle.refusals.specs.Refusals.{first, accepted}
use Rattle.refusals.proofs.Tests.{both, Passed, passed, first_append, pass, not_t, none as no_test}
use Rattle.cell.specs.Volume.{group_of, volume_length}
use Rattle.cell.specs.Consistency.{consistent_map}
use Rattle.cell.specs.Exactly.{MapConsistent}
use Rattle.cell.proofs.VolumeLayout.{below_map}
use Rattle.cell.proofs.ZeroCell.{zero_lawful, zero_packed}
use Rattle.cell.proofs.Maps.{map_consistent}
use Rattle.cell.proofs.Points.{opened_factors, opened_map}
use Rattle.job.specs.Job.{Header, half_lengths, needed, axis_tests, collecting, map_held, job_of, valid_job, volume_tests, open_tests, open_step, opened, not_opened, OpenOutcome}
use Rattle.header.proofs.Headers.{sound_axes}
use Rattle.job.proofs.check.Openings.{header_passed, volume_collects, volume_held}
use Rattle.job.proofs.Jobs.{opened_valid}
use Rattle.model.specs.Model.{Model, model_job, model_volume, zero_model, map_model, opening_model, beginning_tests}
use Rattle.model.proofs.Sound.{LawfulModel}
use Rattle.line.proofs.kinds.Axes.{axis_laws}

-- ---- an opening that no test refuses

-- the job and the volume that a start gives with a model
abbrev pub given : {μ : ℕ} → Model μ → OpenOutcome
given m = record { answer = opened (model_job m); volume = model_volume m }

module _ (μ : ℕ) (h : Header) (kind : ℕ) (v : List ℕ) (none : 0 ≡ first (open_tests μ h kind v)) where
  tests : Passed (open_tests μ h kind v)
  tests = passed (open_tests μ h kind v) tt none

  header_sound : 0 ≡ first (axis_tests h)
  header_sound = header_passed μ h kind v none

  opening_long : Positive (half_lengths h.lengths)
  opening_long = let s = sound_axes h header_sound in (s.0.size.positive, s.1.size.positive, s.2.size.positive)

  volume_long : length v ≡ volume_length (group_of h.group) (half_lengths h.lengths)
  volume_long = eqb-true _ _ (not-false _ tests.1.1.1.1.1.1.1.0)

  pub kind_is : (kind ≡ 0) ⊎ (kind ≡ 1)
  kind_is = either kind (leb-false _ _ tests.1.1.0)
    where
      either : (k : ℕ) → k < 2 → (k ≡ 0) ⊎ (k ≡ 1)
      either zero l = inl refl
      either (suc zero) l = inr refl
      either (suc (suc k)) l = absurd (omega arith)

  modulus : IsModulus μ
  modulus = tested_modulus μ (not-false _ tests.1.0)

  job_valid : (s : ℕ) → s < 3 → valid_job (job_of μ h s) ≡ true
  job_valid s l = opened_valid μ h s (not-false _ tests.1.0) (leb-false _ _ tests.0) header_sound l

  -- kind 0
  zero_sound : LawfulModel (zero_model μ h)
  zero_sound = record { valid = job_valid 0 (omega arith); lawful = zero_lawful μ (group_of h.group) (half_lengths h.lengths) }

  zero_volume : replicate (length v) 0 ≡ model_volume (zero_model μ h)
  unfolding model_volume
  zero_volume = ap (λ n. replicate n 0) volume_long ∙ sym (zero_packed μ (group_of h.group) (half_lengths h.lengths) opening_long)

  -- kind 1: the tests that only a map is put to
  module _ (map : kind ≡ 1) where
    asked : (b : Bool) → (eqb kind 1 && not b) ≡ false → b ≡ true
    asked b e = not-false b (ap (λ (x : Bool). x && not b) (sym (eq-eqb kind 1 map)) ∙ e)

    volume_below : Below (prime μ) v
    volume_below = below_all_below (prime μ) v (prime_pos μ) (asked (all_below (prime μ) v) tests.1.1.1.1.1.1.1.1.0)

    volume_consistent : consistent_map (group_of h.group) (half_lengths h.lengths) v ≡ true
    volume_consistent = asked _ tests.1.1.1.1.1.1.1.1.1.0

    map_sound : LawfulModel (map_model μ h v)
    map_sound = let s = sound_axes h header_sound in
        record {
          valid = job_valid 2 (omega arith);
          lawful = opened_factors (group_of h.group) (half_lengths h.lengths) μ (axis_laws μ modulus s.0.size) (axis_laws μ modulus s.1.size) (axis_laws μ modulus s.2.size) v volume_long volume_below volume_consistent;
        }

    map_volume_lem : v ≡ model_volume (map_model μ h v)
    unfolding model_volume
    map_volume_lem = let s = sound_axes h header_sound in
        sym (opened_map (group_of h.group) (half_lengths h.lengths) μ (axis_laws μ modulus s.0.size) (axis_laws μ modulus s.1.size) (axis_laws μ modulus s.2.size) v volume_long volume_below volume_consistent)

    not_zero : eqb kind 0 ≡ false
    not_zero = ne_eqb kind 0 (λ e. omega arith)

  pub opening_sound : LawfulModel (opening_model μ h kind v)
  opening_sound = ⊎_elim (λ e. rw (eq-eqb kind 0 e) zero_sound) (λ e. rw (not_zero e) (map_sound e)) kind_is

  pub opening_gives : open_step μ h kind v ≡ given (opening_model μ h kind v)
  unfolding open_step
  opening_gives = ⊎_elim
      (λ e. rw (← none, eq-eqb kind 0 e) (ap (λ w. record { answer = opened (job_of μ h collecting); volume = w }) zero_volume))
      (λ e. rw (← none, not_zero e) (ap (λ w. record { answer = opened (job_of μ h map_held); volume = w }) (map_volume_lem e)))
      kind_is

-- ---- every opening: the tests of the model come first, then those of the volume

abbrev pub fault_of : (μ : ℕ) → Header → (kind : ℕ) → List ℕ → ℕ
fault_of μ h kind v = first (volume_tests μ h.group h.lengths kind v)

pub data Verdict (μ : ℕ) (h : Header) (kind : ℕ) (v : List ℕ) : Type 0 where
  passes : first (open_tests μ h kind v) ≡ 0 → first (beginning_tests μ h kind) ≡ 0 → Verdict μ h kind v
  fails : (n : ℕ) → first (open_tests μ h kind v) ≡ suc n → first (beginning_tests μ h kind) ≡ suc n → Verdict μ h kind v
  faulty : (n : ℕ) → first (open_tests μ h kind v) ≡ suc n → first (beginning_tests μ h kind) ≡ 0 → fault_of μ h kind v ≡ suc n → Verdict μ h kind v

module _ (μ : ℕ) (h : Header) (kind : ℕ) (v : List ℕ) where
  pub verdict : Verdict μ h kind v
  verdict = by (first (beginning_tests μ h kind)) (fault_of μ h kind v) refl refl (first_append (beginning_tests μ h kind) (volume_tests μ h.group h.lengths kind v) tt)
    where
      by : (b f : ℕ) → first (beginning_tests μ h kind) ≡ b → fault_of μ h kind v ≡ f → first (open_tests μ h kind v) ≡ accepted b f (λ n. n) → Verdict μ h kind v
      by zero zero eb ef e = passes e eb
      by zero (suc n) eb ef e = faulty n e eb ef
      by (suc n) f eb ef e = fails n e eb

  pub open_refused : {n : ℕ} → first (open_tests μ h kind v) ≡ suc n → open_step μ h kind v ≡ record { answer = not_opened (suc n) 0; volume = v }
  unfolding open_step
  open_refused e = rw e

-- a volume without fault: as long as the header asks for, and for kind 1 the map of a cell
pub faultless : (μ : ℕ) (h : Header) (kind : ℕ) (v : List ℕ) → first (beginning_tests μ h kind) ≡ 0 → length v ≡ needed h
    → (kind ≡ 1 → MapConsistent (group_of h.group) (half_lengths h.lengths) μ v) → 0 ≡ fault_of μ h kind v
faultless μ h kind v none long map = by (ℕ_discrete kind 1)
  where
    g : Group
    g = group_of h.group

    a : J
    a = half_lengths h.lengths

    axes_pass : 0 ≡ first (axis_tests h)
    axes_pass = let t = (passed (beginning_tests μ h kind) tt (sym none)).1.1.1 in pass 3 _ t.0 (pass 4 _ t.1.0 (pass 5 _ t.1.1.0 (pass 9 _ t.1.1.1.0 no_test)))

    fit : eqb (length v) (needed h) ≡ true
    fit = eq-eqb _ _ long

    by : Dec (kind ≡ 1) → 0 ≡ fault_of μ h kind v
    by (no n) = volume_collects μ h.group h.lengths kind v fit n
    by (yes e) =
        let s = sound_axes h axes_pass in
        let c = map e in
        let small : Below (prime μ) v = subst (Below (prime μ)) c.3 (below_map g a μ c.0) in
        volume_held μ h.group h.lengths kind v fit e
        (pass 7 _ (not_t _ (all_below_below (prime μ) v small)) (pass 14 _ (not_t _ ((map_consistent g a (s.0.size.positive, s.1.size.positive, s.2.size.positive) μ v long small).1 c)) no_test))

-- the faults of a volume: 6, and of a map 7, 14
pub no_fault : (μ : ℕ) (h : Header) (kind : ℕ) (v : List ℕ) (n : ℕ) → fault_of μ h kind v ≡ suc n → (suc n ≡ 6 → ⊥) → (kind ≡ 1 → (suc n ≡ 7 → ⊥) × (suc n ≡ 14 → ⊥)) → ⊥
unfolding first
no_fault μ h kind v n e six map =
    let a = half_lengths h.lengths in
    by (not (eqb (length v) (volume_length (group_of h.group) a))) (eqb kind 1 && not (all_below (prime μ) v)) (eqb kind 1 && not (consistent_map (group_of h.group) a v)) (asked_of _) (asked_of _) e
  where
    asked_of : (b : Bool) → (eqb kind 1 && b) ≡ true → kind ≡ 1
    asked_of b q = eqb-true kind 1 (both (eqb kind 1) b q).0

    by : (a b c : Bool) → (b ≡ true → kind ≡ 1) → (c ≡ true → kind ≡ 1) → cond a 6 (cond b 7 (cond c 14 0)) ≡ suc n → ⊥
    by true b c f g q = six (sym q)
    by false true c f g q = (map (f refl)).0 (sym q)
    by false false true f g q = (map (g refl)).1 (sym q)
    by false false false f g q = omega arith
