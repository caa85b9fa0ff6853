-- The reference model (the paper's book): a state, and F for every (h, k, l) of the whole cell. It is fed the calls'
-- arguments without job and volume, save a volume opened as a map, and knows no packing: its refusals follow from
-- arguments and state alone.
use Rattle.std.specs.Prelude.{◌&&◌, ◌∷◌}
use Rattle.algebra.specs.Prelude.{not, cond, eqb, leb, ltb, ℕ, List, [], length}
use Rattle.algebra.specs.cells.Cell.{J, Group, Cell, at}
use Rattle.numbers.specs.Value.{prime, is_modulus, Value, value, field, conj}
use Rattle.signed.specs.Integers.{ℤ, centred}
use Rattle.refusals.specs.Refusals.{Test, ◌⇒◌, first, accepted}
use Rattle.lengths.specs.Lengths.{scratch_length}
use Rattle.cell.specs.Volume.{group_of, pack_factors, map_in, pack_map, map_of, factors_of}
use Rattle.cell.specs.Consistency.{same_value, record_in, agrees_with_itself}
use Rattle.job.specs.declared.Job.{Job}
use Rattle.job.specs.Job.{Header, half_lengths, axis_tests, collecting, factors_held, map_held, job_of, within, index}
use Rattle.job.specs.Job.{position, Said, done, density, factor, power, refused}
use Rattle.power.specs.Power.{over_cell}
use Rattle.file_format.specs.declared.FileRecord.{FileRecord}
use Rattle.file_format.specs.Format.{records_in, shape_tests, header_in}
use Rattle.factor_file.specs.File.{taken, refused_at, judged}
pub use Rattle.job.specs.Job.{Call, recording, synthesis, analysis, read_point, read_factor, read_map_power}
pub use Rattle.job.specs.Job.{read_factor_power}

-- The header is the opening's. The model uses its group and its lengths; the factor lists are in the job that is given
-- back. F is meant below the lengths: an image goes round the cell, and a call that names an index beyond it is
-- refused. The modulus number μ is the opening's too; it stands before the model, so that F has one type whatever the
-- calls.
pub record Model (μ : ℕ) : Type 0 where
  pub header : Header
  pub state : ℕ
  pub F : Cell (Value μ)

abbrev pub group : {μ : ℕ} → Model μ → Group
group m = group_of m.header.group

abbrev pub half : {μ : ℕ} → Model μ → J
half m = half_lengths m.header.lengths

-- the structure factor at an index, and the map over F at a point
abbrev pub factor_of : {μ : ℕ} → Model μ → J → Value μ
factor_of m j = at m.F j

abbrev pub density_of : {μ : ℕ} → Model μ → J → Value μ
density_of {μ} m x = at (map_of μ (half m) m.F) x

-- what a reading gives of a value of the map, which is real: the signed whole number next to zero that is congruent to
-- it
abbrev pub signed_real : (μ : ℕ) → Value μ → ℤ
signed_real μ d = centred (prime μ) d.0.val

-- the sum over the whole cell of the square of the map, and of F × conj F, each a residue: they are real
abbrev pub map_power_of : {μ : ℕ} → Model μ → ℕ
map_power_of {μ} m =
    (over_cell μ (half m) (λ x y z. (field μ).mul (density_of m (x, y, z)) (density_of m (x, y, z)))).0.val

abbrev pub factor_power_of : {μ : ℕ} → Model μ → ℕ
factor_power_of {μ} m =
    (over_cell μ (half m) (λ h k l. (field μ).mul (factor_of m (h, k, l)) (conj μ (factor_of m (h, k, l))))).0.val

-- ---- calls

-- The refusals of a call, in the paper's order. Faults of job or volume (25, 6, 14, and 7 in the volume) do not arise.
abbrev pub model_tests : {μ : ℕ} → Model μ → Call → List Test
model_tests {μ} m (recording k x y) =
    not (eqb m.state collecting) ⇒ 21 ∷
    not (within m.header.lengths (index k)) ⇒ 10 ∷
    not (ltb x (prime μ) && ltb y (prime μ)) ⇒ 7 ∷
    not (agrees_with_itself (group m) (half m) μ (index k) (value μ x y)) ⇒ 12 ∷
    not (same_value (factor_of m (index k)) (value μ 0 0)) ⇒ 24 ∷
    []
model_tests m (synthesis scratch) = eqb m.state map_held ⇒ 23 ∷ ltb (length scratch) scratch_length ⇒ 13 ∷ []
model_tests m (analysis scratch) =
    not (eqb m.state map_held) ⇒ 22 ∷ ltb (length scratch) scratch_length ⇒ 13 ∷ []
model_tests m (read_point x) =
    not (eqb m.state map_held) ⇒ 22 ∷ not (within m.header.lengths (position x)) ⇒ 10 ∷ []
model_tests m (read_factor k) =
    eqb m.state map_held ⇒ 23 ∷ not (within m.header.lengths (index k)) ⇒ 10 ∷ []
model_tests m read_map_power = not (eqb m.state map_held) ⇒ 22 ∷ []
model_tests m read_factor_power = eqb m.state map_held ⇒ 23 ∷ []

-- what an accepted call says ..
abbrev pub model_says : {μ : ℕ} → Model μ → Call → Said
model_says m (recording k x y) = done
model_says m (synthesis scratch) = done
model_says m (analysis scratch) = done
model_says {μ} m (read_point x) = density (signed_real μ (density_of m (position x)))
model_says m (read_factor k) = factor (factor_of m (index k)).0.val (factor_of m (index k)).1.val
model_says m read_map_power = power (map_power_of m)
model_says m read_factor_power = power (factor_power_of m)

-- .. and what the model is after it: a record puts its value at its index and the implied value at each image,
-- synthesis and analysis change the state alone
abbrev pub in_state : {μ : ℕ} → Model μ → ℕ → Model μ
in_state m s = record { header = m.header; state = s; F = m.F }

abbrev pub model_next : {μ : ℕ} → Model μ → Call → Model μ
model_next {μ} m (recording k x y) =
    record { header = m.header; state = m.state; F = record_in (group m) (half m) μ (index k) (value μ x y) m.F }
model_next m (synthesis scratch) = in_state m map_held
model_next m (analysis scratch) = in_state m factors_held
model_next m (read_point x) = m
model_next m (read_factor k) = m
model_next m read_map_power = m
model_next m read_factor_power = m

-- a refused call answers its number and changes nothing
unfoldable pub model_said : {μ : ℕ} → Model μ → Call → Said
model_said m c = accepted (first (model_tests m c)) (model_says m c) refused

unfoldable pub model_after : {μ : ℕ} → Model μ → Call → Model μ
model_after m c = accepted (first (model_tests m c)) (model_next m c) (λ n. m)

-- ---- what the model says of job and volume

-- The packed factors (the paper's box), and the map with its zeros.
abbrev pub factor_volume : {μ : ℕ} → Model μ → List ℕ
factor_volume {μ} m = pack_factors (group m) (half m) μ m.F

abbrev pub map_volume : {μ : ℕ} → Model μ → List ℕ
map_volume {μ} m = pack_map (group m) (half m) μ (map_of μ (half m) m.F)

-- The packed factors stand in the volume while collecting or factors held, the map while map held.
unfoldable pub model_volume : {μ : ℕ} → Model μ → List ℕ
model_volume m = cond (eqb m.state map_held) (map_volume m) (factor_volume m)

-- A job given back is the opening's but for its state, which is the model's.
abbrev pub model_job : {μ : ℕ} → Model μ → Job
model_job {μ} m = job_of μ m.header m.state

-- ---- beginnings

-- What an opening or a file begins: a model, or the refusal's number and the place of the record at fault (0 where it
-- is no record).
pub data Beginning (μ : ℕ) : Type 0 where
  begun : Model μ → Beginning μ
  not_begun : (number place : ℕ) → Beginning μ

-- 8, 26, 2, then 3, 4, 5 each over the three axes, 9. Faults of the volume (6, 7, 14) do not arise.
abbrev pub beginning_tests : (μ : ℕ) → Header → (kind : ℕ) → List Test
beginning_tests μ h kind = leb 5 h.group ⇒ 8 ∷ not (is_modulus μ) ⇒ 26 ∷ leb 2 kind ⇒ 2 ∷ axis_tests h

-- kind 0: F is zero everywhere
abbrev pub zero_model : (μ : ℕ) → Header → Model μ
zero_model μ h = record { header = h; state = collecting; F = λ h k l. value μ 0 0 }

-- kind 1: F is the analysis of the whole map, of which the volume has the stored planes
abbrev pub map_model : (μ : ℕ) → Header → List ℕ → Model μ
map_model μ h v =
    record {
      header = h;
      state = map_held;
      F = factors_of μ (half_lengths h.lengths) (map_in (group_of h.group) (half_lengths h.lengths) μ v);
    }

abbrev pub opening_model : (μ : ℕ) → Header → (kind : ℕ) → List ℕ → Model μ
opening_model μ h kind v = cond (eqb kind 0) (zero_model μ h) (map_model μ h v)

unfoldable pub model_open : (μ : ℕ) → Header → (kind : ℕ) → List ℕ → Beginning μ
model_open μ h kind v =
    accepted (first (beginning_tests μ h kind)) (begun (opening_model μ h kind v)) (λ n. not_begun n 0)

-- A file: an opening with kind 0 and the file's modulus, then its records. They are judged by the file alone, each by
-- itself and against those before it: two records of one orbit are refused, whatever their values. If none is refused,
-- each is recorded.
abbrev pub recording_of : FileRecord → Call
recording_of c = recording (record { 0 = c.h; 1 = c.k; 2 = c.l }) c.a c.b

unfoldable pub model_recorded : {μ : ℕ} → List FileRecord → Model μ → Model μ
model_recorded [] m = m
model_recorded (c ∷ cs) m = model_recorded cs (model_next m (recording_of c))

unfoldable pub model_feed : {μ : ℕ} → List FileRecord → Model μ → Beginning μ
model_feed {μ} cs m =
    elim (judged μ m.header.group m.header.lengths [] cs) [
      | taken ↦ begun (model_recorded cs m)
      | refused_at n place ↦ not_begun n place
    ]

-- (μ is the modulus of the file.)
unfoldable pub model_file : (μ : ℕ) → List ℕ → Beginning μ
model_file μ file =
    accepted (first (shape_tests file))
    (accepted (first (beginning_tests μ (header_in file) 0))
    (model_feed (records_in file) (zero_model μ (header_in file)))
    (λ n. not_begun n 0))
    (λ n. not_begun n 0)
