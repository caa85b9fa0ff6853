-- The job: the tests of every call, in the paper's order of refusals, on plain numbers; what an opening makes of a
-- header, which jobs an opening or a later call could have made (refusal 25), and what each call answers and leaves.
pub use Rattle.header.specs.Header.{Header, half_lengths, volume_limit, needed, axis_tests, collecting, factors_held}
pub use Rattle.header.specs.Header.{map_held}
pub use Rattle.header.specs.Cells.{cell_header}
use Rattle.std.specs.Prelude.{◌&&◌, ◌∷◌, ◌++◌}
use Rattle.algebra.specs.Prelude.{Bool, cond, eqb, ltb, ℕ, List, length, get_or, replicate, not, leb, []}
use Rattle.algebra.specs.cells.Cell.{J, Group, at, every}
use Rattle.lengths.specs.Lengths.{octal, octal_digits, cleared, scratch_length}
use Rattle.refusals.specs.Refusals.{first, Test, accepted, ◌⇒◌}
use Rattle.cell.specs.Volume.{factors_in, pack_factors, density_place, map_in, pack_map, map_of, factors_of, group_of}
use Rattle.cell.specs.Volume.{volume_length, numbers_read}
use Rattle.cell.specs.declared.operations.UnitCell.{UnitCell}
use Rattle.cell.specs.Operations.{cell_group, cell_halves}
use Rattle.job.specs.declared.Job.{Job}
use Rattle.numbers.specs.Value.{value, prime, is_modulus}
use Rattle.signed.specs.Integers.{ℤ, centred}
use Rattle.cell.specs.Consistency.{record_on, consistent_factors, consistent_map, agrees_with_itself, orbit_free}
use Rattle.job.specs.declared.Reflection.{Reflection}
use Rattle.job.specs.declared.GridPoint.{GridPoint}
use Rattle.slices.specs.Pairs.{all_below}
use Rattle.power.specs.Power.{map_power, factor_power}

-- ---- the tests

-- the volume is exactly as long as group and lengths ask for
abbrev pub as_long : (group : ℕ) (lengths : J) → List ℕ → Bool
as_long group n v = eqb (length v) (volume_length (group_of group) (half_lengths n))

-- The volume that an opening is lent: 6, and for a map (kind 1) 7, 14.
abbrev pub volume_tests : (modulus group : ℕ) (lengths : J) (kind : ℕ) → List ℕ → List Test
volume_tests m group n kind v =
    not (as_long group n v) ⇒ 6 ∷
    (eqb kind 1 && not (all_below (prime m) v)) ⇒ 7 ∷
    (eqb kind 1 && not (consistent_map (group_of group) (half_lengths n) v)) ⇒ 14 ∷
    []

-- Open: 8, 26, 2, then 3, 4, 5 each over the three axes, 9, 6, and for a map 7, 14.
abbrev pub open_tests : (modulus : ℕ) → Header → (kind : ℕ) → List ℕ → List Test
open_tests m h kind v =
    leb 5 h.group ⇒ 8 ∷ not (is_modulus m) ⇒ 26 ∷
    leb 2 kind ⇒ 2 ∷
    (axis_tests h ++ volume_tests m h.group h.lengths kind v)

-- an index or a point has each number below its axis length
abbrev pub within : (lengths x : J) → Bool
within n x = ltb x.0 n.0 && (ltb x.1 n.1 && ltb x.2 n.2)

-- A volume that is held as factors, as a map: 7, 14.
abbrev pub factors_tests : (modulus group : ℕ) (lengths : J) → List ℕ → List Test
factors_tests m group n v =
    not (all_below (prime m) v) ⇒ 7 ∷
    not (consistent_factors (group_of group) (half_lengths n) m v) ⇒ 14 ∷
    []

abbrev pub map_tests : (modulus group : ℕ) (lengths : J) → List ℕ → List Test
map_tests m group n v =
    not (all_below (prime m) v) ⇒ 7 ∷
    not (consistent_map (group_of group) (half_lengths n) v) ⇒ 14 ∷
    []

-- Synthesis: 25, 23, 6, 13, 7, 14.
abbrev pub synthesis_tests_of : (valid : Bool) (state modulus group : ℕ) (lengths : J) (v : List ℕ)
    (scratch : ℕ) →
    List Test
synthesis_tests_of valid state m group n v scratch =
    not valid ⇒ 25 ∷
    eqb state map_held ⇒ 23 ∷
    not (as_long group n v) ⇒ 6 ∷
    ltb scratch scratch_length ⇒ 13 ∷
    factors_tests m group n v

-- Analysis: 25, 22, 6, 13, 7, 14.
abbrev pub analysis_tests_of : (valid : Bool) (state modulus group : ℕ) (lengths : J) (v : List ℕ) (scratch : ℕ) →
    List Test
analysis_tests_of valid state m group n v scratch =
    not valid ⇒ 25 ∷
    not (eqb state map_held) ⇒ 22 ∷
    not (as_long group n v) ⇒ 6 ∷
    ltb scratch scratch_length ⇒ 13 ∷
    map_tests m group n v

-- The power of a map: 25, 22, 6, 7, 14, and of factors: 25, 23, 6, 7, 14: as an analysis and a synthesis, but they need
-- no scratch.
abbrev pub map_power_tests_of : (valid : Bool) (state modulus group : ℕ) (lengths : J) (v : List ℕ) → List Test
map_power_tests_of valid state m group n v =
    not valid ⇒ 25 ∷
    not (eqb state map_held) ⇒ 22 ∷
    not (as_long group n v) ⇒ 6 ∷
    map_tests m group n v

abbrev pub factor_power_tests_of : (valid : Bool) (state modulus group : ℕ) (lengths : J) (v : List ℕ) → List Test
factor_power_tests_of valid state m group n v =
    not valid ⇒ 25 ∷
    eqb state map_held ⇒ 23 ∷
    not (as_long group n v) ⇒ 6 ∷
    factors_tests m group n v

-- ---- a record

-- What its own numbers settle, whatever else was recorded: 10, 7, 12.
abbrev pub own_tests : (modulus group : ℕ) (lengths at : J) (x y : ℕ) → List Test
own_tests m group n at x y =
    not (within n at) ⇒ 10 ∷ not (ltb x (prime m) && ltb y (prime m)) ⇒ 7 ∷
    not (agrees_with_itself (group_of group) (half_lengths n) m at (value m x y)) ⇒ 12 ∷
    []

-- What the volume holds of its orbit: 6, 24.
abbrev pub orbit_tests : (group : ℕ) (lengths at : J) → List ℕ → List Test
orbit_tests group n at v =
    not (as_long group n v) ⇒ 6 ∷
    not (orbit_free (group_of group) (half_lengths n) v at) ⇒ 24 ∷
    []

-- Record: 25, 21, 10, 7, 12, 6, 24.
abbrev pub record_tests_of : (valid : Bool) (state modulus group : ℕ) (lengths at : J) (x y : ℕ) →
    List ℕ →
    List Test
record_tests_of valid state m group n at x y v =
    not valid ⇒ 25 ∷
    not (eqb state collecting) ⇒ 21 ∷
    (own_tests m group n at x y ++ orbit_tests group n at v)

-- ---- the readings

-- The number of a point: 6, 7.
abbrev pub density_tests : (modulus group : ℕ) (lengths x : J) → List ℕ → List Test
density_tests m group n x v =
    not (as_long group n v) ⇒ 6 ∷
    not (ltb (get_or v (density_place (group_of group) (half_lengths n) x) 0) (prime m)) ⇒ 7 ∷
    []

-- Reading a point: 25, 22, 10, 6, 7 (of the number read only).
abbrev pub point_tests_of : (valid : Bool) (state modulus group : ℕ) (lengths x : J) → List ℕ → List Test
point_tests_of valid state m group n x v =
    not valid ⇒ 25 ∷
    not (eqb state map_held) ⇒ 22 ∷
    not (within n x) ⇒ 10 ∷
    density_tests m group n x v

-- The numbers that a factor is read from: 6, 7.
abbrev pub stored_tests : (modulus group : ℕ) (lengths at : J) → List ℕ → List Test
stored_tests m group n at v =
    not (as_long group n v) ⇒ 6 ∷
    not (every (numbers_read (group_of group) (half_lengths n) at) (λ q. ltb (get_or v q 0) (prime m))) ⇒ 7 ∷
    []

-- Reading a factor: 25, 23, 10, 6, 7 (of the numbers read only).
abbrev pub factor_tests_of : (valid : Bool) (state modulus group : ℕ) (lengths at : J) → List ℕ → List Test
factor_tests_of valid state m group n at v =
    not valid ⇒ 25 ∷
    eqb state map_held ⇒ 23 ∷
    not (within n at) ⇒ 10 ∷
    stored_tests m group n at v

-- ---- the job

-- the job of a modulus number, a header and a state
abbrev pub job_of : (modulus : ℕ) → Header → (state : ℕ) → Job
job_of m h s = record {
  group = h.group;
  modulus = m;
  a = record { length = h.lengths.0; factors = octal h.list1 };
  b = record { length = h.lengths.1; factors = octal h.list2 };
  c = record { length = h.lengths.2; factors = octal h.list3 };
  state = s;
}

abbrev pub header_of : Job → Header
header_of j = record {
  group = j.group;
  lengths = (j.a.length, j.b.length, j.c.length);
  list1 = octal_digits j.a.factors;
  list2 = octal_digits j.b.factors;
  list3 = octal_digits j.c.factors;
}

abbrev pub with_state : Job → ℕ → Job
with_state j s = record { group = j.group; modulus = j.modulus; a = j.a; b = j.b; c = j.c; state = s }

-- Refusal 25 is not this: an opening or a later call could have made the job.
unfoldable pub valid_job : Job → Bool
valid_job j =
    ltb j.group 5 && (is_modulus j.modulus && (eqb (first (axis_tests (header_of j))) 0 && ltb j.state 3))

-- a job's unit cell, the cell's group, and the halves of its lengths
abbrev pub job_cell : Job → UnitCell
job_cell j = record { group = j.group; n1 = j.a.length; n2 = j.b.length; n3 = j.c.length }

abbrev pub group_in : Job → Group
group_in j = cell_group (job_cell j)

abbrev pub halves : Job → J
halves j = cell_halves (job_cell j)

-- ---- the calls: what each answers and leaves, for every input

-- What an opening or a file answers: a job, or the refusal's number and the place of the record at fault (0 where it is
-- no record).
pub data Opening : Type 0 where
  opened : Job → Opening
  not_opened : (number place : ℕ) → Opening

pub record OpenOutcome : Type 0 where
  pub answer : Opening
  pub volume : List ℕ

unfoldable pub open_step : (modulus : ℕ) → Header → (kind : ℕ) → List ℕ → OpenOutcome
open_step m h kind v =
    accepted (first (open_tests m h kind v))
    (cond (eqb kind 0)
    (record { answer = opened (job_of m h collecting); volume = replicate (length v) 0 })
    (record { answer = opened (job_of m h map_held); volume = v }))
    (λ n. record { answer = not_opened n 0; volume = v })

-- What a call of a job says, in the paper's numbers and values: a density is a signed whole number, a factor two
-- residues, a power one.
pub data Said : Type 0 where
  done : Said
  density : ℤ → Said
  factor : ℕ → ℕ → Said
  power : ℕ → Said
  refused : ℕ → Said

pub record Outcome : Type 0 where
  pub answer : Said
  pub job : Job
  pub volume : List ℕ

-- a refused call changes nothing
abbrev pub unchanged : Job → List ℕ → ℕ → Outcome
unchanged j v n = record { answer = refused n; job = j; volume = v }

abbrev pub index : Reflection → J
index at = (at.0, at.1, at.2)

abbrev pub position : GridPoint → J
position at = (at.0, at.1, at.2)

abbrev pub fits : Job → List ℕ → Bool
fits j v = as_long j.group (header_of j).lengths v

abbrev pub record_tests : Job → J → (x y : ℕ) → List ℕ → List Test
record_tests j at x y v = record_tests_of (valid_job j) j.state j.modulus j.group (header_of j).lengths at x y v

unfoldable pub record_step : Job → Reflection → (x y : ℕ) → List ℕ → Outcome
record_step j at x y v =
    accepted (first (record_tests j (index at) x y v))
    (record {
      answer = done;
      job = j;
      volume = record_on (group_in j) (halves j) j.modulus (index at) (value j.modulus x y) v;
    })
    (unchanged j v)

-- Synthesis and analysis are lent a scratch too.
pub record Worked : Type 0 where
  pub outcome : Outcome
  pub scratch : List ℕ

abbrev pub synthesised : Job → List ℕ → List ℕ
synthesised j v =
    pack_map (group_in j) (halves j) j.modulus
    (map_of j.modulus (halves j) (factors_in (group_in j) (halves j) j.modulus v))

unfoldable pub synthesis_step : Job → (v scratch : List ℕ) → Worked
synthesis_step j v scratch =
    accepted
    (first
    (synthesis_tests_of (valid_job j) j.state j.modulus j.group (header_of j).lengths v (length scratch)))
    (record {
      outcome = record { answer = done; job = with_state j map_held; volume = synthesised j v };
      scratch = cleared scratch;
    })
    (λ n. record { outcome = unchanged j v n; scratch = scratch })

abbrev pub analysed : Job → List ℕ → List ℕ
analysed j v =
    pack_factors (group_in j) (halves j) j.modulus
    (factors_of j.modulus (halves j) (map_in (group_in j) (halves j) j.modulus v))

unfoldable pub analysis_step : Job → (v scratch : List ℕ) → Worked
analysis_step j v scratch =
    accepted
    (first
    (analysis_tests_of (valid_job j) j.state j.modulus j.group (header_of j).lengths v (length scratch)))
    (record {
      outcome = record { answer = done; job = with_state j factors_held; volume = analysed j v };
      scratch = cleared scratch;
    })
    (λ n. record { outcome = unchanged j v n; scratch = scratch })

-- A reading of a point gives the signed whole number next to zero that is congruent to the point's residue.
unfoldable pub point_step : Job → GridPoint → List ℕ → Outcome
point_step j at v =
    accepted
    (first (point_tests_of (valid_job j) j.state j.modulus j.group (header_of j).lengths (position at) v))
    (record {
      answer = density (centred (prime j.modulus) (get_or v (density_place (group_in j) (halves j) (position at)) 0));
      job = j;
      volume = v;
    })
    (unchanged j v)

unfoldable pub factor_step : Job → Reflection → List ℕ → Outcome
factor_step j k v =
    accepted (first (factor_tests_of (valid_job j) j.state j.modulus j.group (header_of j).lengths (index k) v))
    (let x = at (factors_in (group_in j) (halves j) j.modulus v) (index k) in
    record { answer = factor x.0.val x.1.val; job = j; volume = v })
    (unchanged j v)

-- The power of the map that is held, and of the factors.
unfoldable pub map_power_step : Job → List ℕ → Outcome
map_power_step j v =
    accepted (first (map_power_tests_of (valid_job j) j.state j.modulus j.group (header_of j).lengths v))
    (record { answer = power (map_power (group_in j) (halves j) j.modulus v); job = j; volume = v })
    (unchanged j v)

unfoldable pub factor_power_step : Job → List ℕ → Outcome
factor_power_step j v =
    accepted (first (factor_power_tests_of (valid_job j) j.state j.modulus j.group (header_of j).lengths v))
    (record { answer = power (factor_power (group_in j) (halves j) j.modulus v); job = j; volume = v })
    (unchanged j v)

-- ---- a call as a value

-- A call's arguments. Synthesis and analysis are lent a scratch.
pub data Call : Type 0 where
  recording : Reflection → (x y : ℕ) → Call
  synthesis : (scratch : List ℕ) → Call
  analysis : (scratch : List ℕ) → Call
  read_point : GridPoint → Call
  read_factor : Reflection → Call
  read_map_power : Call
  read_factor_power : Call

-- each call by its own promise
abbrev pub step : Job → List ℕ → Call → Outcome
step j v (recording k x y) = record_step j k x y v
step j v (synthesis scratch) = (synthesis_step j v scratch).outcome
step j v (analysis scratch) = (analysis_step j v scratch).outcome
step j v (read_point x) = point_step j x v
step j v (read_factor k) = factor_step j k v
step j v read_map_power = map_power_step j v
step j v read_factor_power = factor_power_step j v
