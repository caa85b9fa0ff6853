-- The records at fault are the fewest: alone they are refused as the file is, no shorter choice that ends in the
-- refused record is, and no other of their length.
use Rattle.std.specs.Prelude.{◌≡◌, ◌-◌, ◌≤◌, ◌∷◌}
use Rattle.algebra.specs.Prelude.{ℕ, suc, List, [], length, get_or, map}
use Rattle.refusals.specs.Refusals.{first}
use Rattle.file_format.specs.declared.FileRecord.{FileRecord}
use Rattle.factor_file.specs.File.{Judgement, judged, refused_at, records_in, modulus_in, header_in, shape_tests}
use Rattle.job.specs.declared.Job.{Job}
use Rattle.job.specs.Job.{opened, open_step}
use Rattle.faults.specs.Faults.{faults_in}

-- what stands for a record where there is none
abbrev pub no_record : FileRecord
no_record = record { h = 0; k = 0; l = 0; a = 0; b = 0 }

-- the records at some places, in the order of these
abbrev pub chosen : List FileRecord → List ℕ → List FileRecord
chosen cs places = map (λ q. get_or cs q no_record) places

-- places that rise, none below the first number, and end in the second
pub data Rising : ℕ → ℕ → List ℕ → Type 0 where
  last : {low r : ℕ} → low ≤ r → Rising low r (r ∷ [])
  next : {low r q : ℕ} {qs : List ℕ} → low ≤ q → Rising (suc q) r qs → Rising low r (q ∷ qs)

-- what is made of records under the header of a file
abbrev pub judged_under : List ℕ → List FileRecord → Judgement
judged_under file cs = judged (modulus_in file) (header_in file).group (header_in file).lengths [] cs

-- the places of a choice that is refused with this number at its last record, r, as no shorter one is and no other as
-- short
pub record Fewest (file places : List ℕ) (number r : ℕ) : Type 0 where
  pub rise : Rising 0 r places
  pub refused : judged_under file (chosen (records_in file) places) ≡ refused_at number (length places - 1)
  pub fewest :
      (qs : List ℕ) → Rising 0 r qs →
      (place : ℕ) → judged_under file (chosen (records_in file) qs) ≡ refused_at number place →
      length places ≤ length qs
  pub only :
      (qs : List ℕ) → Rising 0 r qs →
      (place : ℕ) → judged_under file (chosen (records_in file) qs) ≡ refused_at number place →
      length qs ≡ length places →
      qs ≡ places

-- of every file whose shape is not refused, whose header opens a job on some volume, and one of whose records is
-- refused
pub record FewestExactly : Type 0 where
  pub each :
      (file v : List ℕ) (j : Job) →
      0 ≡ first (shape_tests file) →
      (open_step (modulus_in file) (header_in file) 0 v).answer ≡ opened j →
      (number r : ℕ) → judged_under file (records_in file) ≡ refused_at number r →
      Fewest file (faults_in file) number r
