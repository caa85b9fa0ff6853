-- What a map needs to be printed: the words of the contracts below the call.
use Rattle.std.specs.Prelude.{◌≡◌, true, List, ℕ, length}
use Rattle.cell.specs.Volume.{volume_length}
use Rattle.job.specs.declared.Job.{Job}
use Rattle.job.specs.Job.{group_in, halves, valid_job}
use Rattle.printing.specs.Text.{prints_residues}

-- a job and a volume as long as it needs ..
pub record Fitting (j : Job) (v : List ℕ) : Type 0 where
  pub valid : valid_job j ≡ true
  pub long : length v ≡ volume_length (group_in j) (halves j)

-- .. whose numbers are residues where they are printed
pub record Printable (j : Job) (v : List ℕ) : Type 0 where
  pub fitting : Fitting j v
  pub residues : prints_residues j v ≡ true
