-- The files without a record at fault, in the words of the opening: those refused for their shape, those whose header
-- opens no job, those that are accepted. With FewestAreOpened, which speaks of all others, a file has records at fault
-- exactly if it is refused at a record.
use Rattle.std.specs.Prelude.{◌≡◌}
use Rattle.algebra.specs.Prelude.{ℕ, List, [], length}
use Rattle.refusals.specs.Refusals.{first}
use Rattle.header.specs.Header.{needed}
use Rattle.job.specs.declared.Job.{Job}
use Rattle.job.specs.Job.{opened, not_opened, open_step}
use Rattle.factor_file.specs.File.{modulus_in, header_in, shape_tests, file_step}
use Rattle.faults.specs.Faults.{faults_in}

pub record OthersGiveNone : Type 0 where
  pub shape :
      (file : List ℕ) →
      (first (shape_tests file) ≡ 0 → ⊥) →
      faults_in file ≡ []
  -- on a volume as long as the header asks for: 6 does not arise
  pub opening :
      (file v : List ℕ) →
      length v ≡ needed (header_in file) →
      (number place : ℕ) → (open_step (modulus_in file) (header_in file) 0 v).answer ≡ not_opened number place →
      faults_in file ≡ []
  pub accepted :
      (file v : List ℕ) (j : Job) →
      (file_step file v).answer ≡ opened j →
      faults_in file ≡ []
