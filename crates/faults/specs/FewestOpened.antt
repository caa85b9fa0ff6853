-- The same of the opening: the file of the chosen records under the same header, its counts apart, opened on any volume
-- of the length that the header asks for.
use Rattle.std.specs.Prelude.{◌≡◌, ◌-◌, ◌<◌, ◌≤◌}
use Rattle.algebra.specs.Prelude.{ℕ, List, length}
use Rattle.refusals.specs.Refusals.{first}
use Rattle.header.specs.Header.{needed}
use Rattle.job.specs.declared.Job.{Job}
use Rattle.job.specs.Job.{opened, not_opened, open_step}
use Rattle.file_format.specs.Format.{version_at, file_of}
use Rattle.file_format.specs.Parsed.{Bytes}
use Rattle.factor_file.specs.File.{byte_at, record_count, records_in, modulus_in, header_in, shape_tests, file_step}
use Rattle.faults.specs.Faults.{faults_in}
use Rattle.faults.specs.Fewest.{chosen, Rising}

-- the bytes of the smaller file: the version, the modulus and the header of a file, and of its records those at some
-- places, in the order of these
unfoldable pub smaller_file : (file places : List ℕ) → List ℕ
smaller_file file places =
    file_of (byte_at file version_at) (modulus_in file) (header_in file) (chosen (records_in file) places)

-- it is not refused for its shape, and this is what is read in it
pub record Smaller (file places : List ℕ) : Type 0 where
  pub shape : 0 ≡ first (shape_tests (smaller_file file places))
  pub modulus : modulus_in (smaller_file file places) ≡ modulus_in file
  pub header : header_in (smaller_file file places) ≡ header_in file
  pub records : records_in (smaller_file file places) ≡ chosen (records_in file) places

-- opened on a volume as long as the header of the first asks for, the second is refused with a number at a place
pub record RefusedAt (file opened : List ℕ) (number place : ℕ) : Type 0 where
  pub answer : (v : List ℕ) →
      length v ≡ needed (header_in file) →
      (file_step opened v).answer ≡ not_opened number place

-- the file of the records at fault is refused with the same number at the last of them; one of fewer, or of others as
-- few, that ends in the refused record is not
pub record FewestOpened (file : List ℕ) (number r : ℕ) : Type 0 where
  pub rise : Rising 0 r (faults_in file)
  pub refused : RefusedAt file (smaller_file file (faults_in file)) number (length (faults_in file) - 1)
  pub fewest :
      (qs : List ℕ) → Rising 0 r qs →
      (place : ℕ) → RefusedAt file (smaller_file file qs) number place →
      length (faults_in file) ≤ length qs
  pub only :
      (qs : List ℕ) → Rising 0 r qs →
      (place : ℕ) → RefusedAt file (smaller_file file qs) number place →
      length qs ≡ length (faults_in file) →
      qs ≡ faults_in file

-- of every file of bytes, of sound shape
pub record FewestAreOpened : Type 0 where
  -- the smaller file of any choice has its header and the chosen records
  pub smaller :
      (file : List ℕ) → Bytes file →
      0 ≡ first (shape_tests file) →
      (r : ℕ) → r < record_count file →
      (qs : List ℕ) → Rising 0 r qs →
      Smaller file qs
  -- where its header opens a job on some volume, and the file is refused on it: at a record, then
  pub each :
      (file v : List ℕ) (j : Job) → Bytes file →
      0 ≡ first (shape_tests file) →
      (open_step (modulus_in file) (header_in file) 0 v).answer ≡ opened j →
      (number r : ℕ) → (file_step file v).answer ≡ not_opened number r →
      FewestOpened file number r
