-- What is owed of the writer beside its promise: a file that was written reads back, its records rise, equal jobs and
-- volumes give equal files, a file that was read is written back in one way, whatever the order of its records, and a
-- file of no records is that of a cell whose factors are all zero. Each statement is the promise of the function of the
-- same name in src/read_back.rt.
use Rattle.std.specs.Prelude.{◌≡◌, refl, ◌⊎◌, true, List, [], ◌++◌, map, ℕ, ◌≤◌, length, take, drop, replicate}
use Rattle.algebra.specs.cells.Cell.{J}
use Rattle.algebra.specs.orbits.Orbit.{Mem}
use Rattle.job.specs.declared.Job.{Job}
use Rattle.numbers.specs.Value.{value}
use Rattle.refusals.specs.Refusals.{first}
use Rattle.job.specs.Job.{needed, collecting, factors_held, with_state, header_of, valid_job, opened, open_step, index}
use Rattle.file_format.specs.declared.FileRecord.{FileRecord}
use Rattle.file_format.specs.Format.{version_of, file_of}
pub use Rattle.factor_file.specs.File.{index_in}
use Rattle.factor_file.specs.File.{record_count, records_in, shape_tests, modulus_in, header_in, file_step, write_step}
use Rattle.model.specs.Model.{Model, density_of, zero_model}
use Rattle.output.specs.Output.{written}
use Rattle.factor_file.specs.RecordOrder.{Rising, LowestOfOrbit}
use Rattle.demands.specs.Demands.{reading, Started, Reordered}

-- The writer puts a file into an output: it answers the count of the file's bytes, they stand first, and the places
-- beyond them are as they were.
pub record Writes (j : Job) (v output file : List ℕ) : Type 0 where
  pub outcome : write_step j v output
      ≡ record { answer = written (length file); output = file ++ drop (length file) output }

-- The file that was written, read into any volume as long as the one that it was written from, gives the job and its
-- factors.
pub record ReadsBack : Type 0 where
  -- a call that is not refused has put a file into its output
  pub writes : (j : Job) (v output : List ℕ) (n : ℕ) →
      (write_step j v output).answer ≡ written n →
      Writes j v output (take n (write_step j v output).output)
  pub reads_back : (j : Job) (v output file u : List ℕ) → Writes j v output file → length u ≡ length v →
      file_step file u ≡ record { answer = opened (with_state j collecting); volume = v }

-- The records of a written file rise by h, then k, then l; and no image of a record's index comes before it.
pub record FileRises : Type 0 where
  pub rise : (j : Job) (v output file : List ℕ) → Writes j v output file → Rising (map index_in (records_in file))
  pub lowest : (j : Job) (v output file : List ℕ) →
      Writes j v output file →
      (c : FileRecord) →
      Mem c (records_in file) →
      LowestOfOrbit j (index_in c)

-- the two states with factors
abbrev pub WithFactors : Job → Type 0
WithFactors j = (j.state ≡ collecting) ⊎ (j.state ≡ factors_held)

-- Equal moduli, equal headers (group, lengths and factor lists) and equal volumes give equal files, whatever the
-- outputs held and whichever the state with factors.
pub record EqualFiles : Type 0 where
  pub same : (j j' : Job) (v output output' file : List ℕ) →
      j.modulus ≡ j'.modulus → header_of j ≡ header_of j' → WithFactors j' →
      length file ≤ length output' →
      Writes j v output file → Writes j' v output' file

-- Writing back what was read.
pub record WrittenTwice : Type 0 where
  -- a file that was written, then read, is written again byte for byte
  pub again : (j i : Job) (v w u output output' file : List ℕ) →
      Writes j v output file → length u ≡ length v →
      length file ≤ length output' →
      file_step file u ≡ record { answer = opened i; volume = w } → Writes i w output' file
  -- two accepted files of the same records, in whatever order, are written back alike
  pub reordered : (j j' : Job) (v v' w w' output output' file file' back : List ℕ) →
      Reordered file file' →
      file_step file v ≡ record { answer = opened j; volume = w } →
      file_step file' v' ≡ record { answer = opened j'; volume = w' } →
      length back ≤ length output' → Writes j w output back → Writes j' w' output' back

-- A file of no records stands for the cell whose factors are all zero.
pub record EmptyFiles : Type 0 where
  -- where its shape is sound, it does what an opening of its header with kind 0 does, refused or not
  pub opens : (file v : List ℕ) →
      0 ≡ first (shape_tests file) →
      record_count file ≡ 0 →
      file_step file v ≡ open_step (modulus_in file) (header_in file) 0 v
  -- where it is accepted, F is zero everywhere, and so is the volume
  pub zero : (file v : List ℕ) (j : Job) (w : List ℕ) (m : Model (modulus_in file)) →
      Started (reading file v refl) j w m →
      record_count file ≡ 0 →
      (m ≡ zero_model (modulus_in file) (header_in file)) × (w ≡ replicate (length v) 0)
  -- and so is its map, at every point
  pub map : (file v : List ℕ) (j : Job) (w : List ℕ) (m : Model (modulus_in file)) →
      Started (reading file v refl) j w m →
      record_count file ≡ 0 →
      (x : J) →
      density_of m x ≡ value (modulus_in file) 0 0
  -- the writer gives it for a volume of zeros ..
  pub written : (j : Job) (output : List ℕ) →
      valid_job j ≡ true → WithFactors j →
      let file = file_of (version_of j.modulus) j.modulus (header_of j) [] in
      length file ≤ length output → Writes j (replicate (needed (header_of j)) 0) output file
  -- .. and for no other
  pub only : (j : Job) (v output file : List ℕ) →
      Writes j v output file → record_count file ≡ 0 →
      v ≡ replicate (length v) 0
