-- The tests of a job's calls by its own numbers, and a step of the record's tests.
use Rattle.algebra.specs.Prelude.{Bool, ℕ, List}
use Rattle.refusals.specs.Refusals.{Test}
use Rattle.job.specs.declared.Job.{Job}
use Rattle.job.specs.Job.{header_of, valid_job, synthesis_tests_of, analysis_tests_of, map_power_tests_of}
use Rattle.job.specs.Job.{factor_power_tests_of, point_tests_of, factor_tests_of}
use Rattle.algebra.specs.cells.Cell.{J, Sym, same_j, image_of, implied_value, imply}
use Rattle.numbers.specs.Value.{Value, field, conj}
use Rattle.cell.specs.Consistency.{same_value}

-- refusal 12 is not this of each operation: if the image of at is at itself, the implied value is x
abbrev pub agrees_under : (a : J) (m : ℕ) (at : J) → Value m → Sym → Bool
agrees_under a m at x s = imply (same_j (image_of a s at) at) (same_value (implied_value (field m) (conj m) s at x) x)

abbrev pub synthesis_tests : Job → (v : List ℕ) (scratch : ℕ) → List Test
synthesis_tests j v scratch =
    synthesis_tests_of (valid_job j) j.state j.modulus j.group (header_of j).lengths v scratch

abbrev pub analysis_tests : Job → (v : List ℕ) (scratch : ℕ) → List Test
analysis_tests j v scratch =
    analysis_tests_of (valid_job j) j.state j.modulus j.group (header_of j).lengths v scratch

abbrev pub map_power_tests : Job → List ℕ → List Test
map_power_tests j v = map_power_tests_of (valid_job j) j.state j.modulus j.group (header_of j).lengths v

abbrev pub factor_power_tests : Job → List ℕ → List Test
factor_power_tests j v = factor_power_tests_of (valid_job j) j.state j.modulus j.group (header_of j).lengths v

abbrev pub point_tests : Job → J → List ℕ → List Test
point_tests j x v = point_tests_of (valid_job j) j.state j.modulus j.group (header_of j).lengths x v

abbrev pub factor_tests : Job → J → List ℕ → List Test
factor_tests j at v = factor_tests_of (valid_job j) j.state j.modulus j.group (header_of j).lengths at v
