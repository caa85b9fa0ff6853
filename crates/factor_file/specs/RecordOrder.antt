-- The order of a file's records: each comes before the next by h, then k, then l, and each stands at the lowest place
-- of its orbit.
use Rattle.std.specs.Prelude.{◌≡◌, List, ◌∷◌, ◌++◌, map, ℕ}
use Rattle.algebra.specs.cells.Cell.{J, Sym, full, image_of}
use Rattle.algebra.specs.cells.CellOrder.{Before}
use Rattle.algebra.specs.orbits.Orbit.{Mem}
use Rattle.numbers.specs.Value.{Value}
use Rattle.job.specs.declared.Job.{Job}
use Rattle.job.specs.Job.{group_in, halves}
use Rattle.factor_file.specs.File.{job_records}

-- each comes before the next
abbrev pub Rising : List J → Type 0
Rising places = (xs ys : List J) (i j : J) → places ≡ xs ++ i ∷ j ∷ ys → Before i j

-- no image of j comes before it
abbrev pub LowestOfOrbit : Job → J → Type 0
LowestOfOrbit job j = (s : Sym) → Mem s (full (group_in job)) → Before (image_of (halves job) s j) j → ⊥

-- the records of a volume, as the writer lists them
pub record RecordsRise : Type 0 where
  pub rise : (job : Job) (v : List ℕ) → Rising (map (λ c. c.0) (job_records job v))
  pub lowest : (job : Job) (v : List ℕ) (c : J × Value job.modulus) →
      Mem c (job_records job v) →
      LowestOfOrbit job c.0
