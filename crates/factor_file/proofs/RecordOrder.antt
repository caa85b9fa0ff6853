-- The records that the writer lists rise by h, then k, then l, each at the lowest place of its orbit.
use mathlib.Core.Path.{subst}
use mathlib.Core.List.{List, [], ◌∷◌, ◌++◌}
use Rattle.algebra.specs.orbits.Orbit.{first}
use Rattle.algebra.specs.cells.Cell.{J, full, factor_acts, places_of}
use Rattle.algebra.specs.cells.CellOrder.{Before}
use Rattle.algebra.proofs.ring.Bool.{every_at}
use Rattle.algebra.proofs.cells.CellOrder.{Rises, cell_rises, records_lowest, records_rise, no_later_lem}
use Rattle.job.specs.Job.{group_in, halves}
use Rattle.factor_file.specs.File.{job_records}
use Rattle.factor_file.specs.RecordOrder.{Rising, RecordsRise}

-- where each comes before all that follow, each comes before the next
pub rises_rising : (l : List J) → Rises l → Rising l
unfolding Rises
rises_rising l r xs ys i j e = go xs (subst Rises e r)
  where
    go : (xs : List J) → Rises (xs ++ i ∷ j ∷ ys) → Before i j
    go [] r = r.0 j first
    go (x ∷ xs) r = go xs r.1

pub records_of_volume_rise : RecordsRise
unfolding job_records factor_acts
records_of_volume_rise = record {
  rise = λ job v. rises_rising _ (records_rise _ _ _ _ _ (places_of (halves job)) (cell_rises _ _ _ _));
  lowest = λ job v c m s k. no_later_lem _ _ (every_at (full (group_in job)) _ s (records_lowest _ _ _ _ _ (places_of (halves job)) c m) k);
}
