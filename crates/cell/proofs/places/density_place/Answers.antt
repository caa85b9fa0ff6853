-- A point's number is that of its pair in the row.
use Rattle.cell.proofs.PlaceLaws.{point_place_lem}
use Rattle.cell.proofs.places.density_place.Goals as goal

pub returns : goal.returns
returns c =
    point_place_lem c.requires.0 _ _ _ c.requires.1 c.stored_point-q.ensures.point_within c.stored_point-q.ensures.result_value c.pair_place.ensures.0
