-- The record is within the cell, so its orbit has a place.
use borrow.Author.Rules.{rules}
use mathlib.Core.Path.{◌∙◌, ap}
use Rattle.cell.specs.Operations.{cell_group, cell_halves}
use Rattle.cell.specs.OrbitPlace.{orbit_place}
use Rattle.file_format.specs.Format.{record_at}
use Rattle.faults.specs.FaultSteps.{place_of}
use Rattle.faults.proofs.FaultLaws.{record_within}
use Rattle.faults.proofs.place_at.Statement.{statement}
use Rattle.faults.proofs.place_at.Tie as tie
use Rattle.faults.proofs.place_at.Reads as reads
use Rattle.faults.proofs.place_at.Lts as lts
use Rattle.faults.proofs.index_at.Reads as index-at-reads
use Rattle.volume.proofs.orbit_place.orbit_place.Reads as orbit-place-reads

index_at-j-requires : tie.Need-index_at-j-requires
index_at-j-requires c κs = search rules

orbit_place-requires : tie.Need-orbit_place-requires
orbit_place-requires c κs = let s = c.before.before in (s.requires.0, record_within s.args.cell (record_at s.args.file.now s.args.at) c.index_at-j.result c.index_at-j.ensures s.requires.2)

returns : tie.Need-returns
unfolding place_of
returns c =
    let a = c.before.before.before.args in
    (c.orbit_place.ensures.0 ∙ ap (orbit_place (cell_group a.cell) (cell_halves a.cell)) c.before.index_at-j.ensures, c.orbit_place.ensures.1)

pub place_at_spec : {M : Type 1} → statement M
place_at_spec = tie.close (tie.spec index_at-j-requires orbit_place-requires returns)
