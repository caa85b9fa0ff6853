-- Each return is the first test that holds, all the others before it being passed over.
use borrow.Author.Rules.{rules}
use mathlib.Core.Path.{◌≡◌, ap}
use mathlib.Core.Bool.{true, ◌&&◌}
use Prim.Native.Nat.{ℕ}
use lib.Dec.{eqb}
use borrow.Author.Tests.{eqb-true}
use Rattle.refusals.proofs.Tests.{stop, pass, none, not_t, not_f, by_true, by_false}
use Rattle.numbers.specs.Value.{prime}
use Rattle.slices.specs.Pairs.{all_below}
use Rattle.cell.specs.Volume.{volume_length}
use Rattle.cell.specs.Operations.{cell_group, cell_halves, cell_lengths}
use Rattle.cell.specs.TestSteps.{IsVolume}
use Rattle.header.proofs.Headers.{three, all_three}
use Rattle.job.specs.Job.{as_long}
use Rattle.combining.proofs.Tests.{two}
use Rattle.combining.proofs.check.check_volumes.Statement.{statement}
use Rattle.combining.proofs.check.check_volumes.Tie as tie

volume_length-needed-requires : tie.Need-volume_length-needed-requires
volume_length-needed-requires c κs = search rules

fits-requires : tie.Need-fits-requires
fits-requires c κs = search rules

fits-requires-2 : tie.Need-fits-requires-2
fits-requires-2 c κs = search rules

-- what the code tests for each refusal is what the definition has
long : (c : tie.After-fits-2) → let a = c.args in
    (c.fits.result && (c.fits-2.result && eqb a.room c.volume_length-needed.result))
    ≡ (as_long a.cell.group (cell_lengths a.cell) a.first_map.now && (as_long a.cell.group (cell_lengths a.cell) a.second_map.now && eqb a.room (volume_length (cell_group a.cell) (cell_halves a.cell))))
long c = three c.fits.ensures c.fits-2.ensures (ap (λ (n : ℕ). eqb c.args.room n) c.volume_length-needed.ensures)

fit : (c : tie.Else-not-fits-room) → let a = c.args in
    (as_long a.cell.group (cell_lengths a.cell) a.first_map.now && (as_long a.cell.group (cell_lengths a.cell) a.second_map.now && eqb a.room (volume_length (cell_group a.cell) (cell_halves a.cell)))) ≡ true
fit c = by_true _ _ (long c.before) c.if-not-fits-room.false

volumes : (c : tie.Else-not-fits-room) → let a = c.args in IsVolume a.cell a.first_map.now × IsVolume a.cell a.second_map.now
volumes c =
    let a = c.args in
    let f = all_three _ _ _ (fit c) in
    (record { sizes = c.requires; long = eqb-true _ _ f.0 }, record { sizes = c.requires; long = eqb-true _ _ f.1 })

residues : (c : tie.Else-not-all_residues) → let a = c.args in
    (all_below (prime 1) a.first_map.now && all_below (prime 2) a.second_map.now) ≡ true
residues c = by_true _ _ (two c.all_residues.ensures c.all_residues-2.ensures) c.if-not-all_residues.false

returns-then-not-fits-room : tie.Need-returns-then-not-fits-room
returns-then-not-fits-room c = stop _ (not_f _ (by_false _ _ (long c.before) c.if-not-fits-room.true))

all_residues-requires : tie.Need-all_residues-requires
all_residues-requires c κs = search rules

all_residues-requires-2 : tie.Need-all_residues-requires-2
all_residues-requires-2 c κs = search rules

returns-then-not-all_residues : tie.Need-returns-then-not-all_residues
returns-then-not-all_residues c = pass 6 _ (not_t _ (fit c.before.before.before)) (stop _ (not_f _ (by_false _ _ (two c.all_residues.ensures c.all_residues-2.ensures) c.if-not-all_residues.true)))

consistent_map-requires : tie.Need-consistent_map-requires
consistent_map-requires c κs = (volumes c.before.before.before).0

consistent_map-requires-2 : tie.Need-consistent_map-requires-2
consistent_map-requires-2 c κs = (volumes c.before.before.before.before).1

returns-then-not-consistent_map : tie.Need-returns-then-not-consistent_map
returns-then-not-consistent_map c =
    let r = c.before.before.before in
    pass 6 _ (not_t _ (fit r.before.before.before)) (pass 7 _ (not_t _ (residues r)) (stop _ (not_f _ (by_false _ _ (two c.consistent_map.ensures c.consistent_map-2.ensures) c.if-not-consistent_map.true))))

returns : tie.Need-returns
returns c =
    let r = c.before.before.before in
    pass 6 _ (not_t _ (fit r.before.before.before)) (pass 7 _ (not_t _ (residues r)) (pass 14 _ (not_t _ (by_true _ _ (two c.consistent_map.ensures c.consistent_map-2.ensures) c.if-not-consistent_map.false)) none))

pub check_volumes_spec : {M : Type 1} → statement M
check_volumes_spec =
    tie.close
    (tie.spec volume_length-needed-requires fits-requires fits-requires-2 returns-then-not-fits-room all_residues-requires all_residues-requires-2 returns-then-not-all_residues consistent_map-requires consistent_map-requires-2 returns-then-not-consistent_map returns)
