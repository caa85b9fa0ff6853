-- Each return is the first test that holds, all the others before it being passed over.
use Rattle.refusals.proofs.Tests.{stop, pass, none, not_t, not_f, by_true, by_false}
use Rattle.job.proofs.check.map.check_map.Statement.{statement}
use Rattle.job.proofs.check.map.check_map.Tie as tie

all_residues-requires : tie.Need-all_residues-requires
all_residues-requires c κs = c.before.requires.1

returns-then-not-all_residues : tie.Need-returns-then-not-all_residues
returns-then-not-all_residues c = stop _ (not_f _ (by_false _ _ c.before.all_residues.ensures c.if-not-all_residues.true))

consistent_map-requires : tie.Need-consistent_map-requires
consistent_map-requires c κs = c.before.before.before.requires.0

returns-then-not-consistent_map : tie.Need-returns-then-not-consistent_map
returns-then-not-consistent_map c = let r = c.before.before in pass 7 _ (not_t _ (by_true _ _ r.before.all_residues.ensures r.if-not-all_residues.false)) (stop _ (not_f _ (by_false _ _ c.before.consistent_map.ensures c.if-not-consistent_map.true)))

returns : tie.Need-returns
returns c = let r = c.before.before in pass 7 _ (not_t _ (by_true _ _ r.before.all_residues.ensures r.if-not-all_residues.false)) (pass 14 _ (not_t _ (by_true _ _ c.before.consistent_map.ensures c.if-not-consistent_map.false)) none)

pub check_map_spec : {M : Type 1} → statement M
check_map_spec =
    tie.close
    (tie.spec all_residues-requires returns-then-not-all_residues consistent_map-requires returns-then-not-consistent_map returns)
