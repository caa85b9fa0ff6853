-- Each return is the first test that holds, all the others before it being passed over.
use Rattle.numbers.specs.Value.{prime}
use Rattle.numbers.proofs.Primes.{prime_pos}
use Rattle.slices.proofs.Bounds.{below_all_below}
use Rattle.refusals.proofs.Tests.{stop, pass, none, not_t, not_f, by_true, by_false}
use Rattle.job.proofs.check.synthesis.check_factors.Statement.{statement}
use Rattle.job.proofs.check.synthesis.check_factors.Tie as tie

all_residues-requires : tie.Need-all_residues-requires
all_residues-requires c κs = c.before.requires.1

returns-then-not-all_residues : tie.Need-returns-then-not-all_residues
returns-then-not-all_residues c = stop _ (not_f _ (by_false _ _ c.before.all_residues.ensures c.if-not-all_residues.true))

consistent_factors-requires : tie.Need-consistent_factors-requires
consistent_factors-requires c κs =
    let s = c.before.before.before in
    let m = s.args.modulus in
    (s.requires.0, s.requires.1, below_all_below (prime m) s.args.volume.now (prime_pos m) (by_true _ _ c.before.all_residues.ensures c.if-not-all_residues.false))

returns-then-not-consistent_factors : tie.Need-returns-then-not-consistent_factors
returns-then-not-consistent_factors c = let r = c.before.before in pass 7 _ (not_t _ (by_true _ _ r.before.all_residues.ensures r.if-not-all_residues.false)) (stop _ (not_f _ (by_false _ _ c.before.consistent_factors.ensures c.if-not-consistent_factors.true)))

returns : tie.Need-returns
returns c = let r = c.before.before in pass 7 _ (not_t _ (by_true _ _ r.before.all_residues.ensures r.if-not-all_residues.false)) (pass 14 _ (not_t _ (by_true _ _ c.before.consistent_factors.ensures c.if-not-consistent_factors.false)) none)

pub check_factors_spec : {M : Type 1} → statement M
check_factors_spec =
    tie.close
    (tie.spec all_residues-requires returns-then-not-all_residues consistent_factors-requires returns-then-not-consistent_factors returns)
