-- Each return is the first test that holds, all the others before it being passed over.
use borrow.Author.Rules.{rules}
use borrow.Author.Tests.{le-leb, lt-leb}
use Rattle.refusals.proofs.Tests.{stop, pass, not_t, not_f, by_false, by_true}
use Rattle.factor_file.proofs.file_header.check_opening.Statement.{statement}
use Rattle.factor_file.proofs.file_header.check_opening.Tie as tie

returns-then-cell-ge5 : tie.Need-returns-then-cell-ge5
returns-then-cell-ge5 c = stop _ (le-leb 5 _ c.if-cell-ge5.true)

is_modulus-requires : tie.Need-is_modulus-requires
is_modulus-requires c κs = search rules

returns-then-not-is_modulus : tie.Need-returns-then-not-is_modulus
returns-then-not-is_modulus c = pass 8 _ (lt-leb 5 _ c.before.before.if-cell-ge5.false) (stop _ (not_f _ (by_false _ _ c.before.is_modulus.ensures c.if-not-is_modulus.true)))

check_header-requires : tie.Need-check_header-requires
check_header-requires c κs = c.before.before.if-cell-ge5.false

returns : tie.Need-returns
returns c =
    let e = c.before in
    pass 8 _ (lt-leb 5 _ e.before.before.if-cell-ge5.false) (pass 26 _ (not_t _ (by_true _ _ e.before.is_modulus.ensures e.if-not-is_modulus.false)) c.check_header.ensures)

pub check_opening_spec : {M : Type 1} → statement M
check_opening_spec =
    tie.close (tie.spec returns-then-cell-ge5 is_modulus-requires returns-then-not-is_modulus check_header-requires returns)
