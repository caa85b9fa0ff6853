-- Each return is the first test that holds, all the others before it being passed over.
use borrow.Author.Rules.{rules}
use mathlib.Core.Path.{◌≡◌, ◌∙◌, ap}
use mathlib.Core.Bool.{true, ◌&&◌}
use lib.Dec.{ltb}
use borrow.Author.Tests.{ltb-true}
use Rattle.numbers.specs.Value.{prime, value}
use Rattle.numbers.specs.Bounds.{Small}
use Rattle.refusals.proofs.Tests.{stop, pass, none, not_t, not_f, by_true, by_false, both}
use Rattle.cell.specs.Operations.{cell_group, cell_halves, cell_lengths, triple_of, Within}
use Rattle.cell.specs.Consistency.{agrees_with_itself}
use Rattle.job.specs.Job.{within}
use Rattle.job.proofs.check.Points.{within_of}
use Rattle.job.proofs.check.record.Reflections.{pair_of_numbers}
use Rattle.job.proofs.check.record.check_own.Statement.{statement}
use Rattle.job.proofs.check.record.check_own.Tie as tie

-- ---- what each test that is passed leaves

inside : (c : tie.Else-not-inside) → let a = c.before.before.args in within (cell_lengths a.cell) (triple_of a.at) ≡ true
inside c = by_true _ _ c.before.inside.ensures c.if-not-inside.false

placed : (c : tie.Else-not-inside) → let a = c.before.before.args in Within a.cell a.at
placed c = let a = c.before.before.args in within_of a.cell a.at (inside c)

below : (c : tie.Else-not-residues) → let a = c.before.before.before.before.args in (ltb a.x.re (prime a.modulus) && ltb a.x.im (prime a.modulus)) ≡ true
below c = by_true _ _ c.before.residues.ensures c.if-not-residues.false

small : (c : tie.Else-not-residues) → let a = c.before.before.before.before.args in Small (prime a.modulus) a.x
small c = let t = both _ _ (below c) in record { re = ltb-true _ _ t.0; im = ltb-true _ _ t.1 }

-- what the test of the value says
own : (c : tie.After-agrees) → let a = c.before.before.before.before.before.args in c.agrees.result ≡ agrees_with_itself (cell_group a.cell) (cell_halves a.cell) a.modulus (triple_of a.at) (value a.modulus a.x.re a.x.im)
own c =
    let a = c.before.before.before.before.before.args in
    c.agrees.ensures ∙ ap (agrees_with_itself (cell_group a.cell) (cell_halves a.cell) a.modulus (triple_of a.at)) (pair_of_numbers a.modulus a.x.re a.x.im)

-- ---- the needs

inside-requires : tie.Need-inside-requires
inside-requires c κs = search rules

returns-then-not-inside : tie.Need-returns-then-not-inside
returns-then-not-inside c = stop _ (not_f _ (by_false _ _ c.before.inside.ensures c.if-not-inside.true))

residues-requires : tie.Need-residues-requires
residues-requires c κs = c.before.before.requires.1

returns-then-not-residues : tie.Need-returns-then-not-residues
returns-then-not-residues c = pass 10 _ (not_t _ (inside c.before.before)) (stop _ (not_f _ (by_false _ _ c.before.residues.ensures c.if-not-residues.true)))

agrees-requires : tie.Need-agrees-requires
agrees-requires c κs =
    let i = c.before.before in
    let s = i.before.before.requires in
    (s.1, small c, s.0, placed i)

returns-then-not-agrees : tie.Need-returns-then-not-agrees
returns-then-not-agrees c =
    let s = c.before.before in
    pass 10 _ (not_t _ (inside s.before.before)) (pass 7 _ (not_t _ (below s)) (stop _ (not_f _ (by_false _ _ (own c.before) c.if-not-agrees.true))))

returns : tie.Need-returns
returns c =
    let s = c.before.before in
    pass 10 _ (not_t _ (inside s.before.before)) (pass 7 _ (not_t _ (below s)) (pass 12 _ (not_t _ (by_true _ _ (own c.before) c.if-not-agrees.false)) none))

pub check_own_spec : {M : Type 1} → statement M
check_own_spec =
    tie.close
    (tie.spec inside-requires returns-then-not-inside residues-requires returns-then-not-residues agrees-requires returns-then-not-agrees returns)
