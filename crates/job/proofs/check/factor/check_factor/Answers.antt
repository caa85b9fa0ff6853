-- Each return is the first test that holds, all the others before it being passed over.
use mathlib.Core.Path.{◌≡◌, ◌∙◌, ap}
use mathlib.Core.Bool.{Bool, true}
use mathlib.Core.List.{List}
use Prim.Native.Nat.{ℕ}
use borrow.Author.Tests.{eqb-true, eq-eqb, ne_eqb}
use Rattle.algebra.specs.cells.Cell.{J}
use Rattle.refusals.specs.Refusals.{first}
use Rattle.refusals.proofs.Tests.{stop, pass, none, not_t, not_f, by_true, by_false}
use Rattle.cell.specs.declared.operations.UnitCell.{UnitCell}
use Rattle.cell.specs.Operations.{cell_group, cell_halves, cell_lengths, triple_of}
use Rattle.cell.specs.Volume.{numbers_read}
use Rattle.cell.specs.Places.{all_below_at}
use Rattle.job.specs.Job.{within, stored_tests, factor_tests_of}
use Rattle.job.proofs.check.Points.{within_of}
use Rattle.job.proofs.check.factor.check_factor.Goals as goal

-- the index is inside the cell: the numbers that are read decide
numbers : {ok : Bool} {state : ℕ} (m : ℕ) (k : UnitCell) (at : J) (v : List ℕ) → ok ≡ true → (state ≡ 2 → ⊥) → within (cell_lengths k) at ≡ true → {n : ℕ} → n ≡ first (stored_tests m k.group (cell_lengths k) at v) → n ≡ first (factor_tests_of ok state m k.group (cell_lengths k) at v)
numbers m k at v ok s i e = pass 25 _ (not_t _ ok) (pass 23 _ (ne_eqb _ _ s) (pass 10 _ (not_t _ i) e))

pub returns-then-not-valid : goal.returns-then-not-valid
returns-then-not-valid c = stop _ (not_f _ c.if-not-valid.true)

pub returns-then-state-eq2 : goal.returns-then-state-eq2
returns-then-state-eq2 c = pass 25 _ (not_t _ c.if-not-valid.false) (stop _ (eq-eqb _ _ c.if-state-eq2.true))

pub returns-then-not-inside : goal.returns-then-not-inside
returns-then-not-inside c = pass 25 _ (not_t _ c.if-not-valid.false) (pass 23 _ (ne_eqb _ _ c.if-state-eq2.false) (stop _ (not_f _ (by_false _ _ c.inside.ensures c.if-not-inside.true))))

pub fits-requires : goal.fits-requires
fits-requires c = (c.requires c.if-not-valid.false).0

pub returns-then-not-fits : goal.returns-then-not-fits
returns-then-not-fits c =
    let a = c.args in
    numbers a.modulus a.cell (triple_of a.at) a.volume.now c.if-not-valid.false c.if-state-eq2.false (by_true _ _ c.inside.ensures c.if-not-inside.false)
    (stop _ (not_f _ (by_false _ _ c.fits.ensures c.if-not-fits.true)))

pub modulus-p-requires : goal.modulus-p-requires
modulus-p-requires c = (c.requires c.if-not-valid.false).1

pub factor_numbers_below-requires : goal.factor_numbers_below-requires
factor_numbers_below-requires c =
    record {
      sizes = ((c.requires c.if-not-valid.false).0, within_of c.args.cell c.args.at (by_true _ _ c.inside.ensures c.if-not-inside.false));
      volume_len = eqb-true _ _ (by_true _ _ c.fits.ensures c.if-not-fits.false);
    }

pub returns-then-not-factor_numbers_below : goal.returns-then-not-factor_numbers_below
returns-then-not-factor_numbers_below c =
    let a = c.args in
    let below = c.factor_numbers_below.ensures ∙ ap (λ (p : ℕ). all_below_at p a.volume.now (numbers_read (cell_group a.cell) (cell_halves a.cell) (triple_of a.at))) c.modulus-p.ensures.0 in
    numbers a.modulus a.cell (triple_of a.at) a.volume.now c.if-not-valid.false c.if-state-eq2.false (by_true _ _ c.inside.ensures c.if-not-inside.false)
    (pass 6 _ (not_t _ (by_true _ _ c.fits.ensures c.if-not-fits.false)) (stop _ (not_f _ (by_false _ _ below c.if-not-factor_numbers_below.true))))

pub returns : goal.returns
returns c =
    let a = c.args in
    let below = c.factor_numbers_below.ensures ∙ ap (λ (p : ℕ). all_below_at p a.volume.now (numbers_read (cell_group a.cell) (cell_halves a.cell) (triple_of a.at))) c.modulus-p.ensures.0 in
    numbers a.modulus a.cell (triple_of a.at) a.volume.now c.if-not-valid.false c.if-state-eq2.false (by_true _ _ c.inside.ensures c.if-not-inside.false)
    (pass 6 _ (not_t _ (by_true _ _ c.fits.ensures c.if-not-fits.false)) (pass 7 _ (not_t _ (by_true _ _ below c.if-not-factor_numbers_below.false)) none))
