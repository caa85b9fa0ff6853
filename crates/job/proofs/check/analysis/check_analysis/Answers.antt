-- Each return is the first test that holds, all the others before it being passed over.
use borrow.Author.Tests.{eqb-true, eq-eqb, ne_eqb, lt-ltb, le-ltb}
use Rattle.refusals.proofs.Tests.{stop, pass, not_t, not_f, by_true, by_false}
use Rattle.job.proofs.check.analysis.check_analysis.Goals as goal

pub returns-then-not-valid : goal.returns-then-not-valid
returns-then-not-valid c = stop _ (not_f _ c.if-not-valid.true)

pub returns-then-state-ne2 : goal.returns-then-state-ne2
returns-then-state-ne2 c = pass 25 _ (not_t _ c.if-not-valid.false) (stop _ (not_f _ (ne_eqb _ _ c.if-state-ne2.true)))

pub fits-requires : goal.fits-requires
fits-requires c = (c.requires c.if-not-valid.false).0

pub returns-then-not-fits : goal.returns-then-not-fits
returns-then-not-fits c = pass 25 _ (not_t _ c.if-not-valid.false) (pass 22 _ (not_t _ (eq-eqb _ _ c.if-state-ne2.false)) (stop _ (not_f _ (by_false _ _ c.fits.ensures c.if-not-fits.true))))

pub returns-then-scratch-lt11520 : goal.returns-then-scratch-lt11520
returns-then-scratch-lt11520 c =
    pass 25 _ (not_t _ c.if-not-valid.false) (pass 22 _ (not_t _ (eq-eqb _ _ c.if-state-ne2.false))
    (pass 6 _ (not_t _ (by_true _ _ c.fits.ensures c.if-not-fits.false)) (stop _ (lt-ltb _ _ c.if-scratch-lt11520.true))))

pub check_map-requires : goal.check_map-requires
check_map-requires c =
    let s = c.requires c.if-not-valid.false in
    (record { sizes = s.0; long = eqb-true _ _ (by_true _ _ c.fits.ensures c.if-not-fits.false) }, s.1)

pub returns : goal.returns
returns c =
    pass 25 _ (not_t _ c.if-not-valid.false) (pass 22 _ (not_t _ (eq-eqb _ _ c.if-state-ne2.false))
    (pass 6 _ (not_t _ (by_true _ _ c.fits.ensures c.if-not-fits.false)) (pass 13 _ (le-ltb _ _ c.if-scratch-lt11520.false) c.check_map.ensures)))
