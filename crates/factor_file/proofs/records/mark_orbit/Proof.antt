-- The number at the orbit's place tells whether the orbit was seen.
use borrow.Author.Rules.{rules}
use mathlib.Core.Path.{sym, ◌∙◌, ap}
use native.Mathlib.Omega.{arith}
use lib.ListN.{get_or}
use Rattle.refusals.proofs.Tests.{stop, pass, none}
use Rattle.factor_file.proofs.Judging.{cell_positive, cell_inside, mark_seen, mark_unseen, mark_set}
use Rattle.factor_file.proofs.records.mark_orbit.Statement.{statement}
use Rattle.factor_file.proofs.records.mark_orbit.Tie as tie

orbit_place-place-requires : tie.Need-orbit_place-place-requires
orbit_place-place-requires c κs = search rules

offset_bounds-marks-place : tie.Need-offset_bounds-marks-place
offset_bounds-marks-place c = search rules

bounds-marks-place : tie.Need-bounds-marks-place
bounds-marks-place c = let s = c.before.before.before in omega (arith, c.before.orbit_place-place.ensures.1, s.requires.0.long)

returns-then-marks-place-ne0 : tie.Need-returns-then-marks-place-ne0
returns-then-marks-place-ne0 c =
    let o = c.before.before in
    let s = o.before.before in
    λ before m. (
      stop _ (mark_seen _ _ (cell_positive s.requires.0.sizes) _ before m _ (cell_inside s.requires.0.sizes s.requires.1) (λ z. c.if-marks-place-ne0.true (ap (λ q. get_or s.args.marks.now q 0) o.orbit_place-place.ensures.0 ∙ z))),
      λ e. absurd (omega (arith, e)),
    )

offset_bounds-marks-place-2 : tie.Need-offset_bounds-marks-place-2
offset_bounds-marks-place-2 c = search rules

bounds-marks-place-2 : tie.Need-bounds-marks-place-2
bounds-marks-place-2 c = let o = c.before.before in omega (arith, o.orbit_place-place.ensures.1, o.before.before.requires.0.long)

shape_of-marks : tie.Need-shape_of-marks
shape_of-marks c = search rules

returns : tie.Need-returns
returns c =
    let o = c.before.before in
    let s = o.before.before in
    let long = cell_positive s.requires.0.sizes in
    let inside = cell_inside s.requires.0.sizes s.requires.1 in
    λ before m. (
      pass 24 _ (mark_unseen _ _ long _ before m _ inside (ap (λ q. get_or s.args.marks.now q 0) (sym o.orbit_place-place.ensures.0) ∙ c.if-marks-place-ne0.false)) none,
      λ e. mark_set _ _ long _ before m _ inside s.requires.0.long o.orbit_place-place.ensures.0,
    )

pub mark_orbit_spec : {M : Type 1} → statement M
mark_orbit_spec =
    tie.close
    (tie.spec orbit_place-place-requires offset_bounds-marks-place bounds-marks-place returns-then-marks-place-ne0 offset_bounds-marks-place-2 bounds-marks-place-2 shape_of-marks returns)
