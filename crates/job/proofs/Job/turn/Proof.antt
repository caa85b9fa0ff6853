-- Refused by 6, 13 or 7 of its own line, or the line transformed.
use borrow.Author.Rules.{rules}
use native.Mathlib.Omega.{arith}
use mathlib.Core.Path.{◌≡◌, refl, ◌∙◌, ap}
use mathlib.Core.Bool.{true}
use lib.ListN.{length}
use lib.Dec.{eqb}
use borrow.Author.Tests.{lt-ltb, le-ltb, eqb-true}
use Rattle.refusals.specs.declared.Refusal.TheVariants.{BufferLength, ScratchTooShort, NotResidue}
use Rattle.refusals.proofs.Tests.{stop, pass, none, not_t, not_f, by_true, by_false}
use Rattle.lengths.specs.Lengths.{cleared}
use Rattle.cell.specs.Volume.{volume_length}
use Rattle.cell.specs.Operations.{cell_group, cell_halves}
use Rattle.cell.specs.declared.operations.UnitCell.{UnitCell}
use Rattle.job.specs.Job.{fits}
use Rattle.job.specs.Turns.{line_synthesised}
use Rattle.job.proofs.Jobs.{cell_sizes}
use Rattle.job.proofs.Turns.{planned, lines_of_lem, placed_in, directed_of, own_numbers, own_volume, left_as, made_as, turn_refused, turn_done}
use Rattle.job.proofs.Job.turn.Statement.{statement}
use Rattle.job.proofs.Job.turn.Tie as tie

-- the volume's length was tested
told : (c : tie.After-fits) → let a = c.args in c.fits.result ≡ fits a.self a.volume.now
told c =
    let a = c.args in
    c.fits.ensures ∙ ap (λ (k : UnitCell). eqb (length a.volume.now) (volume_length (cell_group k) (cell_halves k))) c.unit_cell.ensures

fit : (c : tie.Else-not-fits) → let a = c.args in fits a.self a.volume.now ≡ true
fit c = by_true _ _ (told c.before) c.if-not-fits.false

unit_cell-requires : tie.Need-unit_cell-requires
unit_cell-requires c κs = search rules

fits-requires : tie.Need-fits-requires
fits-requires c κs = (cell_sizes c.args.self c.unit_cell.ensures c.requires.0).0

shape_of-volume-then-not-fits : tie.Need-shape_of-volume-then-not-fits
shape_of-volume-then-not-fits c = search rules

returns-then-not-fits : tie.Need-returns-then-not-fits
returns-then-not-fits c =
    turn_refused c.args.self c.args.n c.args.volume.now c.args.scratch.now BufferLength (stop _ (not_f _ (by_false _ _ (told c.before) c.if-not-fits.true))) refl refl

shape_of-volume-then-scratch-lt11520 : tie.Need-shape_of-volume-then-scratch-lt11520
shape_of-volume-then-scratch-lt11520 c = search rules

returns-then-scratch-lt11520 : tie.Need-returns-then-scratch-lt11520
returns-then-scratch-lt11520 c =
    turn_refused c.args.self c.args.n c.args.volume.now c.args.scratch.now ScratchTooShort (pass 6 _ (not_t _ (fit c.before)) (stop _ (lt-ltb _ _ c.if-scratch-lt11520.true))) refl refl

plan_of-plan-requires : tie.Need-plan_of-plan-requires
plan_of-plan-requires c κs = search rules

line_counts-counts-requires : tie.Need-line_counts-counts-requires
line_counts-counts-requires c κs = (planned c.args.self c.requires.0 c.plan_of-plan.ensures).sizes

line_in_turn-line-requires : tie.Need-line_in_turn-line-requires
line_in_turn-line-requires c κs =
    let e = c.plan_of-plan.ensures in
    (planned c.args.self c.requires.0 e, c.line_counts-counts.ensures, omega (arith, c.requires.1, lines_of_lem c.args.self c.requires.0 e))

turn_alone-requires : tie.Need-turn_alone-requires
turn_alone-requires c κs =
    let t = c.before.before in
    let d = t.before.before.before in
    (placed_in d.args.self d.requires.0 t.plan_of-plan.ensures d.args.n t.line_in_turn-line.ensures d.args.volume.now (eqb-true _ _ (fit d.before)), directed_of d.args.self d.requires.0 t.plan_of-plan.ensures d.args.n t.line_in_turn-line.ensures, d.if-scratch-lt11520.false)

shape_of-volume-then-not-turn_alone : tie.Need-shape_of-volume-then-not-turn_alone
shape_of-volume-then-not-turn_alone c = c.volume-1.given

shape_of-scratch-then-not-turn_alone : tie.Need-shape_of-scratch-then-not-turn_alone
shape_of-scratch-then-not-turn_alone c = c.scratch-1.given

returns-then-not-turn_alone : tie.Need-returns-then-not-turn_alone
returns-then-not-turn_alone c =
    let a = c.before.before.before.before.before in
    let t = a.before.before.before in
    let d = t.before.before.before in
    let j = d.args.self in
    let n = d.args.n in
    let v = d.args.volume.now in
    let z = d.args.scratch.now in
    let e = t.plan_of-plan.ensures in
    let o = a.turn_alone.ensures in
    turn_refused j n v z NotResidue
    (pass 6 _ (not_t _ (fit d.before)) (pass 13 _ (le-ltb _ _ d.if-scratch-lt11520.false) (stop _ (not_f _ (by_false _ _ (own_numbers j d.requires.0 e n t.line_in_turn-line.ensures o) c.if-not-turn_alone.true)))))
    (left_as a.turn_alone.result (line_synthesised j n v) v c.if-not-turn_alone.true (own_volume j d.requires.0 e n t.line_in_turn-line.ensures o))
    (left_as a.turn_alone.result (cleared z) z c.if-not-turn_alone.true o.lent)

shape_of-volume : tie.Need-shape_of-volume
shape_of-volume c = c.volume-1.given

shape_of-scratch : tie.Need-shape_of-scratch
shape_of-scratch c = c.scratch-1.given

returns : tie.Need-returns
returns c =
    let a = c.before.before.before.before.before in
    let t = a.before.before.before in
    let d = t.before.before.before in
    let j = d.args.self in
    let n = d.args.n in
    let v = d.args.volume.now in
    let z = d.args.scratch.now in
    let e = t.plan_of-plan.ensures in
    let o = a.turn_alone.ensures in
    turn_done j n v z
    (pass 6 _ (not_t _ (fit d.before)) (pass 13 _ (le-ltb _ _ d.if-scratch-lt11520.false) (pass 7 _ (not_t _ (by_true _ _ (own_numbers j d.requires.0 e n t.line_in_turn-line.ensures o) c.if-not-turn_alone.false)) none)))
    (made_as a.turn_alone.result (line_synthesised j n v) v c.if-not-turn_alone.false (own_volume j d.requires.0 e n t.line_in_turn-line.ensures o))
    (made_as a.turn_alone.result (cleared z) z c.if-not-turn_alone.false o.lent)

pub turn_spec : {M : Type 1} → statement M
turn_spec =
    tie.close
    (tie.spec unit_cell-requires fits-requires shape_of-volume-then-not-fits returns-then-not-fits shape_of-volume-then-scratch-lt11520 returns-then-scratch-lt11520 plan_of-plan-requires line_counts-counts-requires line_in_turn-line-requires turn_alone-requires shape_of-volume-then-not-turn_alone shape_of-scratch-then-not-turn_alone returns-then-not-turn_alone shape_of-volume shape_of-scratch returns)
