-- The kind of a line tells whether it is a row, which is lent as a part of the volume.
use native.Mathlib.Omega.{arith}
use mathlib.Core.Path.{refl, ◌∙◌}
use lib.ListN.{length}
use Rattle.volume_transform.specs.Lines.{Beside}
use Rattle.volume_transform.proofs.row.TurnLaws.{room}
use Rattle.volume_transform.proofs.row.RowLaws.{row_long, row_below, row_placed, part_same, beside, spaced}
use Rattle.volume_transform.proofs.plan.AxisLines.{row_is, gathered_is}
use Rattle.volume_transform.proofs.turn.Statement.{statement}
use Rattle.volume_transform.proofs.turn.Tie as tie

-- the row, and the volume that it is a part of
module _ (i : tie.Then-line-eq1) where
  abbrev start : tie.Start
  start = i.before.before.before.before.before.before

  row : Beside (length start.args.volume.now) start.args.line
  row = beside start.args.line start.requires.0.0 i.if-line-eq1.true

overflow_mul-start : tie.Need-overflow_mul-start
overflow_mul-start c = let b = row c.before in omega (arith, b.fits, b.low)

overflow_mul-end : tie.Need-overflow_mul-end
overflow_mul-end c = let b = row c.before.before in omega (arith, b.fits, b.low)

overflow_add-end : tie.Need-overflow_add-end
overflow_add-end c = let b = row c.before.before in omega (arith, b.fits, b.low)

offset_bounds-volume-start : tie.Need-offset_bounds-volume-start
offset_bounds-volume-start c = let b = row c.before.before in omega (arith, b.fits, b.low)

slice_bounds-turn_row-count : tie.Need-slice_bounds-turn_row-count
slice_bounds-turn_row-count c = let b = row c.before.before in omega (arith, b.fits, b.low)

slice_bounds-turn_row-start : tie.Need-slice_bounds-turn_row-start
slice_bounds-turn_row-start c = let b = row c.before.before in omega (arith, b.fits, b.low)

slice_bounds-turn_row-end : tie.Need-slice_bounds-turn_row-end
slice_bounds-turn_row-end c = let b = row c.before.before in omega (arith, b.fits, b.low)

turn_row-requires : tie.Need-turn_row-requires
turn_row-requires c κs =
    let i = c.before.before.before.before.before in
    let s = start i in
    let x = s.args.line in
    let b = row i in
    ((b.sound, b.hermitian, s.requires.0.1, s.requires.0.2), ((row_long x s.args.volume.now b, row_below x s.args.volume.now b s.requires.1.0), room x b.sound s.requires.1.1))

turn_gathered-requires : tie.Need-turn_gathered-requires
turn_gathered-requires c κs =
    ((spaced c.args.line c.requires.0.0 c.if-line-eq1.false, c.requires.0.1, c.requires.0.2), (c.requires.1.0, c.requires.1.1))

shape_of-volume-then-line-eq1 : tie.Need-shape_of-volume-then-line-eq1
shape_of-volume-then-line-eq1 c =
    let r = c.before.before.before.before.before.before in
    let i = r.before.before.before.before.before.before in
    part_same (start i).args.line (start i).args.volume.now (row i) _ r.turn_row.ensures

shape_of-fold-then-line-eq1 : tie.Need-shape_of-fold-then-line-eq1
shape_of-fold-then-line-eq1 c = c.fold-1.given

shape_of-work-then-line-eq1 : tie.Need-shape_of-work-then-line-eq1
shape_of-work-then-line-eq1 c = c.work-1.given

returns-then-line-eq1 : tie.Need-returns-then-line-eq1
returns-then-line-eq1 c =
    let r = c.before.before.before.before.before.before in
    let i = r.before.before.before.before.before.before in
    let x = (start i).args.line in
    let v = (start i).args.volume.now in
    (row_placed x v (row i) _ r.turn_row.ensures ∙ row_is x v i.if-line-eq1.true, refl)

shape_of-volume-else-line-eq1 : tie.Need-shape_of-volume-else-line-eq1
shape_of-volume-else-line-eq1 c = c.volume-else-line-eq1-1.given

shape_of-scratch : tie.Need-shape_of-scratch
shape_of-scratch c = c.scratch-1.given

shape_of-fold-else-line-eq1 : tie.Need-shape_of-fold-else-line-eq1
shape_of-fold-else-line-eq1 c = c.fold-else-line-eq1-1.given

shape_of-work-else-line-eq1 : tie.Need-shape_of-work-else-line-eq1
shape_of-work-else-line-eq1 c = c.work-else-line-eq1-1.given

returns-else-line-eq1 : tie.Need-returns-else-line-eq1
returns-else-line-eq1 c =
    (c.turn_gathered.ensures.0 ∙ gathered_is c.args.line c.args.volume.now c.if-line-eq1.false, c.turn_gathered.ensures.1)

pub turn_spec : {M : Type 1} → statement M
turn_spec =
    tie.close
    (tie.spec overflow_mul-start overflow_mul-end overflow_add-end offset_bounds-volume-start slice_bounds-turn_row-count slice_bounds-turn_row-start slice_bounds-turn_row-end turn_row-requires turn_gathered-requires shape_of-volume-then-line-eq1 shape_of-fold-then-line-eq1 shape_of-work-then-line-eq1 returns-then-line-eq1 shape_of-volume-else-line-eq1 shape_of-scratch shape_of-fold-else-line-eq1 shape_of-work-else-line-eq1 returns-else-line-eq1)
