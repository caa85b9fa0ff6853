-- The row is lent as a part of the volume, tested and then transformed there.
use borrow.Author.Rules.{rules}
use native.Mathlib.Omega.{arith}
use mathlib.Core.Path.{sym}
use Rattle.line.proofs.kinds.Dispatch.{prefix_length}
use Rattle.volume_transform.proofs.row.RowLaws.{row_long, row_placed, part_same}
use Rattle.volume_transform.proofs.OwnTurns.{row_numbers, modulus_of, fold_room, own_below, own_refused, own_done, returned_long}
use Rattle.volume_transform.proofs.one_line.row_alone.Statement.{statement}
use Rattle.volume_transform.proofs.one_line.row_alone.Tie as tie

overflow_mul-start : tie.Need-overflow_mul-start
overflow_mul-start c = let b = c.requires.0.0 in omega (arith, b.fits, b.low)

overflow_mul-end : tie.Need-overflow_mul-end
overflow_mul-end c = let b = c.requires.0.0 in omega (arith, b.fits, b.low)

overflow_add-end : tie.Need-overflow_add-end
overflow_add-end c = let b = c.requires.0.0 in omega (arith, b.fits, b.low)

offset_bounds-volume-start : tie.Need-offset_bounds-volume-start
offset_bounds-volume-start c = let b = c.requires.0.0 in omega (arith, b.fits, b.low)

slice_bounds-all_below-count : tie.Need-slice_bounds-all_below-count
slice_bounds-all_below-count c = let b = c.requires.0.0 in omega (arith, b.fits, b.low)

slice_bounds-all_below-start : tie.Need-slice_bounds-all_below-start
slice_bounds-all_below-start c = let b = c.requires.0.0 in omega (arith, b.fits, b.low)

slice_bounds-all_below-end : tie.Need-slice_bounds-all_below-end
slice_bounds-all_below-end c = let b = c.requires.0.0 in omega (arith, b.fits, b.low)

modulus-requires : tie.Need-modulus-requires
modulus-requires c κs = modulus_of c.args.line c.args.volume.now c.requires.0.2 c.requires.0.0.sound.modulus

all_below-requires : tie.Need-all_below-requires
all_below-requires c κs = search rules

shape_of-volume-then-not-all_below : tie.Need-shape_of-volume-then-not-all_below
shape_of-volume-then-not-all_below c = search rules

returns-then-not-all_below : tie.Need-returns-then-not-all_below
returns-then-not-all_below c =
    let x = c.args.line in
    let v = c.args.volume.now in
    own_refused x v c.requires.0.2 (row_numbers x v c.requires.0.0) c.modulus.ensures.0 c.all_below.ensures c.if-not-all_below.true

offset_bounds-volume-start-2 : tie.Need-offset_bounds-volume-start-2
offset_bounds-volume-start-2 c = let b = c.requires.0.0 in omega (arith, b.fits, b.low)

slice_bounds-turn_row-count : tie.Need-slice_bounds-turn_row-count
slice_bounds-turn_row-count c = let b = c.requires.0.0 in omega (arith, b.fits, b.low)

slice_bounds-turn_row-start : tie.Need-slice_bounds-turn_row-start
slice_bounds-turn_row-start c = let b = c.requires.0.0 in omega (arith, b.fits, b.low)

slice_bounds-turn_row-end : tie.Need-slice_bounds-turn_row-end
slice_bounds-turn_row-end c = let b = c.requires.0.0 in omega (arith, b.fits, b.low)

slice_bounds-turn_row-end-2 : tie.Need-slice_bounds-turn_row-end-2
slice_bounds-turn_row-end-2 c = omega (arith, c.requires.1.0)

slice_bounds-turn_row-end-3 : tie.Need-slice_bounds-turn_row-end-3
slice_bounds-turn_row-end-3 c = sym (prefix_length 5760 c.args.scratch.now (omega (arith, c.requires.1.0)))

turn_row-requires : tie.Need-turn_row-requires
turn_row-requires c κs =
    let x = c.args.line in
    let v = c.args.volume.now in
    let b = c.requires.0.0 in (
      (b.sound, b.hermitian, c.requires.0.1, c.requires.0.2),
      (
        (row_long x v b, own_below x v c.requires.0.2 (row_numbers x v b) c.modulus.ensures.0 c.all_below.ensures c.if-not-all_below.false),
        (fold_room x b.sound c.args.scratch.now c.requires.1.0, c.requires.1.1),
      ),
    )

clear-requires : tie.Need-clear-requires
clear-requires c κs = returned_long c.args.scratch.now c.turn_row.new.fold c.requires.1.0 c.scratch-1.given.0

shape_of-volume : tie.Need-shape_of-volume
shape_of-volume c = part_same c.args.line c.args.volume.now c.requires.0.0 _ c.turn_row.ensures

shape_of-scratch : tie.Need-shape_of-scratch
shape_of-scratch c = search rules

shape_of-work : tie.Need-shape_of-work
shape_of-work c = c.work-1.given

returns : tie.Need-returns
returns c =
    let x = c.args.line in
    let v = c.args.volume.now in
    let b = c.requires.0.0 in
    own_done x v c.requires.0.2 (row_numbers x v b) c.modulus.ensures.0 c.all_below.ensures c.args.scratch.now c.turn_row.new.fold c.if-not-all_below.false (row_placed x v b _ c.turn_row.ensures) c.requires.1.0 c.scratch-1.given.0 c.clear.ensures

pub row_alone_spec : {M : Type 1} → statement M
row_alone_spec =
    tie.close
    (tie.spec overflow_mul-start overflow_mul-end overflow_add-end offset_bounds-volume-start slice_bounds-all_below-count slice_bounds-all_below-start slice_bounds-all_below-end modulus-requires all_below-requires shape_of-volume-then-not-all_below returns-then-not-all_below offset_bounds-volume-start-2 slice_bounds-turn_row-count slice_bounds-turn_row-start slice_bounds-turn_row-end slice_bounds-turn_row-end-2 slice_bounds-turn_row-end-3 turn_row-requires clear-requires shape_of-volume shape_of-scratch shape_of-work returns)
