-- The pairs of the line are gathered, tested and transformed as they then are, and scattered back.
use borrow.Author.Rules.{rules}
use native.Mathlib.Omega.{arith}
use mathlib.Core.Path.{◌≡◌, refl, sym, ◌∙◌, ap}
use Prim.Native.Nat.{◌+◌, ◌*◌}
use lib.ListN.{length, take}
use Rattle.slices.specs.Pairs.{at}
use Rattle.slices.proofs.Pairs.{length_fills}
use Rattle.lengths.specs.Lengths.{kind_of}
use Rattle.line.proofs.kinds.Dispatch.{prefix_length}
use Rattle.volume_transform.proofs.row.TurnLaws.{turned_line_lem, returned_fits}
use Rattle.volume_transform.proofs.OwnTurns.{gathered_numbers, modulus_of, fold_room, own_below, own_refused, own_done, returned_long, part_back}
use Rattle.volume_transform.proofs.one_line.gathered_alone.Statement.{statement}
use Rattle.volume_transform.proofs.one_line.gathered_alone.Tie as tie

-- the gathered line is as long as its pairs ask for
lent-long : (g : tie.After-gather) → let x = g.args.line in length (take (2 * x.count) g.gather.new.d) ≡ 2 * x.count
lent-long g =
    let x = g.args.line in
    prefix_length _ _ (omega (arith, ap length g.gather.ensures, length_fills (λ j. at g.args.volume.now (x.start + j * x.stride)) x.count g.args.packed.now, g.requires.1.1))

gather-requires : tie.Need-gather-requires
gather-requires c κs = (c.requires.0.0.fits, c.requires.1.1)

overflow_mul-size : tie.Need-overflow_mul-size
overflow_mul-size c = omega (arith, c.requires.0.0.low)

slice_bounds-all_below-end : tie.Need-slice_bounds-all_below-end
slice_bounds-all_below-end c =
    let x = c.args.line in
    omega (arith, ap length c.gather.ensures, length_fills (λ j. at c.args.volume.now (x.start + j * x.stride)) x.count c.args.packed.now, c.requires.1.1)

slice_bounds-all_below-end-2 : tie.Need-slice_bounds-all_below-end-2
slice_bounds-all_below-end-2 c = sym (lent-long c.before.before.before)

modulus-requires : tie.Need-modulus-requires
modulus-requires c κs = modulus_of c.args.line c.args.volume.now c.requires.0.2 c.requires.0.0.sound.modulus

all_below-requires : tie.Need-all_below-requires
all_below-requires c κs = search rules

shape_of-volume-then-not-all_below : tie.Need-shape_of-volume-then-not-all_below
shape_of-volume-then-not-all_below c = search rules

shape_of-packed-then-not-all_below : tie.Need-shape_of-packed-then-not-all_below
shape_of-packed-then-not-all_below c = search rules

returns-then-not-all_below : tie.Need-returns-then-not-all_below
returns-then-not-all_below c =
    let x = c.args.line in
    let v = c.args.volume.now in
    own_refused x v c.requires.0.2 (gathered_numbers x v _ c.args.packed.now c.requires.0.0 c.requires.1.1 c.gather.ensures) c.modulus.ensures.0 c.all_below.ensures c.if-not-all_below.true

slice_bounds-turn_stored-end : tie.Need-slice_bounds-turn_stored-end
slice_bounds-turn_stored-end c =
    let x = c.args.line in
    omega (arith, ap length c.gather.ensures, length_fills (λ j. at c.args.volume.now (x.start + j * x.stride)) x.count c.args.packed.now, c.requires.1.1)

slice_bounds-turn_stored-end-2 : tie.Need-slice_bounds-turn_stored-end-2
slice_bounds-turn_stored-end-2 c = sym (lent-long c.before.before.before.before.before.before.before)

slice_bounds-turn_stored-end-3 : tie.Need-slice_bounds-turn_stored-end-3
slice_bounds-turn_stored-end-3 c = omega (arith, c.requires.1.0)

slice_bounds-turn_stored-end-4 : tie.Need-slice_bounds-turn_stored-end-4
slice_bounds-turn_stored-end-4 c = sym (prefix_length 5760 c.args.scratch.now (omega (arith, c.requires.1.0)))

turn_stored-requires : tie.Need-turn_stored-requires
turn_stored-requires c κs =
    let g = c.before.before.before.before.before.before.before.before.before in
    let x = c.args.line in
    let v = c.args.volume.now in
    let b = c.requires.0.0 in (
      (b.sound, c.requires.0.1, c.requires.0.2, b.counted),
      (
        (lent-long g ∙ ap (λ n. 2 * n) b.counted, own_below x v c.requires.0.2 (gathered_numbers x v _ c.args.packed.now b c.requires.1.1 g.gather.ensures) c.modulus.ensures.0 c.all_below.ensures c.if-not-all_below.false),
        (fold_room x b.sound c.args.scratch.now c.requires.1.0, c.requires.1.2),
      ),
    )

scatter-requires : tie.Need-scatter-requires
scatter-requires c κs =
    let x = c.args.line in
    (returned_fits x.m x.half x.direction x.rotated (kind_of x.kind) x.count (λ j. x.start + j * x.stride) c.args.volume.now c.args.packed.now _ c.requires.0.0.counted c.requires.0.0.low c.requires.1.1 c.gather.ensures _ _ c.turn_stored.ensures, c.requires.0.0.fits)

clear-requires : tie.Need-clear-requires
clear-requires c κs = returned_long c.args.scratch.now c.turn_stored.new.fold c.requires.1.0 c.scratch-1.given.0

shape_of-volume : tie.Need-shape_of-volume
shape_of-volume c = c.volume-1.given

shape_of-scratch : tie.Need-shape_of-scratch
shape_of-scratch c = search rules

shape_of-packed : tie.Need-shape_of-packed
shape_of-packed c =
    let x = c.args.line in
    part_back c.turn_stored.new.packed c.gather.new.d (2 * x.count) (omega (arith, ap length c.gather.ensures, length_fills (λ j. at c.args.volume.now (x.start + j * x.stride)) x.count c.args.packed.now, c.requires.1.1)) c.packed-2-1.given.0
    ∙ ap length c.gather.ensures ∙ length_fills (λ j. at c.args.volume.now (x.start + j * x.stride)) x.count c.args.packed.now

shape_of-work : tie.Need-shape_of-work
shape_of-work c = c.work-1.given

returns : tie.Need-returns
returns c =
    let x = c.args.line in
    let v = c.args.volume.now in
    own_done x v c.requires.0.2 (gathered_numbers x v _ c.args.packed.now c.requires.0.0 c.requires.1.1 c.gather.ensures) c.modulus.ensures.0 c.all_below.ensures c.args.scratch.now c.turn_stored.new.fold c.if-not-all_below.false
    (turned_line_lem x.m x.half x.direction x.rotated (kind_of x.kind) x.count (λ j. x.start + j * x.stride) c.args.volume.now c.args.packed.now _ c.requires.0.0.counted c.requires.0.0.low c.requires.1.1 c.gather.ensures _ _ _ c.turn_stored.ensures refl c.scatter.ensures)
    c.requires.1.0 c.scratch-1.given.0 c.clear.ensures

pub gathered_alone_spec : {M : Type 1} → statement M
gathered_alone_spec =
    tie.close
    (tie.spec gather-requires overflow_mul-size slice_bounds-all_below-end slice_bounds-all_below-end-2 modulus-requires all_below-requires shape_of-volume-then-not-all_below shape_of-packed-then-not-all_below returns-then-not-all_below slice_bounds-turn_stored-end slice_bounds-turn_stored-end-2 slice_bounds-turn_stored-end-3 slice_bounds-turn_stored-end-4 turn_stored-requires scatter-requires clear-requires shape_of-volume shape_of-scratch shape_of-packed shape_of-work returns)
