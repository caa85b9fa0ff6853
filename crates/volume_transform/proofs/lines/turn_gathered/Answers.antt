-- The line is gathered into the scratch, turned there, and scattered.
use native.Mathlib.Omega.{arith}
use mathlib.Core.Path.{refl, sym, ◌∙◌, ap}
use Prim.Native.Nat.{◌+◌, ◌*◌}
use lib.ListN.{length}
use Rattle.slices.specs.Pairs.{at}
use Rattle.slices.proofs.Pairs.{length_fills}
use Rattle.lengths.specs.Lengths.{kind_of}
use Rattle.line.proofs.kinds.Dispatch.{prefix_length}
use Rattle.volume_transform.proofs.row.TurnLaws.{room, turned_line_lem, kept, below_lent, returned_fits}
use Rattle.volume_transform.proofs.lines.turn_gathered.Goals as goal

pub slice_bounds-turn_stored-end : goal.slice_bounds-turn_stored-end
slice_bounds-turn_stored-end c =
    let x = c.args.line in
    omega (arith, ap length c.gather.ensures, length_fills (λ j. at c.args.volume.now (x.start + j * x.stride)) x.count c.args.scratch.now, c.requires.spaced.0.low, c.requires.lent.scratch_fits)

pub slice_bounds-turn_stored-end-2 : goal.slice_bounds-turn_stored-end-2
slice_bounds-turn_stored-end-2 c =
    let x = c.args.line in
    sym (prefix_length _ _ (omega (arith, ap length c.gather.ensures, length_fills (λ j. at c.args.volume.now (x.start + j * x.stride)) x.count c.args.scratch.now, c.requires.spaced.0.low, c.requires.lent.scratch_fits)))

pub turn_stored-requires-clause-packed_len : goal.turn_stored-requires-clause-packed_len
turn_stored-requires-clause-packed_len c =
    let x = c.args.line in
    (prefix_length _ _ (omega (arith, ap length c.gather.ensures, length_fills (λ j. at c.args.volume.now (x.start + j * x.stride)) x.count c.args.scratch.now, c.requires.spaced.0.low, c.requires.lent.scratch_fits)) ∙ ap (λ n. 2 * n) c.requires.spaced.0.counted, below_lent x.m x.half x.direction x.rotated (kind_of x.kind) x.count (λ j. x.start + j * x.stride) c.args.volume.now c.args.scratch.now _ c.requires.spaced.0.counted c.requires.spaced.0.low (omega (arith, c.requires.spaced.0.low, c.requires.lent.scratch_fits)) c.gather.ensures c.requires.line_below.each)

pub turn_stored-requires-clause-room : goal.turn_stored-requires-clause-room
turn_stored-requires-clause-room c =
    let x = c.args.line in
    room x c.requires.spaced.0.sound c.requires.lent

pub scatter-requires-clause-n_in_bounds : goal.scatter-requires-clause-n_in_bounds
scatter-requires-clause-n_in_bounds c =
    let x = c.args.line in
    returned_fits x.m x.half x.direction x.rotated (kind_of x.kind) x.count (λ j. x.start + j * x.stride) c.args.volume.now c.args.scratch.now _ c.requires.spaced.0.counted c.requires.spaced.0.low (omega (arith, c.requires.spaced.0.low, c.requires.lent.scratch_fits)) c.gather.ensures _ _ c.turn_stored.ensures

pub returns : goal.returns
returns c =
    let x = c.args.line in
    (turned_line_lem x.m x.half x.direction x.rotated (kind_of x.kind) x.count (λ j. x.start + j * x.stride) c.args.volume.now c.args.scratch.now _ c.requires.spaced.0.counted c.requires.spaced.0.low (omega (arith, c.requires.spaced.0.low, c.requires.lent.scratch_fits)) c.gather.ensures _ _ _ c.turn_stored.ensures refl c.scatter.ensures, kept x.m x.half x.direction x.rotated (kind_of x.kind) x.count (λ j. x.start + j * x.stride) c.args.volume.now c.args.scratch.now _ c.requires.spaced.0.counted c.requires.spaced.0.low (omega (arith, c.requires.spaced.0.low, c.requires.lent.scratch_fits)) c.gather.ensures _ _ _ c.turn_stored.ensures refl c.scatter.ensures)
