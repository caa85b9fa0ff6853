-- The batch has room.
use borrow.Author.Rules.{rules}
use native.Mathlib.Omega.{arith}
use mathlib.Core.Path.{sym, ◌∙◌}
use Prim.Native.Nat.{◌+◌, ◌*◌, ◌≤◌}
use lib.ListN.{length}
use Rattle.line.proofs.kinds.Dispatch.{prefix_length}
use Rattle.volume_transform.proofs.GroupTurns.{lent_kept}
use Rattle.volume_transform.proofs.groups.turn_folded.Statement.{statement}
use Rattle.volume_transform.proofs.groups.turn_folded.Tie as tie

short : (s : tie.Start) → s.args.line.half ≤ 359
short s = s.requires.0.0.room.folded (λ e. omega (arith, e, s.requires.0.1))

room : (s : tie.Start) → (32 * s.args.line.half + 32 ≤ length s.args.scratch.now) × (32 * s.args.line.half ≤ length s.args.work.now)
room s = (omega (arith, short s, s.requires.1.1.0), omega (arith, short s, s.requires.1.1.1))

overflow_mul-size : tie.Need-overflow_mul-size
overflow_mul-size c = omega (arith, short c.before.before.before.before)

overflow_add-long : tie.Need-overflow_add-long
overflow_add-long c = omega (arith, short c.before.before.before.before)

slice_bounds-turn_short-end : tie.Need-slice_bounds-turn_short-end
slice_bounds-turn_short-end c = (room c.before.before.before.before.before).0

slice_bounds-turn_short-end-2 : tie.Need-slice_bounds-turn_short-end-2
slice_bounds-turn_short-end-2 c = let s = c.before.before.before.before.before.before in sym (prefix_length _ s.args.scratch.now (room s).0)

slice_bounds-turn_short-end-3 : tie.Need-slice_bounds-turn_short-end-3
slice_bounds-turn_short-end-3 c = (room c.before.before.before.before.before.before).1

slice_bounds-turn_short-end-4 : tie.Need-slice_bounds-turn_short-end-4
slice_bounds-turn_short-end-4 c = let s = c.before.before.before.before.before.before.before in sym (prefix_length _ s.args.work.now (room s).1)

turn_short-requires : tie.Need-turn_short-requires
turn_short-requires c κs =
    let s = c.before.before.before.before.before.before.before in
    (s.requires.0, (s.requires.1.0, (prefix_length _ s.args.scratch.now (room s).0 ∙ omega arith, prefix_length _ s.args.work.now (room s).1)))

shape_of-volume : tie.Need-shape_of-volume
shape_of-volume c = search rules

shape_of-scratch : tie.Need-shape_of-scratch
shape_of-scratch c = search rules

shape_of-work : tie.Need-shape_of-work
shape_of-work c = search rules

returns : tie.Need-returns
returns c =
    let s = c.before.before.before.before.before.before.before.before.before.before.before.before.before.before in
    (c.turn_short.ensures, lent_kept s.args.scratch.now c.turn_short.new.batch (omega (arith, short s)) (c.scratch-1.given.0 ∙ prefix_length _ s.args.scratch.now (room s).0))

pub turn_folded_spec : {M : Type 1} → statement M
turn_folded_spec =
    tie.close
    (tie.spec overflow_mul-size overflow_add-long slice_bounds-turn_short-end slice_bounds-turn_short-end-2 slice_bounds-turn_short-end-3 slice_bounds-turn_short-end-4 turn_short-requires shape_of-volume shape_of-scratch shape_of-work returns)
