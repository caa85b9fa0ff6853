-- The row is opened, its packed line transformed, and closed.
use native.Mathlib.Omega.{arith}
use mathlib.Core.Path.{sym, ◌∙◌, ap}
use Prim.Native.Nat.{◌*◌}
use lib.ListN.{length}
use Rattle.line.proofs.kinds.Dispatch.{prefix_length, half_positive}
use Rattle.volume_transform.proofs.row.RowLaws.{length_opened, opened_packed, row_returned, row_whole}
use Rattle.volume_transform.proofs.rows.turn_row.Goals as goal

pub open_row-requires : goal.open_row-requires
open_row-requires c = (omega (arith, half_positive c.args.line.half c.requires.sound_line.0.size), omega (arith, c.requires.row_len.0))

pub slice_bounds-turn_packed-end : goal.slice_bounds-turn_packed-end
slice_bounds-turn_packed-end c =
    omega (arith, c.requires.row_len.0, ap length c.open_row.ensures ∙ length_opened c.args.line.direction (2 * c.args.line.half) c.args.row.now)

pub slice_bounds-turn_packed-end-2 : goal.slice_bounds-turn_packed-end-2
slice_bounds-turn_packed-end-2 c =
    sym (prefix_length _ _ (omega (arith, c.requires.row_len.0, ap length c.open_row.ensures ∙ length_opened c.args.line.direction (2 * c.args.line.half) c.args.row.now)))

pub turn_packed-requires-clause-packed_len : goal.turn_packed-requires-clause-packed_len
turn_packed-requires-clause-packed_len c =
    opened_packed c.args.line c.requires.sound_line.1 c.args.row.now _ c.requires.row_len.0 c.requires.row_len.1 c.open_row.ensures

pub close_row-requires : goal.close_row-requires
close_row-requires c =
    (omega (arith, half_positive c.args.line.half c.requires.sound_line.0.size), row_returned c.args.line c.requires.sound_line.1 c.args.row.now _ _ c.requires.row_len.0 c.open_row.ensures c.turn_packed.ensures)

pub returns : goal.returns
returns c =
    row_whole c.args.line c.requires.sound_line.1 c.requires.sound_line.0 c.args.row.now _ _ _ c.requires.row_len.0 c.open_row.ensures c.turn_packed.ensures c.close_row.ensures
