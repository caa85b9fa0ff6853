-- The rows are lent as a part of the volume, and what is left there is their turns (`FoldedTurns`, `RowParts`).
use borrow.Author.Rules.{rules}
use native.Mathlib.Omega.{arith}
use mathlib.Core.Path.{◌≡◌, sym, ◌∙◌, ap}
use Prim.Native.Nat.{ℕ, ◌+◌, ◌*◌, ◌≤◌}
use lib.ListN.{length}
use Rattle.line.proofs.kinds.Dispatch.{prefix_length}
use Rattle.volume_transform.proofs.GroupTurns.{lent_kept}
use Rattle.volume_transform.proofs.RowParts.{rows_long, rows_below, rows_placed, rows_same}
use Rattle.volume_transform.proofs.FoldedTurns.{folds_ready, rows_turned_lem}
use Rattle.volume_transform.proofs.groups.turn_rows.Statement.{statement}
use Rattle.volume_transform.proofs.groups.turn_rows.Tie as tie

-- a row is no plain line
not_plain : (s : tie.Start) → s.args.line.kind ≡ 0 → ⊥
not_plain s e = omega (arith, e, s.requires.0.0.hermitian)

short : (s : tie.Start) → s.args.line.half ≤ 359
short s = s.requires.0.0.room.folded (not_plain s)

-- the batch has room
room : (s : tie.Start) → (32 * s.args.line.half ≤ length s.args.scratch.now) × (32 * s.args.line.half ≤ length s.args.work.now)
room s = (omega (arith, short s, s.requires.1.1.0), omega (arith, short s, s.requires.1.1.1))

overflow_mul-start : tie.Need-overflow_mul-start
overflow_mul-start c = let h = c.requires.0.0 in omega (arith, h.fits, h.low)

overflow_mul-end : tie.Need-overflow_mul-end
overflow_mul-end c = let h = c.requires.0.0 in omega (arith, h.fits, h.low)

overflow_mul-end-2 : tie.Need-overflow_mul-end-2
overflow_mul-end-2 c = let h = c.requires.0.0 in omega (arith, h.fits, h.low)

overflow_add-end : tie.Need-overflow_add-end
overflow_add-end c = let h = c.requires.0.0 in omega (arith, h.fits, h.low)

overflow_mul-size : tie.Need-overflow_mul-size
overflow_mul-size c = omega (arith, short c.before.before.before.before.before.before)

offset_bounds-volume-start : tie.Need-offset_bounds-volume-start
offset_bounds-volume-start c = let h = c.requires.0.0 in omega (arith, h.fits, h.low)

slice_bounds-turn_rows-count : tie.Need-slice_bounds-turn_rows-count
slice_bounds-turn_rows-count c = let h = c.requires.0.0 in omega (arith, h.fits, h.low)

slice_bounds-turn_rows-start : tie.Need-slice_bounds-turn_rows-start
slice_bounds-turn_rows-start c = let h = c.requires.0.0 in omega (arith, h.fits, h.low)

slice_bounds-turn_rows-end : tie.Need-slice_bounds-turn_rows-end
slice_bounds-turn_rows-end c = let h = c.requires.0.0 in omega (arith, h.fits, h.low)

slice_bounds-turn_rows-end-2 : tie.Need-slice_bounds-turn_rows-end-2
slice_bounds-turn_rows-end-2 c = (room c.before.before.before.before.before.before.before).0

slice_bounds-turn_rows-end-3 : tie.Need-slice_bounds-turn_rows-end-3
slice_bounds-turn_rows-end-3 c = let s = c.before.before.before.before.before.before.before.before in sym (prefix_length _ s.args.scratch.now (room s).0)

slice_bounds-turn_rows-end-4 : tie.Need-slice_bounds-turn_rows-end-4
slice_bounds-turn_rows-end-4 c = (room c.before.before.before.before.before.before.before.before).1

slice_bounds-turn_rows-end-5 : tie.Need-slice_bounds-turn_rows-end-5
slice_bounds-turn_rows-end-5 c = let s = c.before.before.before.before.before.before.before.before.before in sym (prefix_length _ s.args.work.now (room s).1)

turn_rows-requires : tie.Need-turn_rows-requires
turn_rows-requires c κs =
    let s = c.before.before.before.before.before.before.before.before.before in
    let x = s.args.line in
    let h = s.requires.0.0 in
    let e = s.requires.0.2 in
    let ready = folds_ready x s.requires.0.1 (not_plain s) h.sound s.args.m e s.requires.1.0 in (
      (ready.0, ready.2, ready.3, h.sound.directed),
      (
        (h.few, rows_long x h ∙ counted s.args.lanes x.count x.half h.counted, rows_below x h s.args.m e),
        (omega (arith, prefix_length _ s.args.scratch.now (room s).0), prefix_length _ s.args.work.now (room s).1),
      ),
    )
  where
    counted : (lanes n b : ℕ) → n ≡ b + 1 → 2 * (lanes * n) ≡ 2 * ((b + 1) * lanes)
    counted lanes n b e = ap (λ n. 2 * (lanes * n)) e ∙ omega arith

shape_of-volume : tie.Need-shape_of-volume
shape_of-volume c =
    let s = c.before.before.before.before.before.before.before.before.before.before.before.before.before.before.before.before in
    let h = s.requires.0.0 in
    rows_same s.args.line h _ (rows_turned_lem s.args.line s.requires.0.1 (not_plain s) h.sound s.args.m s.args.lanes _ s.requires.0.2 h.counted (c.turn_rows.ensures s.args.tan.now))

shape_of-scratch : tie.Need-shape_of-scratch
shape_of-scratch c = search rules

shape_of-work : tie.Need-shape_of-work
shape_of-work c = search rules

returns : tie.Need-returns
returns c =
    let s = c.before.before.before.before.before.before.before.before.before.before.before.before.before.before.before.before in
    let h = s.requires.0.0 in (
      rows_placed s.args.line h _ (rows_turned_lem s.args.line s.requires.0.1 (not_plain s) h.sound s.args.m s.args.lanes _ s.requires.0.2 h.counted (c.turn_rows.ensures s.args.tan.now)),
      lent_kept s.args.scratch.now c.turn_rows.new.line (omega (arith, short s)) (c.scratch-1.given.0 ∙ prefix_length _ s.args.scratch.now (room s).0),
    )

pub turn_rows_spec : {M : Type 1} → statement M
turn_rows_spec =
    tie.close
    (tie.spec overflow_mul-start overflow_mul-end overflow_mul-end-2 overflow_add-end overflow_mul-size offset_bounds-volume-start slice_bounds-turn_rows-count slice_bounds-turn_rows-start slice_bounds-turn_rows-end slice_bounds-turn_rows-end-2 slice_bounds-turn_rows-end-3 slice_bounds-turn_rows-end-4 slice_bounds-turn_rows-end-5 turn_rows-requires shape_of-volume shape_of-scratch shape_of-work returns)
