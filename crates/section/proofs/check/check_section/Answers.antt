-- The tests of the map, then those of the plane and of the output in turn.
use borrow.Author.Tests.{le-leb, lt-leb, lt-ltb, le-ltb}
use mathlib.Core.Path.{◌≡◌, sym, ◌∙◌, ap, subst}
use Prim.Native.Nat.{ℕ, ◌<◌, ◌≤◌}
use lib.ListN.{length}
use Rattle.refusals.proofs.Handed.{handed_number}
use Rattle.refusals.proofs.Tests.{stop, pass, none, passed, not_t, not_f, by_false, by_true, append_stop, append_pass, not_zero}
use Rattle.cell.specs.Operations.{cell_lengths}
use Rattle.combined.specs.CombinedMap.{combined_map_tests}
use Rattle.section.specs.Sound.{Plane, Sound}
use Rattle.section.proofs.Outcomes.{plane_of, page_long}
use Rattle.section.proofs.check.check_section.Goals as goal

pub returns-in_err-check_combined_map : goal.returns-in_err-check_combined_map
returns-in_err-check_combined_map c =
    handed_number _ _ c.from_residual.ensures.1 (append_stop (combined_map_tests c.args.cell.group (cell_lengths c.args.cell) (length c.args.map.now)) _ (not_zero _) c.in_err-check_combined_map.ensures)

pub returns-then-cell-z : goal.returns-then-cell-z
returns-then-cell-z c = append_pass (combined_map_tests c.args.cell.group (cell_lengths c.args.cell) (length c.args.map.now)) _ (passed _ tt c.in_ok-check_combined_map.ensures) (stop _ (le-leb _ _ c.if-cell-z.true))

pub plane_within-requires : goal.plane_within-requires
plane_within-requires c = plane_of c.args.cell c.args.map.now c.args.z c.in_ok-check_combined_map.ensures c.if-cell-z.false

pub returns-then-not-plane_within : goal.returns-then-not-plane_within
returns-then-not-plane_within c =
    append_pass (combined_map_tests c.args.cell.group (cell_lengths c.args.cell) (length c.args.map.now)) _ (passed _ tt c.in_ok-check_combined_map.ensures)
    (pass 10 _ (lt-leb _ _ c.if-cell-z.false) (stop _ (not_f _ (by_false _ _ c.plane_within.ensures c.if-not-plane_within.true))))

pub text_length-requires : goal.text_length-requires
text_length-requires c = (plane_of c.args.cell c.args.map.now c.args.z c.in_ok-check_combined_map.ensures c.if-cell-z.false).sizes

pub returns-then-room-text_length : goal.returns-then-room-text_length
returns-then-room-text_length c =
    let p = plane_of c.args.cell c.args.map.now c.args.z c.in_ok-check_combined_map.ensures c.if-cell-z.false in
    let w = by_true _ _ c.plane_within.ensures c.if-not-plane_within.false in
    let l = c.text_length.ensures ∙ sym (page_long c.args.cell c.args.map.now c.args.z (record { plane = p; within = w })) in
    append_pass (combined_map_tests c.args.cell.group (cell_lengths c.args.cell) (length c.args.map.now)) _ (passed _ tt c.in_ok-check_combined_map.ensures)
    (pass 10 _ (lt-leb _ _ c.if-cell-z.false) (pass 28 _ (not_t _ w) (stop _ (lt-ltb _ _ (subst (λ (n : ℕ). c.args.room < n) l c.if-room-text_length.true)))))

pub returns : goal.returns
returns c =
    let p = plane_of c.args.cell c.args.map.now c.args.z c.in_ok-check_combined_map.ensures c.if-cell-z.false in
    let w = by_true _ _ c.plane_within.ensures c.if-not-plane_within.false in
    let l = c.text_length.ensures ∙ sym (page_long c.args.cell c.args.map.now c.args.z (record { plane = p; within = w })) in
    append_pass (combined_map_tests c.args.cell.group (cell_lengths c.args.cell) (length c.args.map.now)) _ (passed _ tt c.in_ok-check_combined_map.ensures)
    (pass 10 _ (lt-leb _ _ c.if-cell-z.false) (pass 28 _ (not_t _ w) (pass 18 _ (le-ltb _ _ (subst (λ (n : ℕ). n ≤ c.args.room) l c.if-room-text_length.false)) none)))
