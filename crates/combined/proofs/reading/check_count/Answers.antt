-- The tests of the map, then that of the point.
use Rattle.refusals.proofs.Handed.{handed_number}
use Rattle.refusals.proofs.Tests.{stop, pass, none, passed, not_t, not_f, by_false, by_true, append_stop, append_pass, not_zero}
use Rattle.cell.specs.Operations.{cell_lengths}
use Rattle.combined.specs.CombinedMap.{combined_map_tests}
use Rattle.combined.proofs.reading.check_count.Goals as goal

pub returns-in_err-check_combined_map : goal.returns-in_err-check_combined_map
returns-in_err-check_combined_map c =
    handed_number _ _ c.from_residual.ensures.1 (append_stop (combined_map_tests c.args.cell.group (cell_lengths c.args.cell) c.args.length) _ (not_zero _) c.in_err-check_combined_map.ensures)

pub returns-then-not-inside : goal.returns-then-not-inside
returns-then-not-inside c =
    append_pass (combined_map_tests c.args.cell.group (cell_lengths c.args.cell) c.args.length) _ (passed _ tt c.in_ok-check_combined_map.ensures)
    (stop _ (not_f _ (by_false _ _ c.inside.ensures c.if-not-inside.true)))

pub returns : goal.returns
returns c =
    append_pass (combined_map_tests c.args.cell.group (cell_lengths c.args.cell) c.args.length) _ (passed _ tt c.in_ok-check_combined_map.ensures)
    (pass 10 _ (not_t _ (by_true _ _ c.inside.ensures c.if-not-inside.false)) none)
