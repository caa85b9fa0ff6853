-- The tests of the map, then that of the parameters.
use mathlib.Core.Path.{◌≡◌, sym, ◌∙◌, ap}
use Prim.Native.Nat.{ℕ}
use Rattle.refusals.specs.Refusals.{first, accepted}
use Rattle.refusals.proofs.Handed.{handed_number}
use Rattle.refusals.proofs.Tests.{first_append, fails}
use Rattle.cell.specs.Operations.{cell_lengths}
use Rattle.combined.specs.CombinedMap.{combined_map_tests}
use Rattle.mrc.specs.Mrc.{parameter_tests}
use Rattle.mrc.proofs.check_shape.Goals as goal

pub returns-in_err-check_combined_map : goal.returns-in_err-check_combined_map
returns-in_err-check_combined_map c =
    let ts = combined_map_tests c.args.cell.group (cell_lengths c.args.cell) c.args.length in
    let us = parameter_tests c.args.cell.group c.args.parameters in
    handed_number _ _ c.from_residual.ensures.1 (fails _ (first ts) (first us) (λ n. n) c.in_err-check_combined_map.ensures ∙ sym (first_append ts us tt))

pub returns : goal.returns
returns c =
    let ts = combined_map_tests c.args.cell.group (cell_lengths c.args.cell) c.args.length in
    let us = parameter_tests c.args.cell.group c.args.parameters in
    c.check_parameters.ensures ∙ ap (λ (n : ℕ). accepted n (first us) (λ n. n)) c.in_ok-check_combined_map.ensures ∙ sym (first_append ts us tt)
