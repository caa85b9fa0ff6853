-- `combine_maps`: what the check says is the number of the first test that holds; a refused call has touched nothing, an accepted one has filled the output.
use mathlib.Core.Path.{◌∙◌, sym, ap}
use Rattle.numbers.specs.Value.{prime}
use Rattle.refusals.proofs.Handed.{handed_on}
use Rattle.combining.specs.Answers.{combine_outcome}
use Rattle.combining.proofs.Tests.{sound}
use Rattle.combining.proofs.Outcome.{refused_outcome, accepted_outcome}
use Rattle.combining.proofs.combine_maps.Goals as goal

pub combine_all-requires : goal.combine_all-requires
unfolding prime
combine_all-requires c =
    let s = sound _ _ _ _ _ c.in_ok-check_maps.ensures in
    record { below = (s.first_below, s.second_below); second_len = (s.second_long ∙ sym s.first_long, s.as_long ∙ sym s.first_long) }

pub returns-in_err-check_maps : goal.returns-in_err-check_maps
returns-in_err-check_maps c =
    let a = c.args in
    ap (λ r. combine_outcome r a.output.now) (handed_on _ _ c.from_residual.ensures.1)
    ∙ refused_outcome a.first a.first_map.now a.second a.second_map.now a.output.now _ c.in_err-check_maps.ensures

pub returns : goal.returns
returns c =
    let a = c.args in
    accepted_outcome a.first a.first_map.now a.second a.second_map.now a.output.now c.in_ok-check_maps.ensures c.combine_all.ensures
