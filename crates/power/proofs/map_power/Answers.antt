-- The stored numbers count as often as they stand in the cell.
use Rattle.std.proofs.Common.{arith, sym, ◌∙◌}
use Rattle.power.proofs.MapPower.{map_stored}
use Rattle.power.proofs.map_power.Goals as goal

pub returns : goal.returns
returns c = c.stored_power.ensures ∙ sym (map_stored _ _ c.args.m c.args.volume.now (omega (arith, c.requires.0.sizes.third.low)))
