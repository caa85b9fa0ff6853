-- The stored numbers count as often as they stand in the cell.
use Rattle.std.proofs.Common.{arith, sym, ◌∙◌}
use Rattle.power.proofs.FactorPower.{factor_stored}
use Rattle.power.proofs.factor_power.Goals as goal

pub returns : goal.returns
returns c =
    let v = c.requires.volume in
    let n = v.0.sizes in
    c.stored_power.ensures ∙ sym (factor_stored _ _ c.args.m c.args.volume.now (omega (arith, n.first.low), omega (arith, n.second.low), omega (arith, n.third.low)) v.0.long v.2 c.requires.volume_value)
