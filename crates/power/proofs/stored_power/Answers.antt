-- All layers.
use Rattle.std.proofs.Common.{arith}
use Rattle.power.proofs.PowerLaws.{adding_start, adding_small, item_small, adding_next, adding_done, layers_added}
use Rattle.power.proofs.stored_power.Goals as goal

pub loop-w-init : goal.loop-w-init
loop-w-init c = adding_start

pub add-total-requires : goal.add-total-requires
add-total-requires c = (c.args.r.now.modulus, adding_small c.loop-w.invariant, item_small c.loop-w.invariant c.layer_power-layer.ensures)

pub loop-w-preserved : goal.loop-w-preserved
loop-w-preserved c = adding_next c.loop-w.invariant c.layer_power-layer.ensures c.add-total.ensures

pub returns : goal.returns
returns c = layers_added _ _ c.args.r.now.m _ c.args.density (adding_done c.loop-w.invariant (omega (arith, c.layer_count-w-end.ensures)))
