-- A layer's rows, then once or twice.
use Rattle.std.proofs.Common.{arith, sym, ◌∙◌}
use Rattle.power.proofs.PowerLaws.{adding_start, adding_small, item_small, adding_next, adding_done, layer_once, layer_twofold}
use Rattle.power.proofs.layer_power.Goals as goal

pub loop-h-init : goal.loop-h-init
loop-h-init c = adding_start

pub add-total-requires : goal.add-total-requires
add-total-requires c = (c.args.r.now.modulus, adding_small c.loop-h.invariant, item_small c.loop-h.invariant c.row_power-row.ensures)

pub loop-h-preserved : goal.loop-h-preserved
loop-h-preserved c = adding_next c.loop-h.invariant c.row_power-row.ensures c.add-total.ensures

pub add-requires : goal.add-requires
add-requires c = let b = adding_small c.loop-h.invariant in (c.args.r.now.modulus, b, b)

pub returns-then-layer_twice : goal.returns-then-layer_twice
returns-then-layer_twice c =
    let rows = adding_done c.loop-h.invariant (omega (arith, c.args.r.now.whole.sizes.first.even)) in
    layer_twofold _ _ c.args.r.now.m _ c.args.density c.args.w rows (sym c.layer_twice.ensures ∙ c.if-layer_twice.true) c.add.ensures

pub returns-else-layer_twice : goal.returns-else-layer_twice
returns-else-layer_twice c =
    let rows = adding_done c.loop-h.invariant (omega (arith, c.args.r.now.whole.sizes.first.even)) in
    layer_once _ _ c.args.r.now.m _ c.args.density c.args.w rows (sym c.layer_twice.ensures ∙ c.if-layer_twice.false)
