-- The theorem, as a promise.
use Rattle.sliding_window.proofs.Orders.{window_refusals}
use Rattle.sliding_window.proofs.check.refusal_order.Goals as goal

pub returns : goal.returns
returns c = window_refusals
