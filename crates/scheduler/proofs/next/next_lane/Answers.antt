use Rattle.std.proofs.Common.{refl, sym, ap, ◌∙◌, ◌-◌, add-one, arith}
use Rattle.scheduler.specs.Scheduler.{next_from}
use Rattle.scheduler.proofs.Contracts.{next_here, next_on, next_end, one_less, two_less}
use Rattle.scheduler.proofs.next.next_lane.Goals as goal

pub returns-then-s-i-ne0 : goal.returns-then-s-i-ne0
returns-then-s-i-ne0 c =
    let a = c.args.s in
    let t = c.loop-k-test.true in
    (next_here a.lanes a.last c.loop-k.k (7 - c.loop-k.k) _ refl c.if-s-i-ne0.true ∙ ap (next_from a.lanes a.last c.loop-k.k) (one_less t) ∙ c.loop-k.invariant, omega arith)

pub loop-k-preserved : goal.loop-k-preserved
loop-k-preserved c =
    let a = c.args.s in
    let t = c.loop-k-test.true in
    let p = add-one c.loop-k.k in
    let q = two_less t in
    (λ i. next_from a.lanes a.last (p i) (q i)) ∙ sym (next_on a.lanes a.last c.loop-k.k (7 - c.loop-k.k) _ refl c.if-s-i-ne0.false) ∙ ap (next_from a.lanes a.last c.loop-k.k) (one_less t) ∙ c.loop-k.invariant

pub returns : goal.returns
returns c =
    let a = c.args.s in
    (next_end a.lanes a.last c.loop-k.k (omega arith) c.loop-k-test.false ∙ c.loop-k.invariant, omega arith)
