use Rattle.std.proofs.Common.{◌≡◌, ◌∙◌, ap, ℕ, suc, ◌+◌, ◌*◌, ◌%◌, ◌<◌, ◌≤◌, List, length, ℤ, arith}
use Rattle.combined.specs.CombinedMap.{limit}
use Rattle.correlation.specs.Correlation.{larger, over}
use Rattle.correlation.specs.Steps.{magnitude_at}
use Rattle.correlation.proofs.Scans.{below_largest, sum_most, scan_start, scan_next, scan_done}
use Rattle.correlation.proofs.magnitudes.sum_of_magnitudes.Goals as goal

pub loop-n-init : goal.loop-n-init
loop-n-init c = scan_start (omega arith)

-- no magnitude exceeds the limit
small : (b : ℕ) (v : List ℤ) → over larger (length v) (magnitude_at b v) ≤ limit → (k : ℕ) → k < length v → magnitude_at b v k ≤ limit
small b v h k l = omega (arith, below_largest (length v) k (magnitude_at b v) l, h)

pub overflow_add-sum : goal.overflow_add-sum
overflow_add-sum c =
    let n = c.loop-n.n in
    let least = small c.args.b c.args.v.now c.requires.v_bound in
    omega (arith, sum_most n limit (magnitude_at c.args.b c.args.v.now) (λ k l. least k (omega (arith, c.loop-n-test.true))), least n c.loop-n-test.true, c.loop-n.invariant.is, c.magnitude_at-sum.ensures, c.requires.b_bound.1)

pub loop-n-preserved : goal.loop-n-preserved
loop-n-preserved c =
    let width : 2 * c.args.b + 2 ≡ 2 * suc c.args.b = omega arith in
    scan_next c.loop-n.invariant c.loop-n-test.true
    (ap (λ (k : ℕ). c.loop-n.sum + k) c.magnitude_at-sum.ensures)
    (c.next_column-column.ensures ∙ ap (λ (k : ℕ). (c.loop-n.column + 1) % k) width)

pub returns : goal.returns
returns c = scan_done c.loop-n.invariant c.loop-n-test.false
