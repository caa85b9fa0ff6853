use Rattle.std.proofs.Common.{◌≡◌, ◌∙◌, ap, ℕ, suc, ◌+◌, ◌*◌, ◌%◌, arith}
use Prim.Native.Nat.{max}
use Rattle.correlation.proofs.Scans.{max_larger, scan_start, scan_next, scan_done}
use Rattle.correlation.proofs.magnitudes.largest_magnitude.Goals as goal

pub loop-n-init : goal.loop-n-init
loop-n-init c = scan_start (omega arith)

pub loop-n-preserved : goal.loop-n-preserved
loop-n-preserved c =
    let width : 2 * c.args.b + 2 ≡ 2 * suc c.args.b = omega arith in
    scan_next c.loop-n.invariant c.loop-n-test.true
    (c.max-most.ensures ∙ ap (max c.loop-n.most) c.magnitude_at.ensures ∙ max_larger c.loop-n.most _)
    (c.next_column-column.ensures ∙ ap (λ (k : ℕ). (c.loop-n.column + 1) % k) width)

pub returns : goal.returns
returns c = scan_done c.loop-n.invariant c.loop-n-test.false
