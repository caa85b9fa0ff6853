use Rattle.std.proofs.Common.{◌≡◌, ◌+◌, ◌-◌, arith}
use Rattle.sliding_window.proofs.Blocks.{suffixes_next}
use Rattle.sliding_window.proofs.extremes.suffixes.Goals as goal

pub loop-t-preserved : goal.loop-t-preserved
loop-t-preserved c =
    let behind : c.loop-t.t - 1 + 1 ≡ c.loop-t.t = omega arith in
    rw (c.better.ensures, behind) (suffixes_next c.loop-t.best c.loop-t.t c.loop-t.invariant c.loop-t-test.true c.requires.1)
