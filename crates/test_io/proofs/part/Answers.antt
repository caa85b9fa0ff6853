-- `part`: it ends as many bytes after its start as `at_most` says.
use mathlib.Core.Path.{◌≡◌, ap}
use Prim.Native.Nat.{ℕ, ◌+◌, ◌-◌, min}
use native.Mathlib.Omega.{arith}
use lib.ListN.{take, drop}
use Rattle.test_io.proofs.part.Goals as goal

pub returns : goal.returns
returns c =
    let a = c.args in
    let e : (a.start + c.at_most.result) - a.start ≡ min a.count a.most = omega (arith, c.at_most.ensures.0) in
    ap (λ (n : ℕ). take n (drop a.start a.c.now)) e
