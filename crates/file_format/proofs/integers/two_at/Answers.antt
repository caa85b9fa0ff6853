-- Both bytes are below 256.
use native.Mathlib.Omega.{arith}
use Prim.Native.Nat.{◌+◌, ◌*◌}
use Rattle.file_format.specs.Format.{two_bytes}
use Rattle.file_format.proofs.integers.two_at.Goals as goal

pub returns : goal.returns
unfolding two_bytes
returns c =
    let high = c.byte_at.ensures.0 in
    let low = c.byte_at-2.ensures.0 in
    (λ i. high i * 256 + low i, omega arith)
