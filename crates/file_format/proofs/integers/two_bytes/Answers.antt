-- Two bytes, each below 256.
use native.Mathlib.Omega.{arith}
use Rattle.file_format.specs.Format.{two_bytes}
use Rattle.file_format.proofs.integers.two_bytes.Goals as goal

pub returns : goal.returns
unfolding two_bytes
returns c = omega arith
