-- The numbers before x are the input's.
use Rattle.std.proofs.Common.{take}
use Rattle.std.specs.List.{flat_map}
use Rattle.std.specs.Io.KnownBytes.{Consumes}
use Rattle.output.specs.Output.{big_endian}
use Rattle.test_io.proofs.read_numbers.Given as goal

abbrev pub invariant-loop-x : goal.invariant-loop-x
invariant-loop-x g l = Consumes (g.R.Read.remaining l.initial.from) (g.R.Read.remaining l.from) (flat_map (big_endian 4) (take l.x-index l.v))
