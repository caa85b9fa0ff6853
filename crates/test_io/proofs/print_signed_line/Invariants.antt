-- The numbers before j are printed.
use Rattle.std.proofs.Common.{[], ◌∷◌, take}
use Rattle.std.specs.Fmt.{signed_decimal}
use Rattle.std.specs.List.{join_by}
use Rattle.std.specs.Io.KnownBytes.{Appends}
use Rattle.test_io.proofs.print_signed_line.Given as goal

abbrev pub invariant-loop-j : goal.invariant-loop-j
invariant-loop-j g l = Appends (g.W.Write.contents l.initial.to) (g.W.Write.contents l.to) (join_by signed_decimal (32 ∷ []) (take l.j l.v))
