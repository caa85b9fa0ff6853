use Rattle.std.proofs.Common.{sym, subst, rules}
use Rattle.std.specs.Io.KnownBytes.{Consumes}
use Rattle.std.proofs.KnownBytes.{Consumes-trans}
use Rattle.test_io.proofs.Taking.{take_read}
use Rattle.test_io.proofs.read_bytes.Goals as goal

pub loop-done-preserved : goal.loop-done-preserved
loop-done-preserved g c =
    let read = c.in_ok-n.ensures in
    (search rules, subst (Consumes _ _) (sym (take_read c.loop-done.done _ c.in_ok-n.n c.loop-done.v c.read.new.buf c.loop-done.invariant.0 read.bound.0)) (Consumes-trans _ _ _ _ _ c.loop-done.invariant.1 read.bytes.0))
