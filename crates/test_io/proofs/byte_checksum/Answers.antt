use Rattle.std.proofs.Common.{sym, ◌∙◌}
use Rattle.test_io.proofs.Stored.{checksum_next, checksum_end}
use Rattle.test_io.proofs.byte_checksum.Goals as goal

pub loop-x-preserved : goal.loop-x-preserved
loop-x-preserved c =
    (c.more-h.ensures.1, rw (c.more-h.ensures.0, c.from.ensures) (sym (checksum_next _ _ _ c.loop-x-test.true) ∙ c.loop-x.invariant.1))

pub returns : goal.returns
returns c = sym (checksum_end c.args.v.now c.loop-x.h c.loop-x.x-index c.loop-x-test.false) ∙ c.loop-x.invariant.1
