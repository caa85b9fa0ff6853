use Rattle.std.proofs.Common.{rules, ◌∙◌}
use mir.Syntax.{w64}
use mir.ValLaws.{to_z-of_z}
use Rattle.test_io.proofs.Taking.{named_next}
use Rattle.test_io.proofs.read_named.Goals as goal

pub loop-j-preserved : goal.loop-j-preserved
loop-j-preserved g c =
    let read = c.in_ok-read_bytes.ensures in
    named_next _ _ _ _ _ _ c.in_ok-read_bytes.field-0 _ _ read.len (search rules) (to_z-of_z w64 c.named.result (search rules) ∙ c.named.ensures) c.loop-j.invariant read.bytes
