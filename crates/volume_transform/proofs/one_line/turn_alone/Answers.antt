-- The branch on the prime.
use Rattle.numbers.proofs.ModulusCases.{second}
use Rattle.volume_transform.proofs.OwnTurns.{placed_sound}
use Rattle.volume_transform.proofs.one_line.turn_alone.Goals as goal

pub alone_by-requires-else-line-eq1 : goal.alone_by-requires-else-line-eq1
alone_by-requires-else-line-eq1 c = (c.requires.0, second (placed_sound c.args.line c.requires.0).modulus c.if-line-eq1.false, c.requires.1, c.requires.2)
