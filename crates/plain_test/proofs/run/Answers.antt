-- The generator leaves residues, which is what both directions ask.
use Rattle.plain_test.proofs.Lines.{generated}
use Rattle.plain_test.proofs.run.Goals as goal

pub transform-requires-clause-below : goal.transform-requires-clause-below
transform-requires-clause-below g c = generated c.args.m c.fill.ensures

pub inverse-requires-clause-below : goal.inverse-requires-clause-below
inverse-requires-clause-below g c = generated c.args.m c.fill.ensures
