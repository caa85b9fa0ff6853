-- In P1 by Friedel's rule alone; in the others but P2₁2₁2₁ where l is between its ends.
use Rattle.volume.proofs.consistent.Interior.{inner_rows}
use Rattle.volume.proofs.consistent.factor_test.ends_alone.Goals as goal

pub returns : goal.returns
returns c = inner_rows c.args.cell c.args.l c.requires c.between.ensures
