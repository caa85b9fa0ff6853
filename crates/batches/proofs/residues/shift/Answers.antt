-- The constant of the prime that m chooses.
use Rattle.batches.proofs.LastReduction.{shift_one, shift_two}
use Rattle.batches.proofs.residues.shift.Goals as goal

pub returns-then-m-eq1 : goal.returns-then-m-eq1
returns-then-m-eq1 c = shift_one c.if-m-eq1.true

pub returns-else-m-eq1 : goal.returns-else-m-eq1
returns-else-m-eq1 c = shift_two c.requires c.if-m-eq1.false
