-- `cell::numbers_read_exactly`: the theorem of proofs/NumbersRead.
use Rattle.cell.proofs.NumbersRead.{numbers_read_exactly}
use Rattle.cell.proofs.numbers_read_exactly.Goals as goal

pub returns : goal.returns
returns c = numbers_read_exactly
