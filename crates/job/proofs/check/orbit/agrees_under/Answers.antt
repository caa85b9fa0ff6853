-- The value is asked only where the image is the index itself.
use Rattle.cell.specs.Operations.{cell_halves, triple_of, sym_of}
use Rattle.job.proofs.check.orbit.TestLaws.{same_agrees}
use Rattle.job.proofs.check.orbit.agrees_under.Goals as goal

pub returns-then-eq : goal.returns-then-eq
returns-then-eq c =
    let a = c.args in
    same_agrees (cell_halves a.cell) a.m (triple_of a.j) (sym_of a.o) c.image.ensures.0 c.eq.ensures a.x c.requires.modulus.1 c.if-eq.true c.implied.ensures c.eq-then-eq.ensures
