-- The coefficients hold the factors' parts.
use Rattle.folded_batches.proofs.Mates.{complex_held}
use Rattle.folded_batches.proofs.hermitian.mates.complex_mix.Goals as goal

pub returns : goal.returns
returns c =
    let a = c.args in
    let p = c.requires in
    complex_held a.m a.c a.d a.u a.v c.neg.result c.neg-2.result p.1 p.2 p.3 p.4 c.neg.ensures c.neg-2.ensures
