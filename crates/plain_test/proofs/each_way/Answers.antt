-- The tables hold the powers of r and, negated, of its conjugate.
use Rattle.std.proofs.Common.{arith}
use Rattle.roots.proofs.RootPowers.{imaginary_below, root_table, conj_root_table}
use Rattle.roots.proofs.RootNegated.{negated_first}
use Rattle.plain_test.proofs.each_way.Goals as goal

pub lend-requires-clause-modulus : goal.lend-requires-clause-modulus
lend-requires-clause-modulus g c = let t = c.requires.modulus in (t.0, omega arith, root_table c.args.m t.0 t.1 t.2)

pub negate-requires : goal.negate-requires
negate-requires g c = let t = c.requires.modulus in (t.0, imaginary_below c.args.m t.2 (omega arith))

pub lend-requires-2-clause-modulus : goal.lend-requires-2-clause-modulus
lend-requires-2-clause-modulus g c =
    let t = c.requires.modulus in
    (t.0, omega arith, conj_root_table c.args.m t.0 t.1 t.2 (negated_first (omega arith) c.negate.ensures))
