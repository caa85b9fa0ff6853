-- The digits before the rest are written.
use native.Mathlib.Omega.{arith}
use Rattle.output.proofs.Writing.{wrote_length}
use Rattle.factor_file.proofs.file.Spelling.{Spelling, spelling_start, spelling_ends, spelling_next, spelling_done}
use Rattle.factor_file.proofs.file.head.put_digits.Statement.{statement}
use Rattle.factor_file.proofs.file.head.put_digits.Tie as tie

abbrev invariant-loop-rest : tie.invariant-loop-rest
invariant-loop-rest factors out₀ start at₀ rest₀ out at rest = Spelling factors start out₀ rest at out

abbrev decreases-loop-rest : tie.decreases-loop-rest
decreases-loop-rest factors out₀ start at₀ rest₀ out at rest = rest

loop-rest-init : tie.Need-loop-rest-init invariant-loop-rest decreases-loop-rest
loop-rest-init c = spelling_start _ _ _

overflow_cast-rest : tie.Need-overflow_cast-rest invariant-loop-rest decreases-loop-rest
overflow_cast-rest c = omega arith

put_byte-at-requires : tie.Need-put_byte-at-requires invariant-loop-rest decreases-loop-rest
put_byte-at-requires c κs =
    let t = c.before in
    let l = t.before in
    spelling_ends l.loop-rest.invariant t.loop-rest-test.true l.before.before.requires

loop-rest-smaller : tie.Need-loop-rest-smaller invariant-loop-rest decreases-loop-rest
loop-rest-smaller c = omega (arith, c.before.before.before.before.loop-rest-test.true)

loop-rest-preserved : tie.Need-loop-rest-preserved invariant-loop-rest decreases-loop-rest
loop-rest-preserved c =
    let p = c.before.before in
    let t = p.before.before in
    spelling_next t.before.loop-rest.invariant t.loop-rest-test.true p.put_byte-at.ensures

shape_of-out : tie.Need-shape_of-out invariant-loop-rest decreases-loop-rest
shape_of-out c = wrote_length c.before.loop-rest.invariant.wrote

returns : tie.Need-returns invariant-loop-rest decreases-loop-rest
returns c = spelling_done c.before.loop-rest.invariant c.loop-rest-test.false

pub put_digits_spec : {M : Type 1} → statement M
put_digits_spec =
    tie.close
    (tie.spec invariant-loop-rest decreases-loop-rest loop-rest-init overflow_cast-rest put_byte-at-requires loop-rest-smaller loop-rest-preserved shape_of-out returns)
