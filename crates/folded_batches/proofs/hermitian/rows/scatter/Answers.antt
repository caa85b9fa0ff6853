-- Place by place (`ScatteredRows`), and the numbers that no place has.
use Rattle.std.proofs.Common.{◌≢◌, ◌+◌, ◌*◌, ◌<◌, subst, sym, arith}
use Rattle.folded_batches.proofs.RowPlaces.{second_low, second_even, spread_next, spread_closed, put_as, spread_done}
use Rattle.folded_batches.proofs.hermitian.rows.scatter.Goals as goal

pub put_rows-requires : goal.put_rows-requires
put_rows-requires c =
    let p = c.requires.b_nonzero in
    let j = c.loop-j.j in
    let e = sym c.second_of.ensures in
    (p.3, omega arith, subst (λ n. n < 2 * c.args.b + 2) e (second_low p.2 j c.loop-j-test.true), subst (λ n. 2 * j ≢ n) e (λ q. second_even p.2 j j c.loop-j-test.true c.loop-j-test.true (sym q)), omega arith, omega arith)

pub loop-j-preserved : goal.loop-j-preserved
loop-j-preserved c =
    let p = c.requires.b_nonzero in
    (spread_next p.2 c.loop-j.invariant.0 c.loop-j-test.true p.3 c.reduce_place.ensures (put_as c.args.second c.loop-j.j c.second_of.ensures c.put_rows.ensures), c.reduce_place.ensures.long)

pub returns : goal.returns
returns c =
    let p = c.requires.b_nonzero in
    spread_closed p.2 p.0 (spread_done c.loop-j.invariant.0 (omega arith)) c.put_rows-2.ensures p.3
