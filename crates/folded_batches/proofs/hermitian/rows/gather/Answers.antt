-- Place by place (`GatheredRows`).
use Rattle.std.proofs.Common.{◌+◌, ◌*◌, ◌<◌, subst, sym, arith}
use Rattle.folded_batches.proofs.RowPlaces.{second_low}
use Rattle.folded_batches.proofs.hermitian.rows.gather.Goals as goal

pub gather_place-requires : goal.gather_place-requires
gather_place-requires c =
    let p = c.requires.b_bound in
    (p.2, omega arith, subst (λ n. n < 2 * c.args.b + 2) (sym c.second_of.ensures) (second_low p.1 c.loop-j.j c.loop-j-test.true), omega arith, omega arith, omega arith)
