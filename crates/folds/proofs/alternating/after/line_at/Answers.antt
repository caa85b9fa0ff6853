-- A value and a mate's conjugate; at an odd place, i times what a real number exceeds them by.
use mathlib.Core.Path.{◌∙◌, ap}
use Rattle.numbers.specs.Value.{pair_of}
use Rattle.numbers.proofs.Primes.{prime_pos}
use Rattle.numbers.proofs.Values.{small_by}
use Rattle.slices.specs.Pairs.{at}
use Rattle.slices.proofs.Bounds.{small_of}
use Rattle.folds.proofs.alternating.after.Back.{mate_even, mate_odd, folded_by, i_times_by, scaled_by, line_even, line_odd}
use Rattle.folds.proofs.alternating.after.line_at.Goals as goal

pub conjugate-c-requires : goal.conjugate-c-requires
conjugate-c-requires c =
    (c.requires.modulus.0, small_of c.args.fold.now _ c.get.ensures c.requires.fold_len.1)

pub sum-both-requires : goal.sum-both-requires
sum-both-requires c =
    (c.requires.modulus.0, small_of c.args.fold.now _ c.get-y.ensures c.requires.fold_len.1, small_by c.args.m _ c.conjugate-c.ensures)

pub scaled-requires : goal.scaled-requires
scaled-requires c =
    (c.requires.modulus.0, c.requires.modulus.1, small_by c.args.m _ c.sum-both.ensures)

pub difference-d-requires : goal.difference-d-requires
difference-d-requires c =
    (c.requires.modulus.0, record { re = c.requires.modulus.2; im = prime_pos c.args.m }, small_by c.args.m _ c.sum-both.ensures)

pub times_i-requires : goal.times_i-requires
times_i-requires c =
    (c.requires.modulus.0, small_by c.args.m _ c.difference-d.ensures)

pub scaled-requires-else-j-eq0 : goal.scaled-requires-else-j-eq0
scaled-requires-else-j-eq0 c =
    (c.requires.modulus.0, c.requires.modulus.1, small_by c.args.m _ c.times_i.ensures)

pub returns-then-j-eq0 : goal.returns-then-j-eq0
returns-then-j-eq0 c =
    let l = c.args.fold.now in
    scaled_by c.args.m c.args.part _
    (folded_by c.args.m l _ _ c.get-y.ensures (c.get.ensures ∙ ap (at l) (c.mate_of.ensures.0 ∙ mate_even c.args.a c.args.j c.if-j-eq0.true)) c.conjugate-c.ensures c.sum-both.ensures)
    c.scaled.ensures
    ∙ ap pair_of (line_even c.args.m c.args.a _ _ _ c.args.j c.if-j-eq0.true)

pub returns-else-j-eq0 : goal.returns-else-j-eq0
returns-else-j-eq0 c =
    let l = c.args.fold.now in
    scaled_by c.args.m c.args.part _
    (i_times_by c.args.m c.args.twice _
    (folded_by c.args.m l _ _ c.get-y.ensures (c.get.ensures ∙ ap (at l) (c.mate_of.ensures.0 ∙ mate_odd c.args.a c.args.j c.if-j-eq0.false)) c.conjugate-c.ensures c.sum-both.ensures)
    c.difference-d.ensures c.times_i.ensures)
    c.scaled-else-j-eq0.ensures
    ∙ ap pair_of (line_odd c.args.m c.args.a _ _ _ c.args.j c.if-j-eq0.false)
