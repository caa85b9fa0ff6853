-- Each case is one of the ways to read an unfolded line.
use mathlib.Core.Path.{◌∙◌, ap}
use native.Mathlib.Omega.{arith}
use Rattle.numbers.specs.Value.{field, conj, value_of, pair_of}
use Rattle.numbers.proofs.Values.{small_by, value_by}
use Rattle.slices.proofs.Bounds.{small_of}
use Rattle.folds.proofs.alternating.before.Line.{whole_zero, whole_low, whole_middle_by, whole_high_even, whole_high_odd}
use Rattle.folds.proofs.alternating.before.value_at.Goals as goal

pub conjugate-v-requires : goal.conjugate-v-requires
conjugate-v-requires c =
    (c.requires.modulus.0, small_of c.args.line.now _ c.get-else-j-a-2.ensures c.requires.line_len.1)

pub negated-requires : goal.negated-requires
negated-requires c =
    (c.requires.modulus.0, small_by c.args.m _ c.conjugate-v.ensures)

pub returns-then-j-eq0 : goal.returns-then-j-eq0
returns-then-j-eq0 c =
    whole_zero c.args.m c.args.a c.args.line.now c.requires.line_len.1 c.if-j-eq0.true c.get-v.ensures

pub returns-then-j-a : goal.returns-then-j-a
returns-then-j-a c =
    whole_low c.args.m c.args.a c.args.line.now c.requires.line_len.1 c.args.j c.if-j-eq0.false c.if-j-a.true c.get.ensures

pub returns-then-j-a-2 : goal.returns-then-j-a-2
returns-then-j-a-2 c =
    whole_middle_by c.args.m c.args.a c.args.line.now c.requires.line_len.1 c.args.j c.if-j-a-2.true (omega arith) c.get-v-then-j-a-2.ensures
    (c.middle.ensures c.args.m (small_of c.args.line.now _ c.get-v-then-j-a-2.ensures c.requires.line_len.1).im)

pub returns-then-j-eq0-2 : goal.returns-then-j-eq0-2
returns-then-j-eq0-2 c =
    c.conjugate-v.ensures
    ∙ ap pair_of (ap (λ v. conj c.args.m (value_of c.args.m v)) c.get-else-j-a-2.ensures ∙ whole_high_even c.args.m c.args.a c.args.line.now c.args.j (omega arith) (omega arith) c.if-j-eq0-2.true)

pub returns-else-j-eq0-2 : goal.returns-else-j-eq0-2
returns-else-j-eq0-2 c =
    c.negated.ensures
    ∙ ap (λ z. pair_of ((field c.args.m).neg z)) (value_by c.args.m _ c.conjugate-v.ensures ∙ ap (λ v. conj c.args.m (value_of c.args.m v)) c.get-else-j-a-2.ensures)
    ∙ ap pair_of (whole_high_odd c.args.m c.args.a c.args.line.now c.args.j (omega arith) (omega arith) c.if-j-eq0-2.false)
