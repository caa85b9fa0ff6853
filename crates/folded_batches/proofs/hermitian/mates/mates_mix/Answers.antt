-- The parts of 1 + i e and 1 - i e.
use Rattle.algebra.specs.ring.Ring.{pow}
use Rattle.numbers.specs.Value.{field}
use Rattle.roots.specs.Table.{table_root}
use Rattle.batches.proofs.Meaning.{shifted_power}
use Rattle.batches.proofs.LastReduction.{shift_holds}
use Rattle.folded_batches.proofs.HeldNumbers.{held_sum, held_difference, held_negative}
use Rattle.folded_batches.proofs.Mates.{other_direction, mix_forward, mix_back}
use Rattle.folded_batches.proofs.hermitian.mates.mates_mix.Goals as goal

pub returns-then-direction-eq0 : goal.returns-then-direction-eq0
returns-then-direction-eq0 c =
    let m = c.args.m in
    let h = shifted_power c.requires.2 c.args.k c.requires.1 c.requires.4 in
    let one = shift_holds m c.shift-one.ensures in
    mix_forward m (pow (field m) (table_root m c.args.re.now c.args.im.now) c.args.k) (held_difference m _ _ c.sub-up.ensures one h.im) h.re (held_sum m _ _ c.add-down.ensures one h.im) (held_negative m _ c.neg-less.ensures h.re) c.if-direction-eq0.true c.complex_mix.ensures

pub returns-else-direction-eq0 : goal.returns-else-direction-eq0
returns-else-direction-eq0 c =
    let m = c.args.m in
    let h = shifted_power c.requires.2 c.args.k c.requires.1 c.requires.4 in
    let one = shift_holds m c.shift-one.ensures in
    mix_back m (pow (field m) (table_root m c.args.re.now c.args.im.now) c.args.k) (held_difference m _ _ c.sub-up.ensures one h.im) h.re (held_sum m _ _ c.add-down.ensures one h.im) (held_negative m _ c.neg-less.ensures h.re) (other_direction c.args.direction c.requires.3 c.if-direction-eq0.false) c.complex_mix-else-direction-eq0.ensures
