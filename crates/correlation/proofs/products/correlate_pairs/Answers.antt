-- The pair that a round reads of the first volume is still the one that came in.
use Rattle.std.proofs.Common.{◌∙◌}
use mathlib.Core.Path.{ap₂}
use native.Mathlib.Nat.{le_refl}
use Rattle.algebra.specs.ring.Ring.{Ops}
use Rattle.numbers.specs.Value.{field, conj, real, value_of, pair_of}
use Rattle.numbers.specs.Bounds.{res}
use Rattle.slices.proofs.Bounds.{small_of}
use Rattle.slices.proofs.Filling.{filling_start, filling_next, filling_ahead, filling_whole}
use Rattle.correlation.proofs.products.correlate_pairs.Goals as goal

pub loop-j-init : goal.loop-j-init
loop-j-init c = filling_start

pub correlate_pair-requires : goal.correlate_pair-requires
correlate_pair-requires c =
    let j = c.loop-j.j in (
      c.requires.modulus.0,
      c.requires.modulus.1,
      small_of c.args.first.now j (c.get-x.ensures ∙ filling_ahead j c.loop-j.invariant (le_refl _)) c.requires.below.0,
      small_of c.args.second.now j c.get-y.ensures c.requires.below.1,
    )

pub loop-j-preserved : goal.loop-j-preserved
loop-j-preserved c =
    let z = c.args in
    filling_next c.loop-j.invariant c.loop-j-test.true c.store.ensures
    (c.correlate_pair.ensures
    ∙ ap₂ (λ v w. pair_of ((field z.m).mul (real z.m (res z.m z.c)) ((field z.m).mul (conj z.m (value_of z.m v)) (value_of z.m w))))
    (c.get-x.ensures ∙ filling_ahead c.loop-j.j c.loop-j.invariant (le_refl _)) c.get-y.ensures)

pub returns : goal.returns
returns c = filling_whole c.loop-j.invariant c.loop-j-test.false c.requires.first_len.0
