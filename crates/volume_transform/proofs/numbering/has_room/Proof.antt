-- What the tests have told.
use native.Mathlib.Omega.{arith}
use mathlib.Core.Bool.{true≢false}
use mathlib.Core.Path.{sym}
use borrow.Author.Tests.{leb-true}
use Rattle.volume_transform.proofs.numbering.has_room.Statement.{statement}
use Rattle.volume_transform.proofs.numbering.has_room.Tie as tie

returns-then-line-eq0 : tie.Need-returns-then-line-eq0
returns-then-line-eq0 c e = absurd (true≢false (sym e))

returns-then-line-eq2 : tie.Need-returns-then-line-eq2
returns-then-line-eq2 c e = absurd (true≢false (sym e))

returns-then-line-eq3 : tie.Need-returns-then-line-eq3
returns-then-line-eq3 c e =
    let i3 = c.before in
    let i1 = i3.before.before.before.before in
    record {
      known = λ k. omega (arith, k, i3.if-line-eq3.true);
      short = λ k. absurd (omega (arith, k, i3.if-line-eq3.true));
      folded = λ k. leb-true _ _ e;
      unrotated = λ k. absurd (k i3.if-line-eq3.true);
      some = omega (arith, i1.if-line-eq0.false);
    }

returns-then-line : tie.Need-returns-then-line
returns-then-line c e = absurd (true≢false (sym e))

returns-then-line-eq0-2 : tie.Need-returns-then-line-eq0-2
returns-then-line-eq0-2 c e =
    let i5 = c.before in
    let i4 = i5.before.before in
    let i2 = i4.before.before.before in
    let i1 = i2.before.before in
    record {
      known = i2.if-line-eq2.false;
      short = λ k. leb-true _ _ e;
      folded = λ k. absurd (k i5.if-line-eq0-2.true);
      unrotated = λ k. i4.if-line.false;
      some = omega (arith, i1.if-line-eq0.false);
    }

returns : tie.Need-returns
returns c e =
    let i5 = c.before in
    let i4 = i5.before.before in
    let i2 = i4.before.before.before in
    let i1 = i2.before.before in
    record {
      known = i2.if-line-eq2.false;
      short = λ k. absurd (i5.if-line-eq0-2.false k);
      folded = λ k. leb-true _ _ e;
      unrotated = λ k. i4.if-line.false;
      some = omega (arith, i1.if-line-eq0.false);
    }

pub has_room_spec : {M : Type 1} → statement M
has_room_spec = tie.close (tie.spec returns-then-line-eq0 returns-then-line-eq2 returns-then-line-eq3 returns-then-line returns-then-line-eq0-2 returns)
