use Rattle.std.proofs.Common.{◌≡◌, ◌∙◌, sym, ap, subst, refl, ℕ, ◌<◌, ◌≤◌, ℤ, w64, to_z, of_z}
use lib.IntN.{nat_abs}
use borrow.Author.Tests.{le-leb, lt-leb}
use mir.Val.{SFits}
use mir.ValLaws.{to_z-of_z}
use Rattle.combined.specs.CombinedMap.{limit}
use Rattle.algebra.proofs.cells.Passing.{passing_start, passing_next, passing_stop}
use Rattle.section.proofs.check.row_within.Goals as goal

-- the magnitude is that of the point's number
size : {m : ℕ} {z w : ℤ} → SFits w64 z → m ≡ nat_abs (to_z w64 (of_z w64 z)) → z ≡ w → m ≡ nat_abs w
size {z = z} f e q = e ∙ ap nat_abs (to_z-of_z w64 z f ∙ q)

pub loop-y-init : goal.loop-y-init
loop-y-init c = passing_start _ _

pub loop-y-preserved : goal.loop-y-preserved
loop-y-preserved c =
    let m = size (record { sfits = c.count_at.type_inv }) c.magnitude.ensures c.count_at.ensures in
    passing_next c.loop-y.invariant c.loop-y-test.true (sym (le-leb _ _ (subst (λ (k : ℕ). k ≤ limit) m c.if-magnitude-gt13063485600.false))) refl

pub returns-then-magnitude-gt13063485600 : goal.returns-then-magnitude-gt13063485600
returns-then-magnitude-gt13063485600 c =
    let m = size (record { sfits = c.count_at.type_inv }) c.magnitude.ensures c.count_at.ensures in
    passing_stop c.loop-y.invariant c.loop-y-test.true (sym (lt-leb _ _ (subst (λ (k : ℕ). limit < k) m c.if-magnitude-gt13063485600.true))) refl
