-- Each test in turn.
use borrow.Author.Rules.{rules}
use mathlib.Core.Path.{◌≡◌, ◌∙◌, ap₂, subst}
use mathlib.Core.Bool.{false}
use Prim.Native.Nat.{ℕ, ◌*◌, ◌<◌, ◌≤◌}
use lib.Dec.{ltb}
use lib.ListN.{length}
use borrow.Author.Tests.{lt-ltb, le-ltb}
use Rattle.combined.specs.CombinedMap.{limit}
use Rattle.correlation.specs.Correlation.{larger, over}
use Rattle.correlation.specs.Steps.{magnitude_at}
use Rattle.correlation.proofs.Tests.{or_first, or_later}
use Rattle.correlation.proofs.check.exceeds_limit.Statement.{statement}
use Rattle.correlation.proofs.check.exceeds_limit.Tie as tie

-- src/check.rt:99:9
-- the largest magnitude of a is not too large
within : (c : tie.Else-most_a-gt13063485600) → ltb limit (over larger (length c.before.before.args.a.now) (magnitude_at c.before.before.args.half c.before.before.args.a.now)) ≡ false
within c = le-ltb limit _ (subst (λ (k : ℕ). k ≤ limit) c.before.largest_magnitude-most_a.ensures c.if-most_a-gt13063485600.false)

largest_magnitude-most_a-requires : tie.Need-largest_magnitude-most_a-requires
largest_magnitude-most_a-requires c κs = search rules

-- src/check.rt:101:9
returns-then-most_a-gt13063485600 : tie.Need-returns-then-most_a-gt13063485600
returns-then-most_a-gt13063485600 c = or_first _ (lt-ltb limit _ (subst (λ (k : ℕ). limit < k) c.before.largest_magnitude-most_a.ensures c.if-most_a-gt13063485600.true))

-- src/check.rt:103:9
largest_magnitude-most_b-requires : tie.Need-largest_magnitude-most_b-requires
largest_magnitude-most_b-requires c κs = search rules

-- src/check.rt:105:9
returns-then-most_b-gt13063485600 : tie.Need-returns-then-most_b-gt13063485600
returns-then-most_b-gt13063485600 c =
    let m = c.before in
    or_later (within m.before) (or_first _ (lt-ltb limit _ (subst (λ (k : ℕ). limit < k) m.largest_magnitude-most_b.ensures c.if-most_b-gt13063485600.true)))

-- src/check.rt:107:9
sum_of_magnitudes-sum-requires : tie.Need-sum_of_magnitudes-sum-requires
sum_of_magnitudes-sum-requires c κs = search rules

-- src/check.rt:108:5
product_exceeds-requires : tie.Need-product_exceeds-requires
product_exceeds-requires c κs = search rules

-- src/check.rt:95:1
returns : tie.Need-returns
returns c =
    let s = c.before in
    let e = s.before in
    let m = e.before in
    or_later (within m.before) (or_later (le-ltb limit _ (subst (λ (k : ℕ). k ≤ limit) m.largest_magnitude-most_b.ensures e.if-most_b-gt13063485600.false)) (c.product_exceeds.ensures ∙ ap₂ (λ (x y : ℕ). ltb limit (x * y)) s.sum_of_magnitudes-sum.ensures m.largest_magnitude-most_b.ensures))

pub exceeds_limit_spec : {M : Type 1} → statement M
exceeds_limit_spec =
    tie.close
    (tie.spec largest_magnitude-most_a-requires returns-then-most_a-gt13063485600 largest_magnitude-most_b-requires returns-then-most_b-gt13063485600 sum_of_magnitudes-sum-requires product_exceeds-requires returns)
