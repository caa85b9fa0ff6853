-- The product so far, times that of the rest, is the whole product, which is at least the product so far.
use mathlib.Core.Path.{◌≡◌}
use Prim.Native.Nat.{◌*◌, ◌≤◌}
use lib.ListN.{drop}
use Rattle.lengths.specs.Lengths.{product}
use Rattle.lengths.proofs.has_product.Given as goal

abbrev pub invariant-loop-factor : goal.invariant-loop-factor
invariant-loop-factor l = (l.done ≤ 1440) × (product l.factors ≡ l.done * product (drop l.factor-index l.factors))
