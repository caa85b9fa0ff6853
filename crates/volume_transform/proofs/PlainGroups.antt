-- A group of plain lines is one of the groups of every kind.
use mathlib.Core.Logic.{⊎_elim}
use Prim.Native.Nat.{ℕ, ◌<◌}
use native.Mathlib.Omega.{arith}
use mathlib.Core.Path.{◌≡◌}
use Rattle.volume_transform.specs.Groups.{GatheredGroup, RowGroup, GroupOfTurn, PlainGroup, GroupAt}
use Rattle.volume_transform.specs.declared.plan.LineGroup.{LineGroup}
use Rattle.volume_transform.specs.declared.plan.Plan.{Plan}

module _ {p : Plan} {n most : ℕ} {g : LineGroup} (h : GroupOfTurn p n most g) where
  -- rows are not plain
  plain_group : g.line.kind ≡ 0 → 1 < g.lanes → PlainGroup p n g.line g.lanes
  plain_group k more =
      ⊎_elim
      (λ (q : GatheredGroup p n g.line g.lanes). record {
        plain = k;
        unrotated = q.room.unrotated (λ e. omega (arith, e, k));
        short = q.room.short k;
        wide = q.wide;
        each = q.each;
      })
      (λ (q : RowGroup p n g.line g.lanes). absurd (omega (arith, (q.each 0 (omega arith)).placed.hermitian, k)))
      (h.together more)

  pub plain_lines : g.line.kind ≡ 0 → GroupAt p n most g
  plain_lines k = record { first = h.first; some = h.some; few = h.few; inside = h.inside; plain = plain_group k }

  pub first_line : 0 < most → GroupAt p n most (record { line = g.line; lanes = 1 })
  first_line l = record { first = h.first; some = omega arith; few = omega arith; inside = omega (arith, h.inside, h.some); plain = λ more. absurd (omega (arith, more)) }
