-- At the last l of an alternating line, or at a pair of its own.
use mathlib.Core.Path.{◌≡◌, refl, subst, sym}
use mathlib.Core.Bool.{Bool, true, false, ◌&&◌}
use Prim.Native.Nat.{◌/◌}
use lib.Dec.{T, eqb}
use borrow.Author.Tests.{eqb-true, eqb-false}
use Rattle.cell.proofs.LineKinds.{is_kind, other_kind}
use Rattle.volume.proofs.orbit_place.OrbitPlaceLaws.{last_place, own_place}
use Rattle.volume.proofs.orbit_place.number_place.Goals as goal

-- what the two tests together say
both : (b e : Bool) → (b && e) ≡ true → (b ≡ true) × (e ≡ true)
both true e t = (refl, t)
both false e t = absurd (subst T (sym t) tt)

other : {A : Type 0} (b e : Bool) → (b && e) ≡ false → (b ≡ false → A → ⊥) → A → e ≡ false
other true e t f x = t
other false e t f x = absurd (f refl x)

pub returns-then-kind-j : goal.returns-then-kind-j
returns-then-kind-j c =
    let a = c.args in
    let e = both (eqb c.line_kind-kind.result 3) (eqb a.j.l (a.cell.n3 / 2)) c.if-kind-j.true in
    last_place _ _ _ (is_kind c.line_kind-kind.ensures.1 (eqb-true c.line_kind-kind.result 3 e.0)) e.1 c.pair_place.ensures.0

pub returns-else-kind-j : goal.returns-else-kind-j
returns-else-kind-j c =
    let a = c.args in
    own_place _ _ _ (other (eqb c.line_kind-kind.result 3) (eqb a.j.l (a.cell.n3 / 2)) c.if-kind-j.false (λ n. other_kind c.line_kind-kind.ensures.1 c.line_kind-kind.ensures.0 (eqb-false c.line_kind-kind.result 3 n))) c.pair_place-else-kind-j.ensures.0
