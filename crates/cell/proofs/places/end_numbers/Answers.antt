-- The ends of each kind of line.
use mathlib.Core.Path.{refl}
use Rattle.cell.proofs.LineKinds.{is_kind, other_kind}
use Rattle.cell.proofs.PlaceLaws.{first_found, second_found, zero_found, mirror_found}
use Rattle.cell.proofs.places.end_numbers.Goals as goal

pub returns-then-j-eq0 : goal.returns-then-j-eq0
returns-then-j-eq0 c =
    let p = c.requires.sizes in
    let k = c.requires.kind_bound in
    first_found p.0 _ p.1 p.2 _ (is_kind k.1 c.if-kind-eq3.true) c.if-j-eq0.true c.pair_place-place.ensures.0 refl refl

pub returns-else-j-eq0 : goal.returns-else-j-eq0
returns-else-j-eq0 c =
    let p = c.requires.sizes in
    let k = c.requires.kind_bound in
    second_found p.0 _ p.1 p.2 _ p.3 (is_kind k.1 c.if-kind-eq3.true) c.if-j-eq0.false c.pair_place-place.ensures.0 refl refl

pub returns-then-kind-eq5 : goal.returns-then-kind-eq5
returns-then-kind-eq5 c =
    let p = c.requires.sizes in
    let k = c.requires.kind_bound in
    zero_found p.0 _ p.1 p.2 _ p.3 (is_kind k.1 c.if-kind-eq5.true) refl refl

pub returns-else-kind-eq5 : goal.returns-else-kind-eq5
returns-else-kind-eq5 c =
    let p = c.requires.sizes in
    let k = c.requires.kind_bound in
    let e = c.pair_numbers.ensures in
    mirror_found p.0 _ p.1 p.2 _ p.3 (other_kind k.1 k.0 k.2) (other_kind k.1 k.0 c.if-kind-eq3.false) (other_kind k.1 k.0 c.if-kind-eq5.false) e.0 e.1
