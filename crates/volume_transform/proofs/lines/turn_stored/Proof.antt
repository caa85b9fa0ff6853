-- With its i after synthesis and before analysis, or without.
use borrow.Author.Rules.{rules}
use mathlib.Core.Path.{sym, ◌∙◌, ap, subst}
use Prim.Native.Nat.{◌*◌}
use Rattle.numbers.specs.Value.{IsModulus, prime}
use Rattle.slices.specs.Pairs.{Below}
use Rattle.volume_transform.proofs.row.StoredLaws.{turned_ready, times_ready, plain_turned, over_turned, times_turned}
use Rattle.volume_transform.proofs.lines.turn_stored.Statement.{statement}
use Rattle.volume_transform.proofs.lines.turn_stored.Tie as tie

turn_packed-requires : tie.Need-turn_packed-requires
turn_packed-requires c κs = search rules

rotate-requires : tie.Need-rotate-requires
rotate-requires c κs =
    let t = c.before.before.before.before.before.before.before in
    let s = t.before.before.before.before.before.before.before.before.before.before in
    let x = s.args.line in
    let p = s.requires.0 in
    (subst IsModulus (sym p.2) p.0.modulus, turned_ready x p.2 p.3 s.args.packed.now t.turn_packed.ensures)

rotate-requires-else-line-eq0 : tie.Need-rotate-requires-else-line-eq0
rotate-requires-else-line-eq0 c κs =
    let s = c.before.before.before.before.before.before.before in
    let x = s.args.line in
    let p = s.requires.0 in
    let q = s.requires.1.0 in
    (subst IsModulus (sym p.2) p.0.modulus, (q.0 ∙ ap (λ n. 2 * n) (sym p.3), subst (λ n. Below (prime n) s.args.packed.now) (sym p.2) q.1))

turn_packed-requires-else-line-eq0 : tie.Need-turn_packed-requires-else-line-eq0
turn_packed-requires-else-line-eq0 c κs =
    let t = c.before.before.before.before.before in
    let s = t.before.before.before.before.before.before.before.before in
    let p = s.requires.0 in
    ((p.0, p.1, p.2), (times_ready s.args.line p.2 p.3 s.args.packed.now t.rotate-else-line-eq0.ensures, s.requires.1.1))

turn_packed-requires-else-line : tie.Need-turn_packed-requires-else-line
turn_packed-requires-else-line c κs = search rules

shape_of-packed-then-line-eq0 : tie.Need-shape_of-packed-then-line-eq0
shape_of-packed-then-line-eq0 c = search rules

shape_of-fold-then-line-eq0 : tie.Need-shape_of-fold-then-line-eq0
shape_of-fold-then-line-eq0 c = search rules

shape_of-work-then-line-eq0 : tie.Need-shape_of-work-then-line-eq0
shape_of-work-then-line-eq0 c = search rules

returns-then-line-eq0 : tie.Need-returns-then-line-eq0
returns-then-line-eq0 c =
    let o = c.before.before in
    let t = o.before.before.before.before.before.before.before.before in
    let d = t.before.before.before.before in
    let s = t.before.before.before.before.before.before.before.before.before.before in
    let p = s.requires.0 in
    over_turned s.args.line p.2 p.3 s.args.packed.now d.before.before.if-line.true d.if-line-eq0.true t.turn_packed.ensures o.rotate.ensures

shape_of-packed-else-line-eq0 : tie.Need-shape_of-packed-else-line-eq0
shape_of-packed-else-line-eq0 c = search rules

shape_of-fold-else-line-eq0 : tie.Need-shape_of-fold-else-line-eq0
shape_of-fold-else-line-eq0 c = search rules

shape_of-work-else-line-eq0 : tie.Need-shape_of-work-else-line-eq0
shape_of-work-else-line-eq0 c = search rules

returns-else-line-eq0 : tie.Need-returns-else-line-eq0
returns-else-line-eq0 c =
    let t = c.before.before.before.before.before.before in
    let o = t.before.before.before.before.before.before in
    let d = o.before.before in
    let s = o.before.before.before.before.before.before.before.before in
    let p = s.requires.0 in
    times_turned s.args.line p.2 p.3 s.args.packed.now p.0 d.before.before.if-line.true d.if-line-eq0.false o.rotate-else-line-eq0.ensures t.turn_packed-else-line-eq0.ensures

shape_of-packed-else-line : tie.Need-shape_of-packed-else-line
shape_of-packed-else-line c = search rules

shape_of-fold-else-line : tie.Need-shape_of-fold-else-line
shape_of-fold-else-line c = search rules

shape_of-work-else-line : tie.Need-shape_of-work-else-line
shape_of-work-else-line c = search rules

returns-else-line : tie.Need-returns-else-line
returns-else-line c =
    let t = c.before.before.before.before.before.before in
    let d = t.before.before.before.before in
    let s = d.before.before.before.before in
    let p = s.requires.0 in
    plain_turned s.args.line p.2 p.3 s.args.packed.now d.if-line.false t.turn_packed-else-line.ensures

pub turn_stored_spec : {M : Type 1} → statement M
turn_stored_spec =
    tie.close
    (tie.spec turn_packed-requires rotate-requires rotate-requires-else-line-eq0 turn_packed-requires-else-line-eq0 turn_packed-requires-else-line shape_of-packed-then-line-eq0 shape_of-fold-then-line-eq0 shape_of-work-then-line-eq0 returns-then-line-eq0 shape_of-packed-else-line-eq0 shape_of-fold-else-line-eq0 shape_of-work-else-line-eq0 returns-else-line-eq0 shape_of-packed-else-line shape_of-fold-else-line shape_of-work-else-line returns-else-line)
