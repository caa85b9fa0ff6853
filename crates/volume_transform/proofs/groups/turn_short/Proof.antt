-- What a batch of the kind leaves is the turns of its lines (`FoldedTurns`).
use native.Mathlib.Omega.{arith}
use mathlib.Core.Path.{◌≡◌, refl, ◌∙◌, ap}
use Prim.Native.Nat.{◌-◌, ◌≤◌}
use Rattle.algebra.specs.lines.Kinds.{slots}
use Rattle.lengths.specs.Lengths.{kind_of}
use Rattle.folds.specs.FoldedLines.{mirror_kind}
use Rattle.line.proofs.kinds.Dispatch.{mirror_kind_lem}
use Rattle.volume_transform.proofs.FoldedTurns.{folds_ready, lines_ready, lines_turned, alternating_count}
use Rattle.volume_transform.proofs.groups.turn_short.Statement.{statement}
use Rattle.volume_transform.proofs.groups.turn_short.Tie as tie

not_plain : (s : tie.Start) → s.args.line.kind ≡ 0 → ⊥
not_plain s e = omega (arith, e, s.requires.0.1)

short : (s : tie.Start) → s.args.line.half ≤ 359
short s = s.requires.0.0.room.folded (not_plain s)

-- the other two kinds
mirror : (s : tie.Start) → (s.args.line.kind ≡ 3 → ⊥) → kind_of s.args.line.kind ≡ mirror_kind (s.args.line.kind - 4)
mirror s n = mirror_kind_lem s.args.line.kind (omega (arith, n, s.requires.0.1)) s.requires.0.0.sound.known

turn_lines-requires : tie.Need-turn_lines-requires
turn_lines-requires c κs =
    let i = c.before.before.before in
    let s = c.before.before.before.before.before.before.before.before in
    let x = s.args.line in
    let h = s.requires.0.0 in (
      folds_ready x s.requires.0.2 (not_plain s) h.sound s.args.m s.requires.0.3 s.requires.1.0,
      (
        (h.sound.directed, short s, s.requires.1.1.0, s.requires.1.1.1, h.few, h.wide),
        lines_ready x s.requires.0.2 (not_plain s) h.sound s.args.m x.half s.args.lanes s.args.volume.now s.requires.0.3 (alternating_count x h i.if-line-eq3.true) h,
      ),
    )

overflow_sub-first : tie.Need-overflow_sub-first
overflow_sub-first c = let i = c.before in omega (arith, i.if-line-eq3.false, c.before.before.before.before.before.before.requires.0.1)

overflow_cast-first : tie.Need-overflow_cast-first
overflow_cast-first c = let s = c.before.before.before.before.before.before in omega (arith, s.requires.0.0.sound.known)

turn_lines-requires-else-line-eq3 : tie.Need-turn_lines-requires-else-line-eq3
turn_lines-requires-else-line-eq3 c κs =
    let i = c.before.before.before.before in
    let s = c.before.before.before.before.before.before.before.before.before in
    let x = s.args.line in
    let h = s.requires.0.0 in
    let ready = folds_ready x s.requires.0.2 (not_plain s) h.sound s.args.m s.requires.0.3 s.requires.1.0 in (
      (ready.0, ready.1, ready.2, ready.3, omega (arith, h.sound.known)),
      (
        (h.sound.directed, short s, s.requires.1.1.0, s.requires.1.1.1, h.few, h.wide),
        lines_ready x s.requires.0.2 (not_plain s) h.sound s.args.m _ s.args.lanes s.args.volume.now s.requires.0.3 (h.counted ∙ ap (λ k. slots k x.half) (mirror s i.if-line-eq3.false)) h,
      ),
    )

shape_of-volume-then-line-eq3 : tie.Need-shape_of-volume-then-line-eq3
shape_of-volume-then-line-eq3 c = c.before.before.before.before.before.volume-1.given

shape_of-batch-then-line-eq3 : tie.Need-shape_of-batch-then-line-eq3
shape_of-batch-then-line-eq3 c = c.before.before.before.batch-1.given

shape_of-short-then-line-eq3 : tie.Need-shape_of-short-then-line-eq3
shape_of-short-then-line-eq3 c = c.before.short-1.given

returns-then-line-eq3 : tie.Need-returns-then-line-eq3
returns-then-line-eq3 c =
    let t = c.before.before.before.before.before.before in
    let i = c.before.before.before.before.before.before.before.before.before.before in
    let s = c.before.before.before.before.before.before.before.before.before.before.before.before.before.before.before in
    let x = s.args.line in
    let h = s.requires.0.0 in
    lines_turned x s.requires.0.2 (not_plain s) h.sound s.args.m s.args.lanes s.args.volume.now s.requires.0.3 (ap kind_of i.if-line-eq3.true) refl h.counted t.turn_lines.ensures

shape_of-volume-else-line-eq3 : tie.Need-shape_of-volume-else-line-eq3
shape_of-volume-else-line-eq3 c = c.before.before.before.before.before.volume-else-line-eq3-1.given

shape_of-batch-else-line-eq3 : tie.Need-shape_of-batch-else-line-eq3
shape_of-batch-else-line-eq3 c = c.before.before.before.batch-else-line-eq3-1.given

shape_of-short-else-line-eq3 : tie.Need-shape_of-short-else-line-eq3
shape_of-short-else-line-eq3 c = c.before.short-else-line-eq3-1.given

returns-else-line-eq3 : tie.Need-returns-else-line-eq3
returns-else-line-eq3 c =
    let t = c.before.before.before.before.before.before in
    let i = c.before.before.before.before.before.before.before.before.before.before.before in
    let s = c.before.before.before.before.before.before.before.before.before.before.before.before.before.before.before.before in
    let x = s.args.line in
    let h = s.requires.0.0 in
    lines_turned x s.requires.0.2 (not_plain s) h.sound s.args.m s.args.lanes s.args.volume.now s.requires.0.3 (mirror s i.if-line-eq3.false) (h.room.unrotated i.if-line-eq3.false) h.counted t.turn_lines-else-line-eq3.ensures

pub turn_short_spec : {M : Type 1} → statement M
turn_short_spec =
    tie.close
    (tie.spec turn_lines-requires overflow_sub-first overflow_cast-first turn_lines-requires-else-line-eq3 shape_of-volume-then-line-eq3 shape_of-batch-then-line-eq3 shape_of-short-then-line-eq3 returns-then-line-eq3 shape_of-volume-else-line-eq3 shape_of-batch-else-line-eq3 shape_of-short-else-line-eq3 returns-else-line-eq3)
