-- What a batch leaves is the turns of its lines (`GroupTurns`).
use borrow.Author.Rules.{rules}
use native.Mathlib.Omega.{arith}
use mathlib.Core.Path.{◌≡◌, sym, ◌∙◌, subst}
use Prim.Native.Nat.{◌*◌, ◌/◌, ◌≤◌}
use lib.ListN.{length}
use Rattle.numbers.specs.Value.{IsModulus}
use Rattle.roots.specs.Table.{RootTable}
use Rattle.lengths.specs.Admitted.{Factored}
use Rattle.lengths.proofs.stage.Doubling.{doubled_factored}
use Rattle.line.proofs.kinds.Dispatch.{prefix_length, half_list}
use Rattle.batches.specs.Groups.{LinesBelow}
use Rattle.volume_transform.proofs.GroupTurns.{group_turned_lem, lent_kept}
use Rattle.volume_transform.proofs.groups.turn_group.Statement.{statement}
use Rattle.volume_transform.proofs.groups.turn_group.Tie as tie

-- the batch has room
room : (s : tie.Start) → (32 * s.args.line.count ≤ length s.args.scratch.now) × (32 * s.args.line.count ≤ length s.args.work.now)
room s = (omega (arith, s.requires.0.0.short, s.requires.1.1.0), omega (arith, s.requires.0.0.short, s.requires.1.1.1))

overflow_mul-size : tie.Need-overflow_mul-size
overflow_mul-size c = omega (arith, c.before.before.before.requires.0.0.short)

doubled-list-requires : tie.Need-doubled-list-requires
doubled-list-requires c κs = c.requires.0.0.sound.list.small

last_factor-c-requires : tie.Need-last_factor-c-requires
last_factor-c-requires c κs =
    let s = c.before.before.before.before in
    let h = s.requires.0.0 in
    (subst IsModulus (sym s.requires.0.2) h.sound.modulus, h.sound.directed, omega (arith, h.counted, h.sound.size.positive), omega (arith, h.short))

slice_bounds-turn_lines-end : tie.Need-slice_bounds-turn_lines-end
slice_bounds-turn_lines-end c = (room c.before.before.before.before.before.before).0

slice_bounds-turn_lines-end-2 : tie.Need-slice_bounds-turn_lines-end-2
slice_bounds-turn_lines-end-2 c = let s = c.before.before.before.before.before.before.before in sym (prefix_length _ s.args.scratch.now (room s).0)

slice_bounds-turn_lines-end-3 : tie.Need-slice_bounds-turn_lines-end-3
slice_bounds-turn_lines-end-3 c = (room c.before.before.before.before.before.before.before).1

slice_bounds-turn_lines-end-4 : tie.Need-slice_bounds-turn_lines-end-4
slice_bounds-turn_lines-end-4 c = let s = c.before.before.before.before.before.before.before.before in sym (prefix_length _ s.args.work.now (room s).1)

turn_lines-requires : tie.Need-turn_lines-requires
turn_lines-requires c κs =
    let f = c.before.before.before in
    let d = f.before in
    let s = d.before.before.before.before in
    let h = s.requires.0.0 in
    let x = s.args.line in
    let e = s.requires.0.2 in (
      (subst IsModulus (sym e) h.sound.modulus, subst (λ m. RootTable m s.args.re.now s.args.im.now) (sym e) s.requires.0.1.powers, s.requires.1.0),
      (
        (subst (λ r. Factored r x.count) (sym d.doubled-list.ensures) (subst (Factored _) (sym h.counted) (doubled_factored (half_list x.half h.sound.size h.sound.list))), subst (λ n. n * (2880 / n) ≡ 2880) (sym h.counted) h.sound.size.turns),
        (
          (prefix_length _ s.args.scratch.now (room s).0, prefix_length _ s.args.work.now (room s).1, f.last_factor-c.ensures.0, h.few, h.wide),
          (h.fits, subst (λ m. LinesBelow m x.start x.stride x.count s.args.lanes s.args.volume.now) (sym e) h.below),
        ),
      ),
    )

shape_of-volume : tie.Need-shape_of-volume
shape_of-volume c = search rules

shape_of-scratch : tie.Need-shape_of-scratch
shape_of-scratch c = search rules

shape_of-work : tie.Need-shape_of-work
shape_of-work c = search rules

returns : tie.Need-returns
returns c =
    let k = c.before.before.before in
    let t = k.before.before.before in
    let f = t.before.before.before.before in
    let s = f.before.before.before.before.before in
    let h = s.requires.0.0 in (
      group_turned_lem s.args.line s.requires.0.1 h.sound h.plain h.unrotated h.counted s.args.lanes s.args.volume.now s.args.m s.requires.0.2 t.turn_lines.ensures f.last_factor-c.ensures.1,
      lent_kept s.args.scratch.now t.turn_lines.new.line (omega (arith, h.short)) (k.scratch-1.given.0 ∙ prefix_length _ s.args.scratch.now (room s).0),
    )

pub turn_group_spec : {M : Type 1} → statement M
turn_group_spec = tie.close (tie.spec overflow_mul-size doubled-list-requires last_factor-c-requires slice_bounds-turn_lines-end slice_bounds-turn_lines-end-2 slice_bounds-turn_lines-end-3 slice_bounds-turn_lines-end-4 turn_lines-requires shape_of-volume shape_of-scratch shape_of-work returns)
