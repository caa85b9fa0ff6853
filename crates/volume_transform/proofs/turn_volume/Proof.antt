-- Group after group; then the scratch is cleared of what the lines left there.
use native.Mathlib.Omega.{arith}
use mathlib.Core.Path.{refl, sym, ◌∙◌, ap}
use mathlib.Core.List.{List, ◌++◌}
use Prim.Native.Nat.{ℕ, ◌-◌}
use lib.ListN.{replicate}
use Rattle.lengths.specs.Lengths.{cleared}
use Rattle.volume_transform.specs.Axes.{line_of_turn}
use Rattle.volume_transform.specs.Plans.{plan_group, plan_halves, plan_turn}
use Rattle.volume_transform.specs.Turns.{turns}
use Rattle.volume_transform.proofs.plan.AxisLines.{counted_lines, modulus_is, turned_as}
use Rattle.volume_transform.proofs.Ready.{line_ready}
use Rattle.volume_transform.proofs.GroupTurns.{group_ready, group_turns}
use Rattle.volume_transform.proofs.Turning.{Turning, turning_start, turning_more, turning_next, turning_done, turning_lent, turning_length, turning_fits}
use Rattle.volume_transform.proofs.turn_volume.Statement.{statement}
use Rattle.volume_transform.proofs.turn_volume.Tie as tie

abbrev invariant-loop-n : tie.invariant-loop-n
invariant-loop-n m plan most re im tan sre sim volume₀ scratch₀ fold₀ work₀ counts count n₀ volume scratch fold work n = Turning (plan_turn plan) count n volume₀ volume scratch₀ scratch fold₀ fold work₀ work

abbrev decreases-loop-n : tie.decreases-loop-n
decreases-loop-n m plan most re im tan sre sim volume₀ scratch₀ fold₀ work₀ counts count n₀ volume scratch fold work n = count - n

line_counts-counts-requires : tie.Need-line_counts-counts-requires invariant-loop-n decreases-loop-n
line_counts-counts-requires c κs = c.requires.0.0.sizes

overflow_add-count : tie.Need-overflow_add-count invariant-loop-n decreases-loop-n
overflow_add-count c = omega (arith, c.line_counts-counts.ensures.low)

overflow_add-count-2 : tie.Need-overflow_add-count-2 invariant-loop-n decreases-loop-n
overflow_add-count-2 c = omega (arith, c.line_counts-counts.ensures.low)

loop-n-init : tie.Need-loop-n-init invariant-loop-n decreases-loop-n
loop-n-init c = turning_start

group_of_turn-group-requires : tie.Need-group_of_turn-group-requires invariant-loop-n decreases-loop-n
group_of_turn-group-requires c κs =
    (c.requires.0.0, c.line_counts-counts.ensures, omega (arith, c.loop-n-test.true, counted_lines c.line_counts-counts.ensures), c.requires.1.0.0)

turn_placed_group-requires : tie.Need-turn_placed_group-requires invariant-loop-n decreases-loop-n
turn_placed_group-requires c κs =
    let a = c.args in
    let x = c.group_of_turn-group.result.line in
    let found = c.group_of_turn-group.ensures in
    let fits = turning_fits a.plan c.loop-n.invariant c.requires.1.1.0 in
    let j = line_of_turn (plan_group a.plan) (plan_halves a.plan) a.plan.direction c.loop-n.n in
    let room = c.requires.1.0.2 (omega (arith, c.if-group-gt3.true, found.few)) in (
      (
        group_ready a.plan x found.some fits (omega (arith, found.few, c.requires.1.0.1)) (found.together (omega (arith, c.if-group-gt3.true))),
        (line_ready a.plan j x _ a.re.now a.im.now a.tan.now fits c.requires.0.1 found.first).0.1,
        c.requires.0.2 ∙ sym (modulus_is a.plan j x found.first),
      ),
      (room.tables, ((turning_lent c.loop-n.invariant c.requires.1.1.1).scratch_fits, omega (arith, c.loop-n.invariant.work_long, room.room))),
    )

overflow_add-n : tie.Need-overflow_add-n invariant-loop-n decreases-loop-n
overflow_add-n c =
    omega (arith, c.group_of_turn-group.ensures.inside, counted_lines c.line_counts-counts.ensures, c.line_counts-counts.ensures.low)

loop-n-smaller-then-group-gt3 : tie.Need-loop-n-smaller-then-group-gt3 invariant-loop-n decreases-loop-n
loop-n-smaller-then-group-gt3 c =
    omega (arith, c.group_of_turn-group.ensures.inside, c.group_of_turn-group.ensures.some, counted_lines c.line_counts-counts.ensures)

loop-n-preserved-then-group-gt3 : tie.Need-loop-n-preserved-then-group-gt3 invariant-loop-n decreases-loop-n
loop-n-preserved-then-group-gt3 c =
    let p = c.args.plan in
    let g = c.group_of_turn-group.result in
    let found = c.group_of_turn-group.ensures in
    turning_more c.loop-n.invariant g.lanes (omega (arith, found.inside, counted_lines c.line_counts-counts.ensures))
    (c.turn_placed_group.ensures.0
    ∙ group_turns p g.line found.some (turning_fits p c.loop-n.invariant c.requires.1.1.0) (omega (arith, found.few, c.requires.1.0.1)) (found.together (omega (arith, c.if-group-gt3.true))))
    c.turn_placed_group.ensures.1 c.scratch-1.given refl c.work-1.given

turn-requires : tie.Need-turn-requires invariant-loop-n decreases-loop-n
turn-requires c κs =
    let a = c.args in
    let x = c.group_of_turn-group.result.line in
    let found = c.group_of_turn-group.ensures.first in
    let j = line_of_turn (plan_group a.plan) (plan_halves a.plan) a.plan.direction c.loop-n.n in
    let ready = line_ready a.plan j x _ a.re.now a.im.now a.tan.now (turning_fits a.plan c.loop-n.invariant c.requires.1.1.0) c.requires.0.1 found in
    ((ready.0.0, ready.0.1, c.requires.0.2 ∙ sym (modulus_is a.plan j x found)), (ready.1, turning_lent c.loop-n.invariant c.requires.1.1.1))

overflow_add-n-else-group-gt3 : tie.Need-overflow_add-n-else-group-gt3 invariant-loop-n decreases-loop-n
overflow_add-n-else-group-gt3 c = omega (arith, c.loop-n-test.true)

loop-n-smaller : tie.Need-loop-n-smaller invariant-loop-n decreases-loop-n
loop-n-smaller c = omega (arith, c.loop-n-test.true)

loop-n-preserved : tie.Need-loop-n-preserved invariant-loop-n decreases-loop-n
loop-n-preserved c =
    let p = c.args.plan in
    turning_next c.loop-n.invariant c.loop-n-test.true
    (c.turn.ensures.0 ∙ turned_as p (line_of_turn (plan_group p) (plan_halves p) p.direction c.loop-n.n) c.group_of_turn-group.result.line c.group_of_turn-group.ensures.first _)
    c.turn.ensures.1 c.scratch-else-group-gt3-1.given c.fold-1.given c.work-else-group-gt3-1.given

clear-requires : tie.Need-clear-requires invariant-loop-n decreases-loop-n
clear-requires c κs = (turning_lent c.loop-n.invariant c.requires.1.1.1).scratch_fits

shape_of-volume : tie.Need-shape_of-volume invariant-loop-n decreases-loop-n
shape_of-volume c = turning_length c.args.plan c.loop-n.invariant

shape_of-scratch : tie.Need-shape_of-scratch invariant-loop-n decreases-loop-n
shape_of-scratch c = c.scratch-2-1.given ∙ c.loop-n.invariant.scratch_long

shape_of-fold : tie.Need-shape_of-fold invariant-loop-n decreases-loop-n
shape_of-fold c = c.loop-n.invariant.fold_long

shape_of-work : tie.Need-shape_of-work invariant-loop-n decreases-loop-n
shape_of-work c = c.loop-n.invariant.work_long

returns : tie.Need-returns invariant-loop-n decreases-loop-n
unfolding cleared
returns c =
    let k = c.before.before in
    let b = k.before.before in
    let i = b.before in
    let n = i.before.before.before in
    let s = n.before.before.before.before.before in (
      turning_done i.loop-n.invariant (omega (arith, b.loop-n-test.false)) ∙ ap (λ n. turns (plan_turn s.args.plan) 0 n s.args.volume.now) (counted_lines n.line_counts-counts.ensures),
      k.clear.ensures ∙ ap (λ (s : List ℕ). replicate 11520 0 ++ s) i.loop-n.invariant.same,
    )

pub turn_volume_spec : {M : Type 1} → statement M
turn_volume_spec =
    tie.close
    (tie.spec invariant-loop-n decreases-loop-n line_counts-counts-requires overflow_add-count overflow_add-count-2 loop-n-init group_of_turn-group-requires turn_placed_group-requires overflow_add-n loop-n-smaller-then-group-gt3 loop-n-preserved-then-group-gt3 turn-requires overflow_add-n-else-group-gt3 loop-n-smaller loop-n-preserved clear-requires shape_of-volume shape_of-scratch shape_of-fold shape_of-work returns)
