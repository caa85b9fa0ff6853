-- The turn of the line that is next, and then of the lane.
use native.Mathlib.Omega.{arith}
use mathlib.Core.Path.{◌≡◌, sym, ap, subst, ◌∙◌}
use Prim.Native.Nat.{ℕ, ◌-◌, ◌≤◌, ◌<◌}
use lib.ListN.{get_or}
use Rattle.refusals.specs.Checks.{checked_number}
use Rattle.refusals.proofs.Handed.{handed_on}
use Rattle.scheduler.specs.Answers.{turn_outcome}
use Rattle.scheduler.specs.Scheduler.{free}
use Rattle.scheduler.proofs.LaneFacts.{Runs, some_running}
use Rattle.scheduler.proofs.Contracts.{lane_running}
use Rattle.scheduler.proofs.Outcomes.{serve_refused, serve_done}
use Rattle.scheduler.proofs.turn.serve_lane.Goals as goal

next_line : {l m n : ℕ} → 1 ≤ l → l ≤ m → n ≡ m → n - l < m
next_line h q e = omega arith

pub line_count-requires : goal.line_count-requires
line_count-requires c = (subst Runs (sym c.lane_at-lane.ensures) (lane_running (get_or c.args.s.lanes c.args.i free) c.requires.2 c.requires.1)).valid

pub overflow_sub-n : goal.overflow_sub-n
overflow_sub-n c = subst (λ (n : ℕ). c.lane_at-lane.result.left ≤ n) (sym c.line_count.ensures) (subst Runs (sym c.lane_at-lane.ensures) (lane_running (get_or c.args.s.lanes c.args.i free) c.requires.2 c.requires.1)).most

pub turn-requires : goal.turn-requires
turn-requires c = let r = (subst Runs (sym c.lane_at-lane.ensures) (lane_running (get_or c.args.s.lanes c.args.i free) c.requires.2 c.requires.1)) in (r.valid, next_line r.some r.most c.line_count.ensures)

pub turned_lane-requires : goal.turned_lane-requires
turned_lane-requires c = (c.requires.0, some_running c.lane_at-lane.result (subst Runs (sym c.lane_at-lane.ensures) (lane_running (get_or c.args.s.lanes c.args.i free) c.requires.2 c.requires.1)).some)

pub returns-in_err-turn : goal.returns-in_err-turn
returns-in_err-turn c =
    let a = c.args in
    ap (λ r. turn_outcome a.s r c.turn.new.volume c.turn.new.scratch) (handed_on _ _ c.from_residual.ensures.1)
    ∙ serve_refused a.s a.i a.volume.now a.scratch.now c.lane_at-lane.result c.lane_at-lane.ensures _ (ap (λ (n : ℕ). n - c.lane_at-lane.result.left) c.line_count.ensures) _ c.turn.ensures _ (ap checked_number (sym c.in_err-turn.was))

pub returns : goal.returns
returns c =
    let a = c.args in
    serve_done a.s a.i a.volume.now a.scratch.now c.lane_at-lane.result c.lane_at-lane.ensures _ (ap (λ (n : ℕ). n - c.lane_at-lane.result.left) c.line_count.ensures) _ c.turn.ensures c.turned_lane.result (ap checked_number c.in_ok-turn.was) c.turned_lane.ensures
