-- The windows before r are done, and the entries behind the block's last one that window r has.
use Rattle.std.proofs.Common.{◌+◌, ◌-◌}
use Rattle.slices.specs.Filling.{Filling, stores}
use Rattle.sliding_window.specs.Window.{best_of, best_score}
use Rattle.sliding_window.specs.FirstBest.{BestAmong}
use Rattle.sliding_window.proofs.extremes.windows.Given as goal

abbrev pub invariant-loop-r : goal.invariant-loop-r
invariant-loop-r l = record {
  scored : Filling stores (λ k. l.start + k) (λ k. best_score l.greatest l.run (l.start + k) l.w) l.size l.r l.fn.scores l.scores;
  placed : Filling stores (λ k. l.start + k) (λ k. best_of l.greatest l.run (l.start + k) l.w) l.size l.r l.fn.places l.places;
  behind : BestAmong l.greatest l.run l.end (l.end + (l.r - 1) + 1) l.ahead;
}
