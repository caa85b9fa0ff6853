-- The windows before `start` are done, block by block.
use Rattle.std.proofs.Common.{◌≡◌, ◌-◌, length}
use Rattle.slices.specs.Filling.{Filling, stores}
use Rattle.sliding_window.specs.Window.{best_of, best_score}
use Rattle.sliding_window.proofs.extremes.extremes.Given as goal

abbrev pub invariant-loop-start : goal.invariant-loop-start
invariant-loop-start l = record {
  scored : Filling stores (λ j. j) (λ j. best_score l.greatest l.run j l.w) l.count (l.count - (l.count - l.start)) l.fn.scores l.scores;
  placed : Filling stores (λ j. j) (λ j. best_of l.greatest l.run j l.w) l.count (l.count - (l.count - l.start)) l.fn.places l.places;
  rest : l.left ≡ l.count - l.start;
  long : length l.best ≡ 64;
}
