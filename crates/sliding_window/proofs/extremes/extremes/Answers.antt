use Rattle.std.proofs.Common.{◌≡◌, ℕ, ◌+◌, ◌≤◌, List, refl, subst, arith}
use Rattle.slices.specs.Filling.{Filling, stores}
use Rattle.slices.proofs.Filling.{filled_all, storing_start}
use Rattle.slices.proofs.Stores.{storing_more}
use Rattle.sliding_window.proofs.extremes.extremes.Goals as goal

so_far : {E : Type 0} {f : ℕ → E} {n j k : ℕ} {d₀ d : List E} → Filling stores (λ j. j) f n j d₀ d → j ≡ k → Filling stores (λ j. j) f n k d₀ d
so_far {f = f} {n} {d₀ = d₀} {d} h e = subst (λ q. Filling stores (λ j. j) f n q d₀ d) e h

pub loop-start-init : goal.loop-start-init
loop-start-init c = record { scored = so_far storing_start (omega arith); placed = so_far storing_start (omega arith); rest = omega arith; long = refl }

pub loop-start-preserved : goal.loop-start-preserved
loop-start-preserved c =
    let size = c.min-size in
    let fits : c.loop-start.start + size.result ≤ c.args.count = omega arith in
    record {
      scored = so_far (storing_more size.result (so_far c.loop-start.invariant.scored (omega arith)) fits c.windows.ensures.scores_after) (omega arith);
      placed = so_far (storing_more size.result (so_far c.loop-start.invariant.placed (omega arith)) fits c.windows.ensures.places_after) (omega arith);
      rest = omega arith;
      long = c.suffixes.ensures.long;
    }

pub returns-2-clause-scores_after : goal.returns-2-clause-scores_after
returns-2-clause-scores_after c =
    let size = c.min-size in
    let fits : c.loop-start.start + size.result ≤ c.args.count = omega arith in
    filled_all (storing_more size.result (so_far c.loop-start.invariant.scored (omega arith)) fits c.windows.ensures.scores_after) (omega arith)

pub returns-2-clause-places_after : goal.returns-2-clause-places_after
returns-2-clause-places_after c =
    let size = c.min-size in
    let fits : c.loop-start.start + size.result ≤ c.args.count = omega arith in
    filled_all (storing_more size.result (so_far c.loop-start.invariant.placed (omega arith)) fits c.windows.ensures.places_after) (omega arith)
