use Rattle.std.proofs.Common.{◌≡◌, ◌∙◌, ap, ◌+◌, ◌-◌, arith, rules, w64, to_z, of_z}
use Rattle.slices.proofs.Filling.{storing_start}
use Rattle.slices.proofs.Stores.{storing_value}
use Rattle.sliding_window.specs.Window.{score, best_of}
use Rattle.sliding_window.specs.FirstBest.{BestAmong}
use Rattle.sliding_window.proofs.FirstBest.{best_one}
use Rattle.sliding_window.proofs.Blocks.{ahead_next, window_is}
use Rattle.sliding_window.proofs.extremes.windows.Goals as goal

pub loop-r-init : goal.loop-r-init
loop-r-init c = record { scored = storing_start; placed = storing_start; behind = best_one _ (omega arith) }

pub loop-r-preserved : goal.loop-r-preserved
loop-r-preserved c =
    let a = c.args in
    let r = c.loop-r.r in
    let looked : BestAmong a.greatest a.run.now (a.start + (a.w - 1)) (a.start + (a.w - 1) + (r + 1 - 1) + 1) c.better-ahead.result = rw c.better-ahead.ensures (ahead_next _ _ c.loop-r.invariant.behind) in
    let found : c.better-place.result ≡ best_of a.greatest a.run.now (a.start + r) a.w = c.better-place.ensures ∙ window_is r c.requires.1 (omega (arith, c.requires.0.some)) looked in
    let kept : to_z w64 (of_z w64 (score a.run.now c.better-place.result)) ≡ score a.run.now c.better-place.result = search rules in
    record {
      scored = storing_value c.loop-r.invariant.scored (omega arith) (kept ∙ ap (score a.run.now) found);
      placed = storing_value c.loop-r.invariant.placed (omega arith) found;
      behind = looked;
    }
