-- The places below t (`Places`).
use Rattle.std.proofs.Common.{◌≡◌, ℕ, ◌*◌, length}
use Rattle.algebra.specs.lines.Folds.{mirror_point}
use Rattle.numbers.specs.Value.{prime, Value, field}
use Rattle.folded_batches.specs.MirrorLanes.{Places, WholeLines}
use Rattle.folded_batches.proofs.mirror.before.short_lines.Given as goal

abbrev pub invariant-loop-t : goal.invariant-loop-t
invariant-loop-t l = record {
  long : length l.fold ≡ length l.fn.fold;
  block : length l.y ≡ 32;
  places : (X : ℕ → ℕ → Value l.m) → WholeLines l.m l.a l.first l.line X
      → Places l.m (8 * prime l.m) (λ v. mirror_point (field l.m) (X v)) 0 l.t l.fold;
}
