-- The stages of a transform by a factor list: a step takes the next factor off the list.
use Rattle.std.specs.Prelude.{◌≡◌, ◌≢◌, List, take, drop, ℕ, zero, suc, ◌*◌, ◌/◌, ◌%◌}
use Rattle.lengths.specs.declared.stage.Stage.{Stage}
use Rattle.lengths.specs.Lengths.{octal, product}
use Rattle.lengths.specs.Admitted.{Factored}

-- the length of the line
abbrev pub points : Stage → ℕ
points s = s.inner * s.lines

-- the stage after the next step
unfoldable pub after : Stage → Stage
after s = record { left = s.left / 8; inner = s.inner * (s.left % 8); lines = s.lines / (s.left % 8) }

-- the stage of a list at which its first k factors are done
abbrev pub split_stage : List ℕ → ℕ → Stage
split_stage l k = record { left = octal (drop k l); inner = product (take k l); lines = product (drop k l) }

-- the stage after k steps
unfoldable pub stage_after : ℕ → Stage → Stage
stage_after zero s = s
stage_after (suc k) s = after (stage_after k s)

-- a stage that has a step ahead
pub record Ahead (s : Stage) : Type 0 where
  pub factors : Factored s.left s.lines
  pub more : s.left ≢ 0
  pub divides : points s * (2880 / points s) ≡ 2880
