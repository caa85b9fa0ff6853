-- A group of neighbouring folded lines of a volume: what each becomes, by the forms that the folds compute.
use Rattle.std.specs.Prelude.{Bool, List, ℕ, zero, suc}
use Rattle.algebra.specs.lines.Kinds.{Kind, slots}
use Rattle.slices.specs.Pairs.{values_of, list_of}
use Rattle.slices.specs.Sweep.{sweep, on_lists}
use Rattle.fold_formulas.specs.FoldFormulas.{folded}
use Rattle.cell.specs.Volume.{times_i, over_i}
use Rattle.batches.specs.Groups.{neighbours}

-- The packed line of 2 A values as it is stored, times i if b says so: synthesis divides by i after the transform,
-- analysis multiplies before it.
abbrev pub folded_stored : (m direction : ℕ) (b : Bool) (A : ℕ) (re im tan : List ℕ) → Kind → List ℕ → List ℕ
folded_stored m zero b A re im tan kind l =
    list_of (slots kind A) (λ s. over_i m b (folded m 0 A re im tan kind (values_of m l) s))
folded_stored m (suc direction) b A re im tan kind l =
    list_of (slots kind A) (folded m 1 A re im tan kind (λ s. times_i m b (values_of m l s)))

-- the lines one after the other
abbrev pub folded_lines : (m direction : ℕ) (b : Bool) (A : ℕ) (re im tan : List ℕ) → Kind →
    (start stride lanes : ℕ) → List ℕ → List ℕ
folded_lines m direction b A re im tan kind start stride lanes d =
    sweep (neighbours start stride (slots kind A) lanes)
    (on_lists (neighbours start stride (slots kind A) lanes) (λ v. folded_stored m direction b A re im tan kind))
    lanes d
