-- What a row along k becomes by the fold of its packed line.
use Rattle.std.specs.Prelude.{cond, List, ℕ, zero, suc, ltb}
use Rattle.algebra.specs.lines.Kinds.{Kind.hermitian}
use Rattle.numbers.specs.declared.Pair.{Pair}
use Rattle.numbers.specs.Value.{value_of, pair_of}
use Rattle.numbers.specs.Bounds.{zero_pair}
use Rattle.slices.specs.Pairs.{at, tab, values_of}
use Rattle.slices.specs.Sweep.{sweep, on_lists, along_last}
use Rattle.fold_formulas.specs.FoldFormulas.{folded}
use Rattle.cell.specs.Rows.{packed_row, unpacked_row}

-- the pairs of a row that is transformed by the fold: synthesis leaves 2 B real values and two zeros
abbrev pub folded_pair : (m direction B : ℕ) (re im tan : List ℕ) → List ℕ → ℕ → Pair
folded_pair m zero B re im tan l t =
    cond (ltb t B) (pair_of (folded m 0 B re im tan hermitian (λ s. value_of m (packed_row B (at l) s)) t)) zero_pair
folded_pair m (suc direction) B re im tan l t =
    unpacked_row B (λ s. pair_of (folded m 1 B re im tan hermitian (values_of m l) s)) t

abbrev pub folded_row : (m direction B : ℕ) (re im tan : List ℕ) → List ℕ → List ℕ
folded_row m direction B re im tan l = tab (suc B) (folded_pair m direction B re im tan l)

-- neighbouring rows, one after the other
abbrev pub folded_rows : (m direction B : ℕ) (re im tan : List ℕ) (lanes : ℕ) → List ℕ → List ℕ
folded_rows m direction B re im tan lanes d =
    sweep (along_last (suc B) lanes)
    (on_lists (along_last (suc B) lanes) (λ v. folded_row m direction B re im tan)) lanes d
