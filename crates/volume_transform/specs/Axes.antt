-- One packed line of a volume transformed, and one row along k: its pairs 0 and B are real, and a packed Hermitian line
-- has the second of them in the first (`packed_row`).
use Rattle.std.specs.Prelude.{Bool, cond, List, ℕ, zero, suc, ◌+◌, ◌*◌, ◌-◌, ◌/◌, ltb}
use Rattle.algebra.specs.lines.Kinds.{Kind, Kind.hermitian, slots, Kind.plain}
use Rattle.numbers.specs.Value.{Value, i, real, value_of, pair_of}
use Rattle.slices.specs.Pairs.{at, tab, values_of, list_of}
use Rattle.numbers.specs.Bounds.{zero_pair}
use Rattle.line.specs.Line.{transform, transformed_line}
use Rattle.cell.specs.Volume.{times_i, over_i, line_kind, rotated, first_pair, layers, rows, columns, axis}
use Rattle.algebra.specs.cells.Cell.{J, Group}
use Rattle.slices.specs.Sweep.{Layout, line_of, set_line, on_lists, along_second, along_last}
use Rattle.lengths.specs.Admitted.{AdmittedLength, FactorList}
use Rattle.cell.specs.declared.operations.UnitCell.{UnitCell}
use Rattle.cell.specs.Operations.{Sizes}
use Rattle.cell.specs.Rows.{packed_row, unpacked_row}

module _ (m A : ℕ) where
  -- a packed line of 2 A values, transformed, and back
  abbrev pub forward_values : Kind → (ℕ → Value m) → ℕ → Value m
  forward_values kind X = transform m kind 0 A X

  abbrev pub inverse_values : Kind → (ℕ → Value m) → ℕ → Value m
  inverse_values kind X = transform m kind 1 A X

  -- by direction
  abbrev pub turned_line : ℕ → Kind → List ℕ → List ℕ
  turned_line direction kind l = transformed_line m kind direction A l

  -- the same of a line that is stored times i, if b says so: synthesis divides by i after the transform, analysis
  -- multiplies before it
  abbrev pub turned_stored : ℕ → Bool → Kind → List ℕ → List ℕ
  turned_stored zero b kind l = list_of (slots kind A) (λ s. over_i m b (forward_values kind (values_of m l) s))
  turned_stored (suc direction) b kind l =
      list_of (slots kind A) (inverse_values kind (λ s. times_i m b (values_of m l s)))

module _ (m B : ℕ) where
  -- a row of B + 1 pairs becomes N2 real values and two zeros
  abbrev pub forward_row : List ℕ → List ℕ
  forward_row l =
      tab (suc B)
      (λ t. cond (ltb t B)
      (pair_of (forward_values m B hermitian (λ s. value_of m (packed_row B (at l) s)) t)) zero_pair)

  abbrev pub inverse_row : List ℕ → List ℕ
  inverse_row l = tab (suc B) (unpacked_row B (λ t. pair_of (inverse_values m B hermitian (values_of m l) t)))

  abbrev pub turned_row : ℕ → List ℕ → List ℕ
  turned_row zero = forward_row
  turned_row (suc direction) = inverse_row

-- ---- The lines of a volume along each axis and what becomes of each: along l by the kind of its group, with or
-- without its i, along h as a plain line, along k as a Hermitian one. The lines of a job are numbered: first those
-- along l, then h, then k, each by rising place of its first pair.

-- line y of the list d becomes what G makes of it
abbrev pub turn_of : Layout → (ℕ → List ℕ → List ℕ) → ℕ → List ℕ → List ℕ
turn_of L G y d = set_line L y (on_lists L G y (line_of L y d)) d

-- the numbers of line y, pair after pair
abbrev pub numbers_of : Layout → ℕ → List ℕ → List ℕ
numbers_of L y d = tab (L.size y) (line_of L y d)

module _ (g : Group) (a : J) where
  -- line y = h (B + 1) + k along l, the pairs of its kind
  abbrev pub kind_at : ℕ → Kind
  kind_at y = line_kind g (y / columns g a)

  abbrev pub along_l : Layout
  along_l =
      record {
        count = rows g a * columns g a;
        size = λ y. slots (kind_at y) a.2;
        place = λ y j. y + (first_pair (kind_at y) + j) * (rows g a * columns g a);
      }

  -- line y = w (B + 1) + k along h, and row y = w N1 + h along k
  abbrev pub along_h : Layout
  along_h = along_second (layers g a) (rows g a) (columns g a)

  abbrev pub along_k : Layout
  along_k = along_last (columns g a) (layers g a * rows g a)

  abbrev pub line_count : ℕ
  line_count = along_l.count + along_h.count + along_k.count

  -- the numbers of line number j of a job
  unfoldable pub line_numbers : ℕ → List ℕ → List ℕ
  line_numbers j d =
      cond (ltb j along_l.count) (numbers_of along_l j d)
      (cond (ltb j (along_l.count + along_h.count)) (numbers_of along_h (j - along_l.count) d)
      (numbers_of along_k (j - (along_l.count + along_h.count)) d))

  -- the line of turn n: synthesis takes them by their numbers, analysis those along k first and those along l last
  unfoldable pub line_of_turn : (direction n : ℕ) → ℕ
  line_of_turn zero n = n
  line_of_turn (suc direction) n =
      cond (ltb n along_k.count) (along_l.count + along_h.count + n)
      (cond (ltb n (along_k.count + along_h.count)) (along_l.count + (n - along_k.count))
      (n - (along_k.count + along_h.count)))

  -- what becomes of a line: direction 0 is synthesis, 1 analysis
  module _ (m direction : ℕ) where
    abbrev pub turned_l : ℕ → List ℕ → List ℕ
    turned_l y l = turned_stored m a.2 direction (rotated g (y / columns g a)) (kind_at y) l

    abbrev pub turned_h : ℕ → List ℕ → List ℕ
    turned_h y l = turned_line m a.0 direction plain l

    abbrev pub turned_k : ℕ → List ℕ → List ℕ
    turned_k y l = turned_row m a.1 direction l

    -- line number j of the job
    unfoldable pub job_turn : ℕ → List ℕ → List ℕ
    job_turn j d =
        cond (ltb j along_l.count) (turn_of along_l turned_l j d)
        (cond (ltb j (along_l.count + along_h.count)) (turn_of along_h turned_h (j - along_l.count) d)
        (turn_of along_k turned_k (j - (along_l.count + along_h.count)) d))

-- a cell and the factor lists of its lengths, as a job that was opened has them
pub record JobSizes (c : UnitCell) (f1 f2 f3 : ℕ) : Type 0 where
  pub sizes : Sizes c
  pub first : AdmittedLength c.n1
  pub second : AdmittedLength c.n2
  pub third : AdmittedLength c.n3
  pub first_list : FactorList c.n1 f1
  pub second_list : FactorList c.n2 f2
  pub third_list : FactorList c.n3 f3
