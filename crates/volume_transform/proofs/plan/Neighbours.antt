-- Lines of one row stand side by side: their numbers, their turns and their places rise by one.
use mathlib.Core.Path.{◌≡◌, refl, sym, ◌∙◌, ap, subst}
use mathlib.Core.Logic.{inl, inr, ⊎_elim}
use mathlib.Core.Bool.{Bool, false}
use Prim.Native.Nat.{ℕ, ◌+◌, ◌*◌, ◌-◌, ◌/◌, ◌%◌, ◌<◌, ◌≤◌}
use native.Mathlib.Nat.{mul-add-mod_self_right, mod-lt}
use native.Mathlib.Omega.{arith}
use Rattle.algebra.specs.cells.Cell.{J, Group}
use Rattle.algebra.proofs.ring.Laws.{along}
use Rattle.slices.proofs.Pairs.{lt_or_ge}
use Rattle.slices.proofs.Rows.{row_end, row_col, row_split, rows_wide}
use Rattle.lengths.specs.Lengths.{kind_of, pair_count}
use Rattle.cell.specs.Volume.{line_kind, rotated, first_pair, layers, rows, columns}
use Rattle.cell.specs.Operations.{Sizes}
use Rattle.volume_transform.specs.Axes.{turn_of, numbers_of, along_l, along_h, along_k, line_count, line_of_turn, turned_l, turned_h, turned_k}
use Rattle.volume_transform.specs.Lines.{shifted}
use Rattle.volume_transform.specs.Plans.{plan_group, plan_halves, Planned, Counted, line_turn, plan_numbers, Gathered, Row, LineAt}
use Rattle.volume_transform.specs.Groups.{Neighbours, RowsAfter, InBatch, SideBySide, GatheredGroup, RowGroup, GroupOfTurn}
use Rattle.volume_transform.specs.declared.plan.Plan.{Plan}
use Rattle.volume_transform.specs.declared.plan.Counts.{Counts}
use Rattle.volume_transform.specs.declared.plan.Line.{Line}
use Rattle.volume_transform.proofs.plan.Numbered.{order_k, order_h, order_l}
use Rattle.volume_transform.proofs.plan.JobTurns.{next}
use Rattle.volume_transform.proofs.plan.AxisLines.{counted_lines, gathered_l, gathered_h, row_k, gathered_at_l, gathered_at_h, row_at_k}

-- v places further on in the same of q rows of w places
module _ (q w y v : ℕ) (l : y < q * w) (lv : y % w + v < w) where
  split : (y / w < q) × (y % w < w) × (y / w * w + y % w ≡ y)
  split = row_split q l

  moved : y / w * w + (y % w + v) ≡ y + v
  moved = omega (arith, split.2)

  pub same_row : (y + v) / w ≡ y / w
  same_row = ap (λ k. k / w) (sym moved) ∙ (row_col (y / w) lv).0

  pub next_column : (y + v) % w ≡ y % w + v
  next_column = ap (λ k. k % w) (sym moved) ∙ (row_col (y / w) lv).1

  pub row_inside : y + v < q * w
  row_inside = omega (arith, moved, row_end w split.0, lv)

-- ---- the order of the turns

module _ (g : Group) (a : J) (n v : ℕ) where
  abbrev pub Further : ℕ → Type 0
  Further direction = (line_of_turn g a direction (n + v) ≡ line_of_turn g a direction n + v) × (n + v < line_count g a)

  -- the lines along l and h are those of the rows of both
  inside_both : (j : ℕ) → j < (along_l g a).count + (along_h g a).count → j % columns g a + v < columns g a → j + v < (along_l g a).count + (along_h g a).count
  inside_both j l lv = omega (arith, row_inside (rows g a + layers g a) (columns g a) j v (omega arith) lv)

  forward_turns : line_of_turn g a 0 n < (along_l g a).count + (along_h g a).count → line_of_turn g a 0 n % columns g a + v < columns g a → Further 0
  unfolding line_of_turn
  forward_turns l lv = (refl, omega (arith, inside_both n l lv))

  module _ (l : n < line_count g a) (low : line_of_turn g a 1 n < (along_l g a).count + (along_h g a).count) (lv : line_of_turn g a 1 n % columns g a + v < columns g a) where
    -- those along k come first
    first_turns : n < (along_k g a).count → Further 1
    first_turns lk = absurd (omega (arith, low, along (line_of_turn g a 1) n (0 + n) (omega arith) ∙ order_k g a n lk))

    module _ (y : ℕ) where
      second_turns : n ≡ (along_k g a).count + y → y < (along_h g a).count → Further 1
      second_turns e ly =
          let is : line_of_turn g a 1 n ≡ (along_l g a).count + y = ap (line_of_turn g a 1) e ∙ order_h g a y ly in
          let end = inside_both ((along_l g a).count + y) (omega (arith, is, low)) (subst (λ j. j % columns g a + v < columns g a) is lv) in (
            along (line_of_turn g a 1) (n + v) ((along_k g a).count + (y + v)) (omega (arith, e)) ∙ order_h g a (y + v) (omega (arith, end)) ∙ omega (arith, is),
            omega (arith, e, end),
          )

      last_turns : n ≡ (along_k g a).count + (along_h g a).count + y → Further 1
      last_turns e =
          let ly : y < rows g a * columns g a = omega (arith, e, l) in
          let is : line_of_turn g a 1 n ≡ 0 + y = ap (line_of_turn g a 1) e ∙ order_l g a y ly in
          let end = row_inside (rows g a) (columns g a) y v ly (subst (λ j. j % columns g a + v < columns g a) (is ∙ omega arith) lv) in (
            along (line_of_turn g a 1) (n + v) ((along_k g a).count + (along_h g a).count + (y + v)) (omega (arith, e)) ∙ order_l g a (y + v) end ∙ omega (arith, is),
            omega (arith, e, end),
          )

    backward_turns : Further 1
    backward_turns = ⊎_elim
        (λ (lk : n < (along_k g a).count). first_turns lk)
        (λ (gk : (along_k g a).count ≤ n). ⊎_elim
        (λ (lh : n < (along_k g a).count + (along_h g a).count). second_turns (n - (along_k g a).count) (omega arith) (omega arith))
        (λ (gh : (along_k g a).count + (along_h g a).count ≤ n). last_turns (n - ((along_k g a).count + (along_h g a).count)) (omega arith))
        (lt_or_ge n ((along_k g a).count + (along_h g a).count)))
        (lt_or_ge n (along_k g a).count)

  -- those along k are all there is after them, in synthesis, and all there is before, in analysis
  module _ (l : n < line_count g a) where
    later_turns : line_of_turn g a 0 n + v < line_count g a → Further 0
    unfolding line_of_turn
    later_turns lv = (refl, lv)

    earlier_turns : (along_l g a).count + (along_h g a).count ≤ line_of_turn g a 1 n → line_of_turn g a 1 n + v < line_count g a → Further 1
    earlier_turns high lv = ⊎_elim
        (λ (lk : n < (along_k g a).count).
        let is : line_of_turn g a 1 n ≡ (along_l g a).count + (along_h g a).count + n = along (line_of_turn g a 1) n (0 + n) (omega arith) ∙ order_k g a n lk in
        let end : n + v < (along_k g a).count = omega (arith, is, lv) in
        (along (line_of_turn g a 1) (n + v) (0 + (n + v)) (omega arith) ∙ order_k g a (n + v) end ∙ omega (arith, is), omega (arith, end)))
        (λ (gk : (along_k g a).count ≤ n). absurd (⊎_elim
        (λ (lh : n < (along_k g a).count + (along_h g a).count).
        let ly : n - (along_k g a).count < (along_h g a).count = omega arith in
        omega (arith, high, along (line_of_turn g a 1) n ((along_k g a).count + (n - (along_k g a).count)) (omega arith) ∙ order_h g a (n - (along_k g a).count) ly, ly))
        (λ (gh : (along_k g a).count + (along_h g a).count ≤ n).
        let ly : n - ((along_k g a).count + (along_h g a).count) < (along_l g a).count = omega (arith, l) in
        omega (arith, high, along (line_of_turn g a 1) n ((along_k g a).count + (along_h g a).count + (n - ((along_k g a).count + (along_h g a).count))) (omega arith) ∙ order_l g a (n - ((along_k g a).count + (along_h g a).count)) ly, ly))
        (lt_or_ge n ((along_k g a).count + (along_h g a).count))))
        (lt_or_ge n (along_k g a).count)

module _ (p : Plan) (ok : Planned p) where
  abbrev group : Group
  group = plan_group p

  abbrev halves : J
  halves = plan_halves p

  -- what holds of both directions holds of the plan's
  directions : (P : ℕ → Type 0) → P 0 → P 1 → P p.direction
  directions P forth back = ⊎_elim
      (λ (lt : p.direction < 1). let e : 0 ≡ p.direction = omega arith in subst P e forth)
      (λ (ge : 1 ≤ p.direction). let e : 1 ≡ p.direction = omega (arith, ok.directed) in subst P e back)
      (lt_or_ge p.direction 1)

  -- the turns of lines that stand side by side follow each other
  pub turns_beside : (n lanes v : ℕ) → n < line_count group halves → SideBySide p (line_of_turn group halves p.direction n) lanes → v < lanes → Further group halves n v p.direction
  turns_beside n lanes v l h lv = ⊎_elim
      (λ (low : line_of_turn group halves p.direction n < (along_l group halves).count + (along_h group halves).count).
      directions
      (λ d. line_of_turn group halves d n < (along_l group halves).count + (along_h group halves).count → line_of_turn group halves d n % columns group halves + v < columns group halves → Further group halves n v d)
      (forward_turns group halves n v) (backward_turns group halves n v l) low (omega (arith, h.row low)))
      (λ (high : (along_l group halves).count + (along_h group halves).count ≤ line_of_turn group halves p.direction n).
      directions
      (λ d. (along_l group halves).count + (along_h group halves).count ≤ line_of_turn group halves d n → line_of_turn group halves d n + v < line_count group halves → Further group halves n v d)
      (λ high. later_turns group halves n v l) (earlier_turns group halves n v l) high (omega (arith, h.rest high)))
      (lt_or_ge (line_of_turn group halves p.direction n) ((along_l group halves).count + (along_h group halves).count))

  -- ---- the places

  abbrev sizes : Sizes p.cell
  sizes = ok.sizes.sizes

  abbrev width : ℕ
  width = p.cell.n2 / 2 + 1

  -- the same row, by the code's width
  in_width : (y v : ℕ) → y % columns group halves + v < columns group halves → y % width + v < width
  in_width y v lv = subst (λ w. y % w + v < w) (sym (next sizes)) lv

  lines_by_width : (q y : ℕ) → y < q * columns group halves → y < q * width
  lines_by_width q y l = subst (λ w. y < q * w) (sym (next sizes)) l

  module _ (y kind f count : ℕ) (b : Bool) (l : y < (along_l group halves).count) (known : kind < 6) (e : kind_of kind ≡ line_kind group (y / width)) (eb : b ≡ rotated group (y / width)) (other : kind ≡ 1 → ⊥)
      (ef : f ≡ first_pair (kind_of kind)) (low : f ≤ 1) (ec : count ≡ pair_count kind p.cell.n3) (few : count ≤ 2880) where
    abbrev line_l : ℕ → Line
    line_l start = record { m = p.m; direction = p.direction; kind = kind; rotated = b; factors = p.f3; half = p.cell.n3 / 2; start = start; stride = p.cell.n1 * width; count = count }

    pub neighbours_l : Neighbours p (turn_of (along_l group halves) (turned_l group halves p.m p.direction)) (numbers_of (along_l group halves)) y (line_l (y + f * (p.cell.n1 * width)))
    neighbours_l = record {
      wide = omega (arith, next sizes, rows_wide width {m = p.cell.n1} (omega (arith, sizes.first.low)));
      each = λ v lv.
          let row = same_row (rows group halves) width y v (lines_by_width (rows group halves) y l) (in_width y v lv) in
          subst (λ start. Gathered p (turn_of (along_l group halves) (turned_l group halves p.m p.direction) (y + v)) (numbers_of (along_l group halves) (y + v)) (line_l start))
          {x = y + v + f * (p.cell.n1 * width)} {y = y + f * (p.cell.n1 * width) + v} (omega arith)
          (gathered_l p ok (y + v) kind f count b (row_inside (rows group halves) (columns group halves) y v l lv) known (e ∙ ap (line_kind group) (sym row)) (eb ∙ ap (rotated group) (sym row)) other ef low ec few);
    }

  module _ (y : ℕ) (l : y < (along_h group halves).count) where
    abbrev line_h : ℕ → Line
    line_h start = record { m = p.m; direction = p.direction; kind = 0; rotated = false; factors = p.f1; half = p.cell.n1 / 2; start = start; stride = width; count = p.cell.n1 }

    pub neighbours_h : Neighbours p (turn_of (along_h group halves) (turned_h group halves p.m p.direction)) (numbers_of (along_h group halves)) y (line_h (y / width * (p.cell.n1 * width) + y % width))
    neighbours_h = record {
      wide = omega (arith, next sizes);
      each = λ v lv.
          let ly = lines_by_width (layers group halves) y l in
          subst (λ start. Gathered p (turn_of (along_h group halves) (turned_h group halves p.m p.direction) (y + v)) (numbers_of (along_h group halves) (y + v)) (line_h start))
          (start_beside v (same_row (layers group halves) width y v ly (in_width y v lv)) (next_column (layers group halves) width y v ly (in_width y v lv)))
          (gathered_h p ok (y + v) (row_inside (layers group halves) (columns group halves) y v l lv));
    }
      where
        start_beside : (v : ℕ) → (y + v) / width ≡ y / width → (y + v) % width ≡ y % width + v
            → (y + v) / width * (p.cell.n1 * width) + (y + v) % width ≡ y / width * (p.cell.n1 * width) + y % width + v
        start_beside v er ec = (λ i. er i * (p.cell.n1 * width) + ec i) ∙ omega arith

  module _ (y : ℕ) where
    abbrev line_k : ℕ → Line
    line_k start = record { m = p.m; direction = p.direction; kind = 1; rotated = false; factors = p.f2; half = p.cell.n2 / 2; start = start; stride = 1; count = width }

    pub rows_after : RowsAfter p (turn_of (along_k group halves) (turned_k group halves p.m p.direction)) (numbers_of (along_k group halves)) y (along_k group halves).count (line_k (y * width))
    rows_after = record {
      each = λ v lv.
          subst (λ start. Row p (turn_of (along_k group halves) (turned_k group halves p.m p.direction) (y + v)) (numbers_of (along_k group halves) (y + v)) (line_k start))
          {x = (y + v) * width} {y = y * width + v * width} (omega arith) (row_k p ok (y + v) lv);
    }

  -- ---- by the number of the line

  module _ (c : Counts) (counts : Counted p c) (j : ℕ) {x : Line} where
    pub neighbours_at_l : j < c.l → Neighbours p (turn_of (along_l group halves) (turned_l group halves p.m p.direction)) (numbers_of (along_l group halves)) j x → Neighbours p (line_turn p) (plan_numbers p) j x
    neighbours_at_l lt h = record {
      wide = h.wide;
      each = λ v lv. gathered_at_l p c counts (j + v) (omega (arith, counts.l, row_inside (rows group halves) (columns group halves) j v (omega (arith, counts.l)) lv)) (h.each v lv);
    }

    pub neighbours_at_h : c.l ≤ j → j < c.l + c.h → Neighbours p (turn_of (along_h group halves) (turned_h group halves p.m p.direction)) (numbers_of (along_h group halves)) (j - c.l) x
        → Neighbours p (line_turn p) (plan_numbers p) j x
    neighbours_at_h ge lt h = record {
      wide = h.wide;
      each = λ v lv.
          let here : (j - c.l) % columns group halves + v < columns group halves = subst (λ r. r + v < columns group halves) column lv in
          gathered_at_h p c counts (j + v) (omega arith) (omega (arith, counts.h, row_inside (layers group halves) (columns group halves) (j - c.l) v (omega (arith, counts.h)) here))
          (subst (λ y. Gathered p (turn_of (along_h group halves) (turned_h group halves p.m p.direction) y) (numbers_of (along_h group halves) y) (shifted x v))
          {x = j - c.l + v} {y = j + v - c.l} (omega arith) (h.each v here));
    }
      where
        column : j % columns group halves ≡ (j - c.l) % columns group halves
        column = along (λ k. k % columns group halves) j (rows group halves * columns group halves + (j - c.l)) (omega (arith, counts.l)) ∙ mul-add-mod_self_right (rows group halves) (columns group halves) (j - c.l)

    pub rows_after_at : c.l + c.h ≤ j
        → RowsAfter p (turn_of (along_k group halves) (turned_k group halves p.m p.direction)) (numbers_of (along_k group halves)) (j - (c.l + c.h)) (along_k group halves).count x
        → RowsAfter p (line_turn p) (plan_numbers p) j (line_count group halves) x
    rows_after_at ge h = record {
      each = λ v lv. row_at_k p c counts (j + v) (omega arith)
          (subst (λ y. Row p (turn_of (along_k group halves) (turned_k group halves p.m p.direction) y) (numbers_of (along_k group halves) y) (shifted x (v * x.count)))
          {x = j - (c.l + c.h) + v} {y = j + v - (c.l + c.h)} (omega arith) (h.each v (omega (arith, counts.l, counts.h))));
    }

  -- ---- a group

  module _ (n : ℕ) (ln : n < line_count group halves) (x : Line) (lanes : ℕ) (some : 0 < lanes) where
    abbrev number : ℕ
    number = line_of_turn group halves p.direction n

    module _ (room : InBatch x) (h : SideBySide p number lanes) where
      beside : (v : ℕ) → v < lanes → Further group halves n v p.direction
      beside v lv = turns_beside n lanes v ln h lv

      pub group_inside : n + lanes ≤ line_count group halves
      group_inside = let last : lanes - 1 < lanes = omega arith in omega (arith, (beside (lanes - 1) last).1)

      gathered_group : number < (along_l group halves).count + (along_h group halves).count → Neighbours p (line_turn p) (plan_numbers p) number x → GatheredGroup p n x lanes
      gathered_group low near = record {
        room = room;
        wide = omega (arith, near.wide, h.row low);
        each = λ v lv. subst (λ j. Gathered p (line_turn p j) (plan_numbers p j) (shifted x v)) (sym (beside v lv).0) (near.each v (omega (arith, h.row low)));
      }

      row_group : (along_l group halves).count + (along_h group halves).count ≤ number → RowsAfter p (line_turn p) (plan_numbers p) number (line_count group halves) x → RowGroup p n x lanes
      row_group high after = record {
        room = room;
        each = λ v lv. subst (λ j. Row p (line_turn p j) (plan_numbers p j) (shifted x (v * x.count))) (sym (beside v lv).0) (after.each v (omega (arith, h.rest high)));
      }

    pub group_at : {most : ℕ} → LineAt p number x → lanes ≤ most → (1 < lanes → InBatch x × SideBySide p number lanes)
        → (number < (along_l group halves).count + (along_h group halves).count → Neighbours p (line_turn p) (plan_numbers p) number x)
        → ((along_l group halves).count + (along_h group halves).count ≤ number → RowsAfter p (line_turn p) (plan_numbers p) number (line_count group halves) x)
        → GroupOfTurn p n most (record { line = x; lanes = lanes })
    group_at first few batched near after = record {
      first = first;
      some = some;
      few = few;
      inside = ⊎_elim
          (λ (one : lanes < 2). omega arith)
          (λ (more : 2 ≤ lanes). group_inside (batched more).0 (batched more).1)
          (lt_or_ge lanes 2);
      together = λ more. ⊎_elim
          (λ (low : number < (along_l group halves).count + (along_h group halves).count). inl (gathered_group (batched more).0 (batched more).1 low (near low)))
          (λ (high : (along_l group halves).count + (along_h group halves).count ≤ number). inr (row_group (batched more).0 (batched more).1 high (after high)))
          (lt_or_ge number ((along_l group halves).count + (along_h group halves).count));
    }

    -- as the code finds them
    pub group_by : {most : ℕ} (j : ℕ) → j ≡ number → LineAt p j x → lanes ≤ most → (1 < lanes → InBatch x × SideBySide p j lanes)
        → (j < (along_l group halves).count + (along_h group halves).count → Neighbours p (line_turn p) (plan_numbers p) j x)
        → ((along_l group halves).count + (along_h group halves).count ≤ j → RowsAfter p (line_turn p) (plan_numbers p) j (line_count group halves) x)
        → GroupOfTurn p n most (record { line = x; lanes = lanes })
    group_by j e first few batched near after =
        group_at (subst (λ j. LineAt p j x) e first) few (λ more. subst (λ j. InBatch x × SideBySide p j lanes) e (batched more))
        (λ low. subst (λ j. Neighbours p (line_turn p) (plan_numbers p) j x) e (near (omega (arith, e, low))))
        (λ high. subst (λ j. RowsAfter p (line_turn p) (plan_numbers p) j (line_count group halves) x) e (after (omega (arith, e, high))))

  -- ---- how many are left

  pub row_left : (j : ℕ) → (0 < width - j % width) × (j % width ≤ width)
  row_left j = let l : j % width < width = mod-lt j (omega arith) in (omega arith, omega arith)

  pub in_row : (j lanes : ℕ) → lanes ≤ width - j % width → j % columns group halves + lanes ≤ columns group halves
  in_row j lanes l = subst (λ w. j % w + lanes ≤ w) (next sizes) (omega (arith, l, (row_left j).1))

  module _ {c : Counts} (counts : Counted p c) (j lanes : ℕ) where
    -- in a row of lines
    pub left_in_row : j < c.l + c.h → lanes ≤ width - j % width → SideBySide p j lanes
    left_in_row low left = record {
      row = λ h. in_row j lanes left;
      rest = λ high. absurd (omega (arith, low, high, counts.l, counts.h));
    }

    -- along k
    pub left_of_rows : c.l + c.h ≤ j → j + lanes ≤ c.l + c.h + c.k → SideBySide p j lanes
    left_of_rows high left = record {
      row = λ low. absurd (omega (arith, low, high, counts.l, counts.h));
      rest = λ h. omega (arith, counted_lines counts, left);
    }

  -- fewer of them
  pub fewer : (j left : ℕ) {lanes : ℕ} → lanes ≤ left → SideBySide p j left → SideBySide p j lanes
  fewer j left l h = record { row = λ low. omega (arith, l, h.row low); rest = λ high. omega (arith, l, h.rest high) }
