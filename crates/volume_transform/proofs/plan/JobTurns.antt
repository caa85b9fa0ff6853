-- The sizes of a checked job, as the code computes them: every place and count fits, a gathered line is that of its layout.
use mathlib.Core.Path.{◌≡◌, refl, sym, ◌∙◌, ap, ap₂, subst}
use mathlib.Core.Bool.{Bool, true, false, cond}
use mathlib.Core.List.{List}
use Prim.Native.Nat.{ℕ, suc, ◌+◌, ◌*◌, ◌/◌, ◌%◌, ◌<◌, ◌≤◌}
use native.Mathlib.Nat.{mul-le-mul, mul-le-mul_right}
use native.Mathlib.Omega.{arith}
use Rattle.algebra.specs.lines.Kinds.{Kind.symmetric, Kind.antisymmetric, slots}
use Rattle.algebra.specs.cells.Cell.{J, Group, P1, P2₁, Pm, Pa, P2₁2₁2₁, planes}
use Rattle.algebra.specs.cells.CellPack.{even}
use Rattle.slices.specs.Pairs.{at, tab}
use Rattle.slices.proofs.Rows.{row_end, row_split, strided_block}
use Rattle.slices.proofs.Layouts.{fits_second}
use Rattle.lengths.specs.Lengths.{kind_of, pair_count}
use Rattle.cell.specs.Volume.{line_kind, rotated, first_pair, layers, rows, columns, volume_length}
use Rattle.cell.specs.declared.operations.UnitCell.{UnitCell}
use Rattle.cell.specs.Operations.{cell_group, cell_halves, Sizes}
use Rattle.volume_transform.specs.Axes.{turned_stored, turn_of, numbers_of, kind_at, along_l, along_h, along_k, turned_l}
use Rattle.volume_transform.specs.Lines.{turned_at}
use Rattle.volume_transform.proofs.plan.Numbered.{by_places, numbers_at_lem}

-- the pairs of a line along l are among the layers
module _ (a : J) where
  mirror_fits : 0 < a.2 → (b : Bool) → first_pair (cond b symmetric antisymmetric) + slots (cond b symmetric antisymmetric) a.2 ≤ suc a.2
  unfolding slots
  mirror_fits pos true = omega arith
  mirror_fits pos false = omega arith

  pub line_fits : (g : Group) → 0 < a.2 → (h : ℕ) → first_pair (line_kind g h) + slots (line_kind g h) a.2 ≤ layers g a
  unfolding slots planes
  line_fits P1 pos h = omega arith
  line_fits P2₁ pos h = omega arith
  line_fits Pm pos h = omega arith
  line_fits Pa pos h = mirror_fits pos (even h)
  line_fits P2₁2₁2₁ pos h = omega arith

layers_most : (g : Group) (c : ℕ) → 0 < c → planes g c ≤ 2 * c
unfolding planes
layers_most P1 c p = omega arith
layers_most P2₁ c p = omega arith
layers_most Pm c p = omega arith
layers_most Pa c p = omega arith
layers_most P2₁2₁2₁ c p = omega arith

module _ {cell : UnitCell} (h : Sizes cell) where
  abbrev g : Group
  g = cell_group cell

  abbrev a : J
  a = cell_halves cell

  pub twice : cell.n1 ≡ rows g a
  twice = omega (arith, h.first.even)

  pub next : cell.n2 / 2 + 1 ≡ columns g a
  next = omega arith

  pub layers_low : layers g a ≤ 2880
  layers_low = omega (arith, layers_most (cell_group cell) (cell.n3 / 2) (omega (arith, h.third.low)), h.third.high)

  pub width_low : cell.n2 / 2 + 1 ≤ 1441
  width_low = omega (arith, h.second.high)

  pub plane_low : cell.n1 * (cell.n2 / 2 + 1) ≤ 4150080
  plane_low = mul-le-mul h.first.high width_low

  pub rows_low : (y : ℕ) → y < rows g a * columns g a → y < cell.n1 * (cell.n2 / 2 + 1)
  rows_low y l = subst (λ s. y < s) (λ i. sym twice i * sym next i) l

  pub start_l : (f : ℕ) → f ≤ 1 → f * (cell.n1 * (cell.n2 / 2 + 1)) ≤ 4150080
  start_l f low = omega (arith, mul-le-mul low plane_low)

  pub volume_low : layers g a * (cell.n1 * (cell.n2 / 2 + 1)) ≤ 11952230400
  volume_low = mul-le-mul layers_low plane_low

  pub volume_long : 2 * (layers g a * cell.n1 * (cell.n2 / 2 + 1)) ≡ volume_length g a
  volume_long = λ i. 2 * (layers g a * twice i * next i)

  -- a line along h
  module _ (y : ℕ) (l : y < layers g a * columns g a) where
    pub layer_line : y < layers g a * (cell.n2 / 2 + 1)
    layer_line = subst (λ k. y < layers g a * k) (sym next) l

    pub start_h : y / (cell.n2 / 2 + 1) * (cell.n1 * (cell.n2 / 2 + 1)) + y % (cell.n2 / 2 + 1) ≤ 11952230400
    start_h = start (y / (cell.n2 / 2 + 1)) (y % (cell.n2 / 2 + 1)) (row_split (layers g a) layer_line).0 (row_split (layers g a) layer_line).1
      where
        start : (q r : ℕ) → q < layers g a → r < cell.n2 / 2 + 1 → q * (cell.n1 * (cell.n2 / 2 + 1)) + r ≤ 11952230400
        start q r lq lr = omega (arith, row_end (cell.n1 * (cell.n2 / 2 + 1)) lq, volume_low, mul-le-mul h.first.low lr)

    pub fits_h : 2 * (y / (cell.n2 / 2 + 1) * (cell.n1 * (cell.n2 / 2 + 1)) + y % (cell.n2 / 2 + 1) + cell.n1 * (cell.n2 / 2 + 1)) + 2 ≤ volume_length g a + 2 * (cell.n2 / 2 + 1)
    fits_h = fits_second (layers g a) cell.n1 (cell.n2 / 2 + 1) (omega (arith, volume_long)) layer_line

    pub place_h : (j : ℕ) → y / (cell.n2 / 2 + 1) * (cell.n1 * (cell.n2 / 2 + 1)) + y % (cell.n2 / 2 + 1) + j * (cell.n2 / 2 + 1) ≡ (along_h g a).place y j
    place_h j = strided_block (y / (cell.n2 / 2 + 1)) cell.n1 (cell.n2 / 2 + 1) (y % (cell.n2 / 2 + 1)) j ∙ λ i. (y / next i * twice i + j) * next i + y % next i

  -- a line along l, whose kind, first pair and count the code has found
  module _ (y kind f count : ℕ) {b : Bool} (e : kind_of kind ≡ line_kind g (y / (cell.n2 / 2 + 1))) (eb : b ≡ rotated g (y / (cell.n2 / 2 + 1))) (ef : f ≡ first_pair (kind_of kind)) (low : f ≤ 1) (ec : count ≡ pair_count kind cell.n3) where
    kind_is : kind_of kind ≡ kind_at g a y
    kind_is = e ∙ ap (λ k. line_kind g (y / k)) next

    rotated_is : b ≡ rotated g (y / columns g a)
    rotated_is = eb ∙ ap (λ k. rotated g (y / k)) next

    size_l : count ≡ slots (kind_at g a y) (cell.n3 / 2)
    size_l = ec ∙ ap (λ k. slots k (cell.n3 / 2)) kind_is

    place_l : (j : ℕ) → y + f * (cell.n1 * (cell.n2 / 2 + 1)) + j * (cell.n1 * (cell.n2 / 2 + 1)) ≡ (along_l g a).place y j
    place_l j = sum f (cell.n1 * (cell.n2 / 2 + 1)) ∙ ap (λ f. y + (f + j) * (cell.n1 * (cell.n2 / 2 + 1))) ef ∙ λ i. y + (first_pair (kind_is i) + j) * (twice i * next i)
      where
        sum : (f s : ℕ) → y + f * s + j * s ≡ y + (f + j) * s
        sum f s = omega arith

    pub fits_l : y < rows g a * columns g a → 2 * (y + f * (cell.n1 * (cell.n2 / 2 + 1)) + count * (cell.n1 * (cell.n2 / 2 + 1))) + 2 ≤ volume_length g a + 2 * (cell.n1 * (cell.n2 / 2 + 1))
    fits_l l =
        let below : y < cell.n1 * (cell.n2 / 2 + 1) = subst (λ s. y < s) (λ i. sym twice i * sym next i) l in
        let whole : f + count ≤ layers g a = subst (λ k. k ≤ layers g a) (sym ((λ i. (ef ∙ ap first_pair kind_is) i + size_l i))) (line_fits a g (omega (arith, h.third.low)) (y / columns g a)) in
        omega (arith, below, mul-le-mul_right (cell.n1 * (cell.n2 / 2 + 1)) whole, volume_long)

    pub turned_l_lem : (m direction : ℕ) (v : List ℕ) → turned_at (λ j. y + f * (cell.n1 * (cell.n2 / 2 + 1)) + j * (cell.n1 * (cell.n2 / 2 + 1))) count (turned_stored m (cell.n3 / 2) direction b (kind_of kind)) v ≡ turn_of (along_l g a) (turned_l g a m direction) y v
    turned_l_lem m direction v = by_places (along_l g a) (turned_l g a m direction) y count _ (turned_stored m (cell.n3 / 2) direction b (kind_of kind)) v _ size_l (λ j l. place_l j) (λ l. ap₂ (λ b k. turned_stored m (cell.n3 / 2) direction b k l) rotated_is kind_is) refl

    pub numbers_l : (v : List ℕ) → tab count (λ j. at v (y + f * (cell.n1 * (cell.n2 / 2 + 1)) + j * (cell.n1 * (cell.n2 / 2 + 1)))) ≡ numbers_of (along_l g a) y v
    numbers_l v = numbers_at_lem (along_l g a) y count _ v size_l (λ j l. place_l j)

  -- a row along k
  module _ (y : ℕ) (l : y < layers g a * rows g a) where
    row_of_lem : y < layers g a * cell.n1
    row_of_lem = subst (λ k. y < layers g a * k) (sym twice) l

    pub row_fits : 2 * (y * (cell.n2 / 2 + 1)) + 2 * (cell.n2 / 2 + 1) ≤ volume_length g a
    row_fits = omega (arith, row_end (cell.n2 / 2 + 1) row_of_lem, volume_long)

    pub row_low : 2 * (y * (cell.n2 / 2 + 1)) + 2 * (cell.n2 / 2 + 1) ≤ 23904460800
    row_low = omega (arith, row_end (cell.n2 / 2 + 1) row_of_lem, volume_low)

  pub layers_width : (w : ℕ) → w ≡ layers g a → w * (cell.n2 / 2 + 1) ≤ 4150080
  layers_width w e = let l : w ≤ 2880 = omega (arith, e, layers_low) in mul-le-mul l width_low

  pub layers_rows : (w : ℕ) → w ≡ layers g a → w * cell.n1 ≤ 8294400
  layers_rows w e = let l : w ≤ 2880 = omega (arith, e, layers_low) in mul-le-mul l h.first.high

  -- how many lines there are, as the code counts them
  pub first_is : cell.n1 * (cell.n2 / 2 + 1) ≡ (along_l g a).count
  first_is = λ i. twice i * next i

  module _ (w : ℕ) (ew : w ≡ layers g a) where
    pub second_is : w * (cell.n2 / 2 + 1) ≡ (along_h g a).count
    second_is = λ i. ew i * next i

    pub third_is : w * cell.n1 ≡ (along_k g a).count
    third_is = λ i. ew i * twice i
