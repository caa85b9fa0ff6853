-- The lines of each axis come by rising place of their pair at index 0, in Pa too, where an odd h's line along l begins
-- at index 1.
use Rattle.std.specs.Prelude.{◌≡◌, ◌+◌, ◌<◌, ◌/◌, ◌%◌}
use Rattle.algebra.specs.Prelude.{ℕ}
use Rattle.algebra.specs.cells.Cell.{J, Group}
use Rattle.slices.specs.Sweep.{Layout}
use Rattle.cell.specs.Volume.{first_pair, rows, columns, pair_place}
use Rattle.volume_transform.specs.Axes.{kind_at, along_l, along_h, along_k}

-- The place of the pair at an index of line y. Along l the line is that of h and k, along h of w and k, along k of w
-- and h, each y = h (B + 1) + k, w (B + 1) + k, w N1 + h.
module _ (g : Group) (a : J) where
  abbrev pub pair_on_l : (y l : ℕ) → ℕ
  pair_on_l y l = pair_place g a l (y / columns g a) (y % columns g a)

  abbrev pub pair_on_h : (y h : ℕ) → ℕ
  pair_on_h y h = pair_place g a (y / columns g a) h (y % columns g a)

  abbrev pub pair_on_k : (y k : ℕ) → ℕ
  pair_on_k y k = pair_place g a (y / rows g a) (y % rows g a) k

-- The lines of an axis: the pairs of line y are those from index `begin y` on, and the places of the pairs at index 0
-- rise.
pub record Rising (L : Layout) (begin : ℕ → ℕ) (pair : (y index : ℕ) → ℕ) : Type 0 where
  pub pairs :
      (y j : ℕ)
      → y < L.count
      → L.place y j ≡ pair y (begin y + j)
  pub rises :
      (y z : ℕ)
      → y < z
      → z < L.count
      → pair y 0 < pair z 0

pub record RisingPlaces : Type 0 where
  pub along_l_lem : (g : Group) (a : J) → Rising (along_l g a) (λ y. first_pair (kind_at g a y)) (pair_on_l g a)
  pub along_h_lem : (g : Group) (a : J) → 0 < rows g a → Rising (along_h g a) (λ y. 0) (pair_on_h g a)
  pub along_k_lem : (g : Group) (a : J) → Rising (along_k g a) (λ y. 0) (pair_on_k g a)
