-- What an opening names besides the volume, its tests, and the states of a job as numbers.
use Rattle.std.specs.Prelude.{◌&&◌, ◌/◌, ◌∷◌}
use Rattle.algebra.specs.Prelude.{Bool, not, eqb, ltb, ℕ, List, []}
use Rattle.algebra.specs.cells.Cell.{J}
use Rattle.lengths.specs.Lengths.{product, admitted, factors_ok}
use Rattle.refusals.specs.Refusals.{Test, ◌⇒◌}
use Rattle.cell.specs.Volume.{group_of, volume_length}

-- group, lengths and factor lists
pub record Header : Type 0 where
  pub group : ℕ
  pub lengths : J
  pub list1 : List ℕ
  pub list2 : List ℕ
  pub list3 : List ℕ

abbrev pub half_lengths : J → J
half_lengths n = (n.0 / 2, n.1 / 2, n.2 / 2)

abbrev pub volume_limit : ℕ
volume_limit = 16777216

-- the numbers of the volume
abbrev pub needed : Header → ℕ
needed h = volume_length (group_of h.group) (half_lengths h.lengths)

-- the three axes: each length is admitted, each list holds factors, and each product is half of its length
abbrev pub all_admitted : (lengths : J) → Bool
all_admitted n = admitted n.0 && (admitted n.1 && admitted n.2)

abbrev pub all_factors : (list1 list2 list3 : List ℕ) → Bool
all_factors list1 list2 list3 = factors_ok list1 && (factors_ok list2 && factors_ok list3)

abbrev pub all_products : (lengths : J) (list1 list2 list3 : List ℕ) → Bool
all_products n list1 list2 list3 =
    eqb (product list1) (n.0 / 2) && (eqb (product list2) (n.1 / 2) && eqb (product list3) (n.2 / 2))

-- 3, 4, 5, each over the three axes, then 9
abbrev pub axis_tests : Header → List Test
axis_tests h =
    not (all_admitted h.lengths) ⇒ 3 ∷
    not (all_factors h.list1 h.list2 h.list3) ⇒ 4 ∷
    not (all_products h.lengths h.list1 h.list2 h.list3) ⇒ 5 ∷
    ltb volume_limit (needed h) ⇒ 9 ∷
    []

-- The states of a job.
abbrev pub collecting : ℕ
collecting = 0

abbrev pub factors_held : ℕ
factors_held = 1

abbrev pub map_held : ℕ
map_held = 2
