-- Records, and the tests behind refusals 12, 14 and 24. A record at j implies a value at each image of j under the
-- group with Friedel's rule (`full g`); an image is written where it is stored.
use Rattle.std.specs.Prelude.{◌&&◌, ◌||◌, ◌+◌, ◌*◌, ◌∷◌, ◌++◌}
use Rattle.algebra.specs.Prelude.{Bool, cond, eqb, ltb, ℕ, List, [], get_or, set}
use Rattle.algebra.specs.ring.Ring.{Res}
use Rattle.algebra.specs.lines.Kinds.{Kind, Kind.plain, Kind.hermitian, Kind.antihermitian, Kind.alternating}
use Rattle.algebra.specs.lines.Kinds.{Kind.symmetric, Kind.antisymmetric}
use Rattle.algebra.specs.cells.Cell.{J, Sym, Group, Cell, full, ops, image_of, point_image, implied_value, factor_acts}
use Rattle.algebra.specs.cells.Cell.{every, every_place, imply, stored_t, stored_point_t, agrees_t}
use Rattle.algebra.specs.cells.Cell as Cell
use Rattle.algebra.specs.orbits.Orbit.{recorded}
use Rattle.algebra.specs.cells.CellPack.{even}
use Rattle.numbers.specs.declared.Pair.{Pair}
use Rattle.numbers.specs.Value.{Value, field, conj, pair_of}
use Rattle.slices.specs.Pairs.{at, put}
use Rattle.cell.specs.Volume.{line_kind, rotated, times_i, first_pair, layers, rows, columns, pair_place, map_place}
use Rattle.cell.specs.Volume.{numbers_read, line_in}

-- two values have the same numbers
abbrev pub same_value : {p : ℕ} → Res p × Res p → Res p × Res p → Bool
same_value x y = eqb x.0.val y.0.val && eqb x.1.val y.1.val

module _ (g : Group) (a : J) where
  -- The stored index (h, k, l) gets the pair x: a whole pair, but in an alternating line one number at l = 0 and one at
  -- l = A, the part that can differ from 0; in an antisymmetric line nothing there: the pairs 0 and A are no part of
  -- it.
  unfoldable pub write_alternating : List ℕ → (h k l : ℕ) → Pair → List ℕ
  write_alternating v h k l x =
      cond (eqb l 0) (set v (2 * pair_place g a 0 h k) x.re)
      (cond (eqb l a.2) (set v (2 * pair_place g a 0 h k + 1) (cond (even l) x.re x.im))
      (put v (pair_place g a l h k) x))

  abbrev pub write_line : Kind → List ℕ → J → Pair → List ℕ
  write_line plain v j x = put v (pair_place g a j.2 j.0 j.1) x
  write_line hermitian v j x = put v (pair_place g a j.2 j.0 j.1) x
  write_line antihermitian v j x = put v (pair_place g a j.2 j.0 j.1) x
  write_line alternating v j x = write_alternating v j.0 j.1 j.2 x
  write_line symmetric v j x = put v (pair_place g a j.2 j.0 j.1) x
  write_line antisymmetric v j x =
      cond (eqb j.2 0 || eqb j.2 a.2) v (put v (pair_place g a j.2 j.0 j.1) x)

  unfoldable pub write : List ℕ → J → Pair → List ℕ
  write v j x = write_line (line_kind g j.0) v j x

  module _ (m : ℕ) where
    -- the value that x at j implies at the image of j
    abbrev pub implied : Sym → J → Value m → Value m
    implied s j x = implied_value (field m) (conj m) s j x

    -- a record: each operation in turn writes its image, where that is stored, times i where its line is rotated
    abbrev pub written_pair : J → Value m → Pair
    written_pair j x = pair_of (times_i m (rotated g j.0) x)

    unfoldable pub write_images : List Sym → J → Value m → List ℕ → List ℕ
    write_images [] j x v = v
    write_images (s ∷ l) j x v =
        write_images l j x
        (cond (stored_t g a (image_of a s j))
        (write v (image_of a s j) (written_pair (image_of a s j) (implied s j x))) v)

    abbrev pub record_on : J → Value m → List ℕ → List ℕ
    record_on j x v = write_images (full g) j x v

    -- the cell with x at j and the implied value at each image
    unfoldable pub record_in : J → Value m → Cell (Value m) → Cell (Value m)
    record_in j x F h k l = recorded (factor_acts (field m) (conj m) a) (full g) j x (Cell.at F) (h, k, l)

    -- Refusal 12 is not this: an image of the record that falls on its own index has the record's value.
    unfoldable pub agrees_with_itself : J → Value m → Bool
    agrees_with_itself j x = agrees_t (field m) (conj m) same_value g a j x

    -- Refusal 14 of factors is not this: each stored image of each stored place has the implied value, and the pairs 0
    -- and A are zero where they are no part of their line.
    abbrev pub image_agrees : List ℕ → J → Sym → Bool
    image_agrees v j s =
        imply (stored_t g a (image_of a s j))
        (same_value (line_in g a m v (image_of a s j).0 (image_of a s j).1 (image_of a s j).2)
        (implied s j (line_in g a m v j.0 j.1 j.2)))

    abbrev pub line_agrees : List ℕ → J → Bool
    line_agrees v j = every (full g) (λ s. image_agrees v j s)

    unfoldable pub pair_is_zero : List ℕ → (w h k : ℕ) → Bool
    pair_is_zero v w h k =
        eqb (get_or v (2 * pair_place g a w h k) 0) 0 && eqb (get_or v (2 * pair_place g a w h k + 1) 0) 0

    -- the line (h, k) has the pairs 0 and A, or they are zero
    abbrev pub zero_ends : List ℕ → (h k : ℕ) → Bool
    zero_ends v h k = imply (ltb 0 (first_pair (line_kind g h))) (pair_is_zero v 0 h k && pair_is_zero v a.2 h k)

    unfoldable pub consistent_factors : List ℕ → Bool
    consistent_factors v =
        every_place (rows g a) (columns g a) (Cell.span g a.2) (line_agrees v)
        && every_place (rows g a) (columns g a) 1 (λ j. zero_ends v j.0 j.1)

  -- Refusal 24 is not this: the numbers that hold part of the orbit are zero.
  unfoldable pub orbit_numbers : List Sym → J → List ℕ
  orbit_numbers [] j = []
  orbit_numbers (s ∷ l) j = numbers_read g a (image_of a s j) ++ orbit_numbers l j

  unfoldable pub orbit_free : List ℕ → J → Bool
  orbit_free v j = every (orbit_numbers (full g) j) (λ q. eqb (get_or v q 0) 0)

  -- Refusal 14 of a map is not this: points of stored planes that are images of each other have the same number, and
  -- each row ends with two zeros.
  abbrev pub point_image_agrees : List ℕ → J → Sym → Bool
  point_image_agrees v x s =
      imply (stored_point_t g a (point_image a s x))
      (eqb (get_or v (map_place g a (point_image a s x)) 0) (get_or v (map_place g a x) 0))

  abbrev pub point_agrees : List ℕ → J → Bool
  point_agrees v x = every (ops g) (λ s. point_image_agrees v x s)

  abbrev pub row_ends : List ℕ → (z x : ℕ) → Bool
  row_ends v z x =
      eqb (get_or v (map_place g a (x, 2 * a.1, z)) 0) 0 && eqb (get_or v (map_place g a (x, 2 * a.1 + 1, z)) 0) 0

  unfoldable pub consistent_map : List ℕ → Bool
  consistent_map v =
      every_place (rows g a) (2 * a.1) (layers g a) (point_agrees v)
      && every_place (rows g a) 1 (layers g a) (λ x. row_ends v x.2 x.0)
