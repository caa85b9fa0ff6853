-- The volume as a list of numbers: the packed factors (the paper's box) and the map with its zeros, and the cells that
-- both stand for. An axis is known by its half: a = (N1/2, B, A) with N2 = 2 B and N3 = 2 A. A volume has W * N1 * (B +
-- 1) pairs.
use Rattle.std.specs.Prelude.{◌&&◌, ◌||◌, ◌+◌, ◌*◌, ◌-◌, ◌/◌, ◌%◌, ◌∷◌}
use Rattle.algebra.specs.Prelude.{Bool, true, false, not, cond, eqb, leb, ltb, ℕ, suc}
use Rattle.algebra.specs.Prelude.{min, List, [], get_or}
use Rattle.algebra.specs.lines.Kinds.{Kind, Kind.plain, Kind.hermitian, Kind.antihermitian, Kind.alternating}
use Rattle.algebra.specs.lines.Kinds.{Kind.symmetric, Kind.antisymmetric, slots, unfold_before, pack_before}
use Rattle.algebra.specs.cells.Cell.{J, Group, P1, P2₁, Pm, Pa, P2₁2₁2₁, Cell, point_image, neg_i, planes}
use Rattle.algebra.specs.cells.Cell.{point_operation}
use Rattle.algebra.specs.cells.CellPack.{even}
use Rattle.algebra.specs.ring.Ring.{Res}
use Rattle.numbers.specs.declared.Pair.{Pair}
use Rattle.numbers.specs.Value.{Value, field, conj, i, half, real, value, pair_of}
use Rattle.slices.specs.Pairs.{tab, values_of}
use Rattle.algebra.specs.cells.Cell as C
pub use Rattle.roots.specs.Root.{axis}

-- the groups by the paper's numbers
abbrev pub group_of : ℕ → Group
group_of n = get_or (P1 ∷ P2₁ ∷ Pm ∷ Pa ∷ P2₁2₁2₁ ∷ []) n P1

-- the kind of the line along l at h
abbrev pub line_kind : Group → ℕ → Kind
line_kind P1 h = plain
line_kind P2₁ h = alternating
line_kind Pm h = symmetric
line_kind Pa h = cond (even h) symmetric antisymmetric
line_kind P2₁2₁2₁ h = alternating

-- the line is stored times i: an odd h's line of P2₁2₁2₁ is alternating only so
abbrev pub rotated : Group → ℕ → Bool
rotated P1 h = false
rotated P2₁ h = false
rotated Pm h = false
rotated Pa h = false
rotated P2₁2₁2₁ h = not (even h)

-- a value times i and over i where the line is rotated, else the value
abbrev pub times_i : (m : ℕ) → Bool → Value m → Value m
times_i m false x = x
times_i m true x = (field m).mul (i m) x

abbrev pub over_i : (m : ℕ) → Bool → Value m → Value m
over_i m false x = x
over_i m true x = (field m).mul ((field m).neg (i m)) x

-- the first of the W pairs that belongs to a line of the kind: an antisymmetric line leaves the pairs 0 and A out
abbrev pub first_pair : Kind → ℕ
first_pair plain = 0
first_pair hermitian = 0
first_pair antihermitian = 0
first_pair alternating = 0
first_pair symmetric = 0
first_pair antisymmetric = 1

module _ (g : Group) (a : J) where
  -- the paper's W, N1 and B + 1
  abbrev pub layers : ℕ
  layers = planes g a.2

  abbrev pub rows : ℕ
  rows = 2 * a.0

  abbrev pub columns : ℕ
  columns = suc a.1

  abbrev pub volume_pairs : ℕ
  volume_pairs = layers * rows * columns

  abbrev pub volume_length : ℕ
  volume_length = 2 * volume_pairs

  -- the place of the pair w of (h, k), and of the pair k of the map's row at z = w, x = h
  abbrev pub pair_place : (w h k : ℕ) → ℕ
  pair_place w h k = (w * rows + h) * columns + k

  -- the volume whose pair at place (w, h, k) is f w h k
  unfoldable pub volume_of : (ℕ → ℕ → ℕ → Pair) → List ℕ
  volume_of f = tab volume_pairs (λ j. f (j / columns / rows) (j / columns % rows) (j % columns))

  -- Packed factors. The packed line of (h, k) is the pairs of its kind, of the line times i where it is rotated; in Pa
  -- with h odd the pairs 0 and A are no part of it, and zero.
  module _ (m : ℕ) where
    abbrev pub packed_line : List ℕ → (h k : ℕ) → ℕ → Value m
    packed_line v h k w = values_of m v (pair_place (first_pair (line_kind g h) + w) h k)

    -- the whole line that the pairs stand for, and the factors: a rotated line loses its i
    unfoldable pub whole_line : List ℕ → (h k : ℕ) → ℕ → Value m
    whole_line v h k l =
        unfold_before (field m) (conj m) (i m) (real m (half m)) a.2 (line_kind g h) (packed_line v h k) l

    unfoldable pub line_in : List ℕ → (h k : ℕ) → ℕ → Value m
    line_in v h k l = over_i m (rotated g h) (whole_line v h k l)

    -- The factors that a volume stands for: k above B through the line of (-h, -k), any other from its own.
    unfoldable pub factors_in : List ℕ → Cell (Value m)
    factors_in v h k l =
        cond (leb k a.1) (line_in v h k l) (conj m (line_in v (neg_i a.0 h) (neg_i a.1 k) (neg_i a.2 l)))

    -- and back: a line X along l packed by its kind, as before the transform; it is F(h, k, l), times i where it is
    -- rotated
    unfoldable pub packed : Kind → (ℕ → Value m) → ℕ → Value m
    packed kind X w =
        cond (leb (first_pair kind) w && ltb w (first_pair kind + slots kind a.2))
        (pack_before (field m) (conj m) (i m) (real m (half m)) a.2 kind X (w - first_pair kind)) (value m 0 0)

    unfoldable pub pack_factors : Cell (Value m) → List ℕ
    pack_factors F = volume_of (λ w h k. pair_of (packed (line_kind g h) (λ l. times_i m (rotated g h) (F h k l)) w))

  -- The map: for each stored plane z and each x, both rising, the N2 numbers by y, then two zeros; the pair k of a row
  -- has y = 2 k and y = 2 k + 1.
  unfoldable pub map_pair : {p : ℕ} → Cell (Res p × Res p) → ℕ → ℕ → ℕ → Pair
  map_pair M z x k =
      cond (ltb k a.1) (record { re = (M x (2 * k) z).0.val; im = (M x (2 * k + 1) z).0.val })
      (record { re = 0; im = 0 })

  abbrev pub map_place : J → ℕ
  map_place x = (x.2 * rows + x.0) * (2 * columns) + x.1

  -- the place of a point's number: on a plane that is not stored, that of its image under the group's first operation
  -- but the identity
  abbrev pub density_place : J → ℕ
  density_place x = map_place (point_image a (point_operation g a x) x)

  module _ (m : ℕ) where
    unfoldable pub pack_map : Cell (Value m) → List ℕ
    pack_map M = volume_of (map_pair M)

    unfoldable pub map_in : List ℕ → Cell (Value m)
    map_in v x y z = value m (get_or v (density_place (x, y, z)) 0) 0

  -- The numbers that a factor at (h, k, l), k from 0 to B, is read from: one in pair 0 of an alternating line, none in
  -- the zero pairs of Pa.
  abbrev pub pair_numbers : (w h k : ℕ) → List ℕ
  pair_numbers w h k = 2 * pair_place w h k ∷ (2 * pair_place w h k + 1) ∷ []

  abbrev pub line_numbers : Kind → (h k l : ℕ) → List ℕ
  line_numbers plain h k l = pair_numbers l h k
  line_numbers hermitian h k l = []
  line_numbers antihermitian h k l = []
  line_numbers alternating h k l =
      cond (eqb l 0) (2 * pair_place 0 h k ∷ [])
      (cond (eqb l a.2) ((2 * pair_place 0 h k + 1) ∷ []) (pair_numbers (min l (2 * a.2 - l)) h k))
  line_numbers symmetric h k l = pair_numbers (min l (2 * a.2 - l)) h k
  line_numbers antisymmetric h k l = cond (eqb l 0 || eqb l a.2) [] (pair_numbers (min l (2 * a.2 - l)) h k)

  unfoldable pub numbers_read : J → List ℕ
  numbers_read j =
      cond (leb j.1 a.1) (line_numbers (line_kind g j.0) j.0 j.1 j.2)
      (line_numbers (line_kind g (neg_i a.0 j.0)) (neg_i a.0 j.0) (neg_i a.1 j.1) (neg_i a.2 j.2))

-- ---- The map of a cell of factors and the factors of a map: the paper's triple sums over the whole cell.

module _ (m : ℕ) (a : J) where
  -- at (x, y, z) the sum over all h, k, l of F(h, k, l) e(hx/N1) e(ky/N2) e(lz/N3)
  abbrev pub map_of : Cell (Value m) → Cell (Value m)
  map_of F = C.map_of (field m) (axis m a.0) (axis m a.1) (axis m a.2) F

  -- at (h, k, l) the sum over all points of the value times e(-hx/N1) e(-ky/N2) e(-lz/N3), divided by N1 N2 N3
  abbrev pub factors_of : Cell (Value m) → Cell (Value m)
  factors_of M = C.factors_of (field m) (conj m) (axis m a.0) (axis m a.1) (axis m a.2) M
