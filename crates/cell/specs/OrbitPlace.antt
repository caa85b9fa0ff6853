-- The place of an orbit in a volume: the least of the places that its stored images have. Each orbit has one, and no
-- two orbits have the same.
use Rattle.std.specs.Prelude.{◌≡◌, ◌↔◌, ◌&&◌, ◌+◌, ◌*◌, ◌<◌, ◌≤◌, ◌∷◌}
use Rattle.algebra.specs.Prelude.{true, cond, eqb, ltb, ℕ, List, []}
use Rattle.algebra.specs.lines.Kinds.{Kind, Kind.plain, Kind.hermitian, Kind.antihermitian, Kind.alternating}
use Rattle.algebra.specs.lines.Kinds.{Kind.symmetric, Kind.antisymmetric}
use Rattle.algebra.specs.cells.Cell.{J, Inside, Sym, Group, full, image_of, same_orbit, stored_t}
use Rattle.cell.specs.Volume.{line_kind, pair_place, volume_length}

module _ (g : Group) (a : J) where
  -- The place of a stored index is that of the first number of its pair; l = A of an alternating line has the second
  -- number of pair 0. The pairs that an antisymmetric line leaves out have their places too.
  abbrev pub place_in_line : Kind → (h k l : ℕ) → ℕ
  place_in_line plain h k l = 2 * pair_place g a l h k
  place_in_line hermitian h k l = 2 * pair_place g a l h k
  place_in_line antihermitian h k l = 2 * pair_place g a l h k
  place_in_line alternating h k l = cond (eqb l a.2) (2 * pair_place g a 0 h k + 1) (2 * pair_place g a l h k)
  place_in_line symmetric h k l = 2 * pair_place g a l h k
  place_in_line antisymmetric h k l = 2 * pair_place g a l h k

  unfoldable pub number_place : J → ℕ
  number_place j = place_in_line (line_kind g j.0) j.0 j.1 j.2

  -- the lower of the place of i, where i is stored, and of another place
  unfoldable pub lower : J → ℕ → ℕ
  lower i place = cond (stored_t g a i && ltb (number_place i) place) (number_place i) place

  unfoldable pub least_place : List Sym → J → ℕ → ℕ
  least_place [] j place = place
  least_place (s ∷ l) j place = least_place l j (lower (image_of a s j) place)

  -- beyond the volume there is no place: each is lower
  abbrev pub orbit_place : J → ℕ
  orbit_place j = least_place (full g) j (volume_length g a)

-- An orbit's place lies in the volume, and two indices have the same exactly if they are of one orbit.
pub record SamePlace : Type 0 where
  pub inside : (g : Group) (a : J) →
      (1 ≤ a.0) × (1 ≤ a.1) × (1 ≤ a.2) →
      (j : J) →
      Inside a j →
      orbit_place g a j < volume_length g a
  pub same : (g : Group) (a : J) →
      (1 ≤ a.0) × (1 ≤ a.1) × (1 ≤ a.2) →
      (i j : J) →
      Inside a i → Inside a j →
      (orbit_place g a i ≡ orbit_place g a j) ↔ (same_orbit g a i j ≡ true)
