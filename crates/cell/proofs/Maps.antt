-- The map in a volume: the cell of real values that its numbers stand for, and refusal 14 of a map: the test passes exactly if some cell of real values that obeys the group
-- has this map with its zeros, and that cell is the one that is read. All this holds of every group of the theory.
use mathlib.Core.Path.{◌≡◌, refl, sym, ◌∙◌, ap, subst}
use mathlib.Core.Logic.{◌↔◌}
use mathlib.Core.Bool.{Bool, true, false, not}
use mathlib.Core.List.{List}
use Prim.Native.Nat.{ℕ, ◌+◌, ◌*◌, ◌<◌}
use native.Mathlib.Omega.{arith}
use lib.Dec.{T, eqb, eqb→eq, lt→ltb, ltb→lt}
use lib.ListN.{length, get_or}
use borrow.Author.Tests.{lt-ltb}
use Rattle.algebra.specs.orbits.Orbit.{Mem, Mem.first}
use Rattle.algebra.specs.orbits.OrbitLaws.{Consistent, cell_of}
use Rattle.algebra.specs.cells.Cell.{J, Inside, Sym, sym as operation, Group, P1, P2₁, Pm, Pa, P2₁2₁2₁, ops, point_image, implied_density, star, planes, point_operation, Cell, every, every_place, stored_point_t}
use Rattle.algebra.specs.cells.CellSteps.{map_acts}
use Rattle.algebra.specs.cells.CellPlaces.{StoredPoint}
use Rattle.algebra.specs.cells.Cell as Cell
use Rattle.algebra.proofs.ring.Bool.{and_l, and_r, and_i, imply_iff, every_at, every_by}
use Rattle.algebra.proofs.orbits.Orbits as O
use Rattle.algebra.proofs.cells.CellSym.{point_one, point_inside, density_one}
use Rattle.algebra.proofs.cells.CellGroup.{map_action, map_closed, point_operation_in, point_operation_stored, point_operation_plain}
use Rattle.algebra.proofs.cells.CellTests.{Positive, every_place_at, every_place_by}
use Rattle.numbers.specs.Value.{prime, Value, field, conj, real, value}
use Rattle.numbers.proofs.Residues.{val_res, res_val}
use Rattle.numbers.proofs.Values.{field_ring, field_star}
use Rattle.slices.specs.Pairs.{Below}
use Rattle.cell.specs.Volume.{rows, layers, volume_length, map_place, pack_map, map_in}
use Rattle.cell.specs.Consistency.{point_agrees, row_ends, consistent_map}
use Rattle.cell.specs.Exactly.{RealMap, ObeysGroup, MapConsistent}
use Rattle.cell.proofs.VolumeLayout.{length_map, map_number, map_end, is_map}
use Rattle.cell.proofs.Tests.{true_iff, eq→eqb}

-- the group's own operations do not conjugate
abbrev plain_t : Sym → Bool
plain_t (operation c f g h p q r) = not c

pub ops_plain : {R : Type 0} (star' : R → R) (g : Group) (s : Sym) → Mem s (ops g) → (x : R) → implied_density star' s x ≡ x
unfolding every implied_density star
ops_plain star' g s ms x = plain s (every_at (ops g) plain_t s (tables g) ms)
  where
    tables : (g : Group) → T (every (ops g) plain_t)
    tables P1 = tt
    tables P2₁ = tt
    tables Pm = tt
    tables Pa = tt
    tables P2₁2₁2₁ = tt

    plain : (s : Sym) → T (plain_t s) → implied_density star' s x ≡ x
    plain (operation false f g h p q r) t = refl
    plain (operation true f g h p q r) t = absurd t

-- P1 has one operation, which every map obeys
pub obeys_one : (a : J) (m : ℕ) (M : Cell (Value m)) → ObeysGroup P1 a m M
obeys_one a m M s first x n = ap (Cell.at M) (point_one a x) ∙ sym (density_one (field_ring m) (field_star m) (Cell.at M x))
obeys_one a m M s (Rattle.algebra.specs.orbits.Orbit.later x9) x n = elim x9 [ ]

-- a point of a stored plane is read where it is
pub own_plane : (g : Group) (a x : J) → StoredPoint g a x → point_image a (point_operation g a x) x ≡ x
unfolding point_operation
own_plane g a x h = rw (lt-ltb x.2 (planes g a.2) h) (point_one a x)

module _ (g : Group) (a : J) (m : ℕ) where
  -- the value of a point's own number
  abbrev pub point_in : List ℕ → J → Value m
  point_in v x = value m (get_or v (map_place g a x) 0) 0

  pub map_read : (v : List ℕ) (x : J) → Cell.at (map_in g a m v) x ≡ cell_of (map_acts (field m) (conj m) a) (point_operation g a) (point_in v) x
  unfolding map_in cell_of map_acts
  map_read v x = sym (point_operation_plain (conj m) g a x _)

  -- the map of a cell of real values that obeys the group is read as that cell
  pub read_map : (M : Cell (Value m)) → RealMap g a m M → ObeysGroup g a m M → (x : J) → Inside a x → Cell.at (map_in g a m (pack_map g a m M)) x ≡ Cell.at M x
  unfolding map_in
  read_map M r o x n =
      let y = point_image a (point_operation g a x) x in
      let ny = point_inside a (point_operation g a x) x n in
      ap (λ q. value m q 0) (map_number g a m M y.0 y.1 y.2 ny.0 ny.1 (point_operation_stored g a x n))
      ∙ ap (real m) (res_val m _) ∙ sym (r y ny) ∙ o (point_operation g a x) (point_operation_in g a x) x n ∙ point_operation_plain (conj m) g a x _

  pub read_real : (v : List ℕ) → RealMap g a m (map_in g a m v)
  unfolding map_in
  read_real v x n = refl

module _ (g : Group) (a : J) (m : ℕ) (v : List ℕ) (len : length v ≡ volume_length g a) (small : Below (prime m) v) where
  points_consistent : T (every_place (rows g a) (2 * a.1) (layers g a) (point_agrees g a v)) → Consistent (map_acts (field m) (conj m) a) (Inside a) (StoredPoint g a) (ops g) (point_in g a m v)
  unfolding map_acts
  points_consistent t s ms x n hx hy =
      ap (λ q. value m q 0) (eqb→eq _ _ ((imply_iff (stored_point_t g a (point_image a s x)) _).0 (every_at (ops g) _ s (every_place_at (rows g a) (2 * a.1) (layers g a) (point_agrees g a v) x t n.0 n.1 hx) ms) (lt→ltb _ _ hy)))
      ∙ sym (ops_plain (conj m) g s ms _)

  -- what passes is the map that is read, with its zeros
  passing_map : T (consistent_map g a v) → ObeysGroup g a m (map_in g a m v) × (pack_map g a m (map_in g a m v) ≡ v)
  unfolding consistent_map map_acts map_in
  passing_map t = (obeys, sym (is_map g a m (map_in g a m v) v len numbers ends))
    where
      points : Bool
      points = every_place (rows g a) (2 * a.1) (layers g a) (point_agrees g a v)

      obeys : ObeysGroup g a m (map_in g a m v)
      obeys s ms x n =
          map_read g a m v (point_image a s x)
          ∙ O.consistent_obeys (map_action (field_ring m) (field_star m) a) (ops g) (map_closed (field_ring m) (field_star m) a g) (StoredPoint g a) (point_operation g a) (λ x n. point_operation_in g a x) (λ x n. point_operation_stored g a x n) (point_in g a m v) (points_consistent (and_l points _ t)) s ms x n
          ∙ ap (implied_density (conj m) s) (sym (map_read g a m v x))

      numbers : (x y z : ℕ) → x < rows g a → y < 2 * a.1 → z < layers g a → get_or v (map_place g a (x, y, z)) 0 ≡ (map_in g a m v x y z).0.val
      numbers x y z lx ly lz = ap (λ q. get_or v (map_place g a q) 0) (sym (own_plane g a (x, y, z) lz)) ∙ sym (val_res m (small.each _))

      ends : (x z : ℕ) → x < rows g a → z < layers g a → (get_or v (map_place g a (x, 2 * a.1, z)) 0 ≡ 0) × (get_or v (map_place g a (x, 2 * a.1 + 1, z)) 0 ≡ 0)
      ends x z lx lz =
          let e = every_place_at (rows g a) 1 (layers g a) (λ x. row_ends g a v x.2 x.0) (x, 0, z) (and_r points _ t) lx (omega arith) lz in
          (eqb→eq _ _ (and_l (eqb (get_or v (map_place g a (x, 2 * a.1, z)) 0) 0) _ e), eqb→eq _ _ (and_r (eqb (get_or v (map_place g a (x, 2 * a.1, z)) 0) 0) _ e))

-- every stored plane is one of the cell's
pub layers_fit : (g : Group) (a : J) → 0 < a.2 → (z : ℕ) → z < layers g a → z < 2 * a.2
unfolding planes
layers_fit P1 a pos z h = h
layers_fit P2₁ a pos z h = omega arith
layers_fit Pm a pos z h = omega arith
layers_fit Pa a pos z h = omega arith
layers_fit P2₁2₁2₁ a pos z h = omega arith

module _ (g : Group) (a : J) (long : Positive a) (m : ℕ) where
  -- cells that are equal inside have one map
  pub map_cong : (M L : Cell (Value m)) → ((x : J) → Inside a x → Cell.at M x ≡ Cell.at L x) → pack_map g a m M ≡ pack_map g a m L
  map_cong M L e = is_map g a m L (pack_map g a m M) (length_map g a m M)
      (λ x y z lx ly lz. map_number g a m M x y z lx ly lz ∙ ap (λ q. q.0.val) (e (x, y, z) (lx, ly, layers_fit g a long.2 z lz)))
      (map_end g a m M)

  map_passes : (M : Cell (Value m)) → ObeysGroup g a m M → T (consistent_map g a (pack_map g a m M))
  unfolding consistent_map
  map_passes M o =
      and_i (every_place (rows g a) (2 * a.1) (layers g a) (point_agrees g a (pack_map g a m M))) _
      (every_place_by _ _ _ _ (λ x lx ly lz. every_by (ops g) _ (λ s ms. (imply_iff (stored_point_t g a (point_image a s x)) _).1 (λ t. eq→eqb (same s ms x (lx, ly, layers_fit g a long.2 x.2 lz) lz (ltb→lt _ _ t))))))
      (every_place_by _ _ _ _ (λ x lx ly lz. let e = map_end g a m M x.0 x.2 lx lz in and_i (eqb (get_or (pack_map g a m M) (map_place g a (x.0, 2 * a.1, x.2)) 0) 0) _ (eq→eqb e.0) (eq→eqb e.1)))
    where
      number : (x : J) → Inside a x → StoredPoint g a x → get_or (pack_map g a m M) (map_place g a x) 0 ≡ (Cell.at M x).0.val
      number x n h = map_number g a m M x.0 x.1 x.2 n.0 n.1 h

      same : (s : Sym) → Mem s (ops g) → (x : J) → Inside a x → StoredPoint g a x → StoredPoint g a (point_image a s x) → get_or (pack_map g a m M) (map_place g a (point_image a s x)) 0 ≡ get_or (pack_map g a m M) (map_place g a x) 0
      same s ms x n hx hy = number (point_image a s x) (point_inside a s x n) hy ∙ ap (λ q. q.0.val) (o s ms x n ∙ ops_plain (conj m) g s ms _) ∙ sym (number x n hx)

  module _ (v : List ℕ) (len : length v ≡ volume_length g a) (small : Below (prime m) v) where
    pub map_consistent : (consistent_map g a v ≡ true) ↔ MapConsistent g a m v
    map_consistent = (
      λ e. let p = passing_map g a m v len small ((true_iff _).0 e) in (map_in g a m v, read_real g a m v, p.0, p.1),
      λ f. (true_iff _).1 (subst (λ u. T (consistent_map g a u)) f.3 (map_passes f.0 f.2)),
    )

    -- that cell is the one that is read
    pub consistent_map_read : consistent_map g a v ≡ true → RealMap g a m (map_in g a m v) × ObeysGroup g a m (map_in g a m v) × (pack_map g a m (map_in g a m v) ≡ v)
    consistent_map_read e = let p = passing_map g a m v len small ((true_iff _).0 e) in (read_real g a m v, p.0, p.1)
