-- The steps of the tests of refusal 14: what the code finds of one image, of a line's ends and of a row is what the test says of it.
use mathlib.Core.Path.{◌≡◌, refl, sym, ◌∙◌, ap, subst}
use mathlib.Core.Bool.{Bool, true, false, ◌&&◌}
use mathlib.Core.List.{List}
use Prim.Native.Nat.{ℕ, ◌+◌, ◌*◌, ◌/◌, ◌%◌, ◌<◌, ◌≤◌}
use native.Mathlib.Omega.{arith}
use lib.ListN.{get_or}
use lib.Dec.{T, leb, leb→le, ltb, ltb→lt, eqb}
use borrow.Author.Tests.{lt-ltb, le-ltb, eq-eqb}
use Rattle.algebra.specs.lines.Kinds.{Kind.antisymmetric}
use Rattle.algebra.specs.cells.Cell.{J, Inside, Sym, Sym.sym as op, one, Group, span, image_of, point_image, implied_value, below, every_place, imply, stored_t}
use Rattle.algebra.proofs.ring.Bool.{and_l, and_r, imply_iff, below_by}
use Rattle.algebra.proofs.cells.CellSym.{square, image_one, image_image, point_one, implied_one, implied_image, implied_twice}
use Rattle.algebra.proofs.cells.CellTests.{every_place_by}
use Rattle.numbers.specs.declared.Pair.{Pair}
use Rattle.numbers.specs.Value.{Value, field, conj, value_of, pair_of}
use Rattle.numbers.proofs.Values.{value_by, field_ring, field_star}
use Rattle.slices.specs.Pairs.{at}
use Rattle.cell.specs.Volume.{group_of, line_kind, first_pair, pair_place, map_place, rows, columns, layers}
use Rattle.cell.specs.Consistency.{same_value, implied, pair_is_zero, zero_ends, point_agrees, row_ends, consistent_map}
use Rattle.cell.specs.declared.operations.Index.{Index}
use Rattle.cell.specs.declared.operations.UnitCell.{UnitCell}
use Rattle.cell.specs.Operations.{cell_group, cell_halves, triple_of, Sizes, Within}
use Rattle.cell.specs.TestSteps.{IsStored, same_pair, is_zero, image_agrees, point_image_agrees, empty_ends, empty_if_left_out, left_out_empty, row_agrees}
use Rattle.cell.proofs.Tests.{true_iff}
use Rattle.cell.proofs.LineKinds.{ends_left_out, odd_antisymmetric, even_other}
use Rattle.cell.proofs.PlaceLaws.{even_is, odd_is}
use Rattle.algebra.proofs.cells.Passing.{below_step, below_one, below_cong, by_rows}
use Rattle.cell.proofs.VolumeLayout.{number_even, number_odd}
use Rattle.cell.proofs.Reading.{same_iff, line_at}
use Rattle.cell.proofs.OperationLaws.{by_group}

-- ---- stored indices

module _ {cell : UnitCell} (s : Sizes cell) where
  span_most : (n : ℕ) → n < 5 → span (group_of n) (cell.n3 / 2) ≤ cell.n3
  unfolding span
  span_most = let l = s.third in by_group (λ g. span g (cell.n3 / 2) ≤ cell.n3) (omega arith) (omega arith) (omega arith) (omega arith) (omega arith)

  pub stored_within : {j : Index} → IsStored cell j → Within cell j
  stored_within i = record { h = i.h; k = omega (arith, i.k, s.second.low); l = omega (arith, i.l, span_most cell.group s.known) }

  pub stored_by : {j : Index} → Within cell j → {t : Bool} → t ≡ stored_t (cell_group cell) (cell_halves cell) (triple_of j) → t ≡ true → IsStored cell j
  stored_by {j} w e t =
      let both = (true_iff _).0 (sym e ∙ t) in
      record {
        h = w.h;
        k = leb→le _ _ (and_l (leb j.k (cell.n2 / 2)) _ both);
        l = ltb→lt _ _ (and_r (leb j.k (cell.n2 / 2)) _ both);
      }

-- ---- an image of a factor

module _ (g : Group) (a : J) (m : ℕ) (v : List ℕ) (j : J) where
  -- pairs that the code holds for two values
  same_values : {x y : Pair} (X Y : Value m) → x ≡ pair_of X → y ≡ pair_of Y → same_pair x y ≡ same_value X Y
  unfolding pair_of
  same_values X Y e f = λ i. same_pair (e i) (f i)

  -- the test, of an index that is known to be the image
  abbrev at_image : Sym → J → Bool
  at_image s i = imply (stored_t g a i) (same_value (line_at g a m v i) (implied g a m s j (line_at g a m v j)))

  module _ (s : Sym) {i : J} (e : i ≡ image_of a s j) {t : Bool} (found : t ≡ stored_t g a i) where
    pub image_tested : t ≡ true → {x y z : Pair} → x ≡ pair_of (line_at g a m v j) → y ≡ pair_of (line_at g a m v i) → z ≡ pair_of (implied_value (field m) (conj m) s j (value_of m x))
        → {r : Bool} → r ≡ same_pair y z → r ≡ image_agrees g a m v j s
    image_tested p ex ey ez er = er ∙ same_values _ _ ey (ez ∙ ap (λ q. pair_of (implied_value (field m) (conj m) s j q)) (value_by m _ ex))
        ∙ ap (λ b. imply b (same_value (line_at g a m v i) (implied g a m s j (line_at g a m v j)))) (sym (sym found ∙ p)) ∙ ap (at_image s) e

    pub image_skipped : t ≡ false → true ≡ image_agrees g a m v j s
    image_skipped p = ap (λ b. imply b (same_value (line_at g a m v i) (implied g a m s j (line_at g a m v j)))) (sym (sym found ∙ p)) ∙ ap (at_image s) e

  -- the identity implies the value itself
  pub identity_agrees : image_agrees g a m v j one ≡ true
  identity_agrees = (true_iff _).1 ((imply_iff (stored_t g a (image_of a one j)) (same_value (line_at g a m v (image_of a one j)) (implied g a m one j (line_at g a m v j)))).1 (λ t. (same_iff m _ _).1 (ap (line_at g a m v) (image_one a j) ∙ sym (implied_one (field_ring m) (field_star m) j (line_at g a m v j)))))

  -- an operation is its own inverse: if it agrees at the image of j, it agrees at j
  pub agrees_back : (s : Sym) → Inside a j → T (stored_t g a j) → image_agrees g a m v (image_of a s j) s ≡ true → image_agrees g a m v j s ≡ true
  agrees_back s n t e =
      let i = image_of a s j in
      let back : image_of a s i ≡ j = image_image a s s j n ∙ ap (λ u. image_of a u j) (square s) ∙ image_one a j in
      let same = (imply_iff (stored_t g a (image_of a s i)) (same_value (line_at g a m v (image_of a s i)) (implied g a m s i (line_at g a m v i)))).0 ((true_iff _).0 e) (subst (λ y. T (stored_t g a y)) (sym back) t) in
      let there : line_at g a m v j ≡ implied g a m s j (line_at g a m v i) = ap (line_at g a m v) (sym back) ∙ (same_iff m _ _).0 same ∙ implied_image (field_ring m) (field_star m) a s s j (line_at g a m v i) n in
      (true_iff _).1 ((imply_iff (stored_t g a i) (same_value (line_at g a m v i) (implied g a m s j (line_at g a m v j)))).1
      (λ u. (same_iff m _ _).1 (sym (ap (implied g a m s j) there ∙ implied_twice (field_ring m) (field_star m) s j (line_at g a m v i)))))

-- ---- the ends of a line that leaves them out

module _ (g : Group) (a : J) (v : List ℕ) (h n : ℕ) where
  pub has_ends : (line_kind g h ≡ antisymmetric → ⊥) → true ≡ below n (λ k. empty_if_left_out g a v h k)
  has_ends z = sym ((true_iff _).1 (below_by n _ (λ k l. (imply_iff (ltb 0 (first_pair (line_kind g h))) (empty_ends g a v h k)).1 (λ t. absurd (z ((ends_left_out (line_kind g h)).0 t))))))

  pub ends_left : {r : Bool} → line_kind g h ≡ antisymmetric → r ≡ below n (λ k. empty_ends g a v h k) → r ≡ below n (λ k. empty_if_left_out g a v h k)
  ends_left e f = f ∙ below_cong n _ _ (λ k l. ap (λ K. imply (ltb 0 (first_pair K)) (empty_ends g a v h k)) (sym e))

pub odd_kind : (g : Group) → line_kind g 1 ≡ antisymmetric → (h : ℕ) → h % 2 ≡ 1 → line_kind g h ≡ antisymmetric
odd_kind g e h o = odd_antisymmetric g 1 h e (odd_is h (omega arith))

module _ (g : Group) (a : J) (v : List ℕ) where
  abbrev pub row_empty : ℕ → Bool
  row_empty h = below (columns g a) (λ k. empty_if_left_out g a v h k)

  -- what the code found of an odd row; an even row has no such lines
  pub odd_row : line_kind g 1 ≡ antisymmetric → (h : ℕ) → h % 2 ≡ 1 → {r : Bool} → r ≡ below (columns g a) (λ k. empty_ends g a v h k) → r ≡ row_empty h
  odd_row e h o f = ends_left g a v h (columns g a) (odd_kind g e h o) f

  pub even_row : (h : ℕ) → h % 2 ≡ 0 → true ≡ row_empty h
  even_row h z = has_ends g a v h (columns g a) (even_other g h (even_is h z))

  pub two_rows : (h : ℕ) → h % 2 ≡ 1 → below h row_empty ≡ true → row_empty h ≡ true → below (h + 2) row_empty ≡ true
  two_rows h o passed e =
      subst (λ (q : ℕ). below q row_empty ≡ true) {x = h + 1 + 1} (omega arith)
      (below_step row_empty (h + 1) (below_step row_empty h passed e) (sym (even_row (h + 1) (omega arith))))

module _ (g : Group) (a : J) (m : ℕ) (v : List ℕ) where
  abbrev pub ends_test : Bool
  ends_test = every_place (rows g a) (columns g a) 1 (λ j. zero_ends g a m v j.0 j.1)

  pub ends_tested : {r : Bool} → r ≡ left_out_empty g a v → r ≡ ends_test
  unfolding every_place pair_is_zero at
  ends_tested f = f ∙ below_cong (rows g a) _ _ (λ h lh. below_cong (columns g a) _ _ (λ k lk. sym (below_one (λ l. zero_ends g a m v h k))))

  -- a group has such lines at h = 1 or nowhere
  pub ends_none : (line_kind g 1 ≡ antisymmetric → ⊥) → true ≡ ends_test
  ends_none z = sym ((true_iff _).1 (every_place_by _ _ _ _ (λ j h k q. (imply_iff (ltb 0 (first_pair (line_kind g j.0))) _).1 (λ t. absurd (z (odd_antisymmetric g j.0 1 ((ends_left_out (line_kind g j.0)).0 t) (odd_is 1 (λ e. omega arith))))))))

-- ---- an image of a point, and a row

third : {i j : J} → i ≡ j → i.2 ≡ j.2
third e = λ t. (e t).2

-- the plane of an image does not depend on x and y
same_plane : (a : J) (x y z : ℕ) (s : Sym) → (point_image a s (x, y, z)).2 ≡ (point_image a s (0, 0, z)).2
unfolding point_image
same_plane a x y z (op c f g h p q r) = refl

module _ (g : Group) (a : J) (v : List ℕ) where
  module _ (x : J) where
    abbrev at_point : J → Bool
    at_point i = imply (ltb i.2 (layers g a)) (eqb (get_or v (map_place g a i) 0) (get_or v (map_place g a x) 0))

    module _ (s : Sym) {i : J} (e : i ≡ point_image a s x) where
      pub point_tested : i.2 < layers g a → {p q : ℕ} → p ≡ get_or v (map_place g a i) 0 → q ≡ get_or v (map_place g a x) 0 → eqb p q ≡ point_image_agrees g a v x s
      point_tested l ep eq = (λ t. eqb (ep t) (eq t)) ∙ ap (λ b. imply b (eqb (get_or v (map_place g a i) 0) (get_or v (map_place g a x) 0))) (sym (lt-ltb _ _ l)) ∙ ap at_point e

      pub point_skipped : layers g a ≤ i.2 → true ≡ point_image_agrees g a v x s
      point_skipped l = ap (λ b. imply b (eqb (get_or v (map_place g a i) 0) (get_or v (map_place g a x) 0))) (sym (le-ltb _ _ l)) ∙ ap at_point e

    pub identity_point : point_image_agrees g a v x one ≡ true
    identity_point = (true_iff _).1 ((imply_iff (ltb (point_image a one x).2 (layers g a)) (eqb (get_or v (map_place g a (point_image a one x)) 0) (get_or v (map_place g a x) 0))).1 (λ t. (true_iff _).0 (eq-eqb _ _ (ap (λ y. get_or v (map_place g a y) 0) (point_one a x)))))

  pub plane_skipped : (x y z : ℕ) (s : Sym) {i : J} → i ≡ point_image a s (0, 0, z) → layers g a ≤ i.2 → true ≡ point_image_agrees g a v (x, y, z) s
  plane_skipped x y z s {i} e l = point_skipped (x, y, z) s {i = point_image a s (x, y, z)} refl (omega (arith, same_plane a x y z s, third e, l))

  pub row_ends_lem : (z x : ℕ) {p : Pair} {r : Bool} → p ≡ at v (pair_place g a z x a.1) → r ≡ is_zero p → r ≡ row_ends g a v z x
  row_ends_lem z x e f = f ∙ ap is_zero e ∙ sym (λ t. eqb (number_even g a v x a.1 z t) 0 && eqb (number_odd g a v x a.1 z t) 0)

  pub map_tested : below (layers g a) (λ z. below (rows g a) (λ x. row_agrees g a v z x)) ≡ consistent_map g a v
  unfolding consistent_map
  map_tested = by_rows (rows g a) (2 * a.1) (layers g a) (point_agrees g a v) (row_ends g a v)
