-- The power of a map over its stored planes: a plane that is not stored has the numbers of a stored one, in another order.
use mathlib.Core.Path.{◌≡◌, sym, ◌∙◌, ap}
use mathlib.Core.Bool.{true}
use mathlib.Core.List.{List}
use Prim.Native.Nat.{ℕ, suc, ◌+◌, ◌*◌, ◌<◌, ◌≤◌}
use native.Mathlib.Omega.{arith}
use borrow.Author.Tests.{le-ltb}
use Rattle.algebra.specs.ring.Ring.{sum, residues}
use Rattle.algebra.specs.fourier.Halves.{doubled, between}
use Rattle.algebra.specs.cells.Cell.{J, Sym, sym as operation, Group, P1, P2₁, Pm, Pa, P2₁2₁2₁, Cell, xor, neg_i, half_i, flip, shifted, planes, plane_sym, point_image, point_operation}
use Rattle.algebra.proofs.ring.Laws.{along}
use Rattle.algebra.proofs.fourier.Sums.{sum_cong, sum_swap}
use Rattle.algebra.proofs.cells.CellAxis.{neg_pos, half_high}
use Rattle.numbers.specs.Value.{Residue, Value, ring, field}
use Rattle.numbers.proofs.Residues.{res_ring}
use Rattle.cell.specs.Volume.{layers, pair_place, map_place, density_place, map_in}
use Rattle.cell.proofs.Maps.{own_plane}
use Rattle.power.specs.Power.{over_cell, map_power}
use Rattle.power.specs.PowerSteps.{layer_twice, square_at, squares, row_power, layer_power, stored_power}
use Rattle.algebra.proofs.fourier.Halves.{sum_mirror, sum_twice, sum_flip, sum_shifted}
use Rattle.algebra.proofs.ring.Norms.{real_square, real_sum}

-- the operation of a point whose plane is not stored
first_of : (g : Group) (a x : J) → planes g a.2 ≤ x.2 → point_operation g a x ≡ plane_sym g
unfolding point_operation
first_of g a x l = rw (le-ltb x.2 (planes g a.2) l)

module _ (g : Group) (a : J) (m : ℕ) (v : List ℕ) where
  -- the square at a point's own place, and at the place where it is read
  abbrev own : ℕ → ℕ → ℕ → Residue m
  own x y z = square_at m v (map_place g a (x, y, z))

  abbrev read_at : ℕ → ℕ → ℕ → Residue m
  read_at x y z = square_at m v (density_place g a (x, y, z))

  abbrev plane : (ℕ → ℕ → ℕ → Residue m) → ℕ → Residue m
  plane f z = sum (ring m) (2 * a.0) (λ x. sum (ring m) (2 * a.1) (λ y. f x y z))

  -- over the images of a plane's points: those of another plane, each once
  image_plane : (s : Sym) (f : J → Residue m) (z : ℕ) → plane (λ x y z. f (point_image a s (x, y, z))) z ≡ plane (λ x y w. f (x, y, (point_image a s (0, 0, z)).2)) z
  unfolding point_image
  image_plane (operation c e k h p q r) f z =
      let w = shifted r a.2 (flip (xor c h) a.2 z) in
      sum_cong (res_ring m) (2 * a.0) _ _ (λ x l. sum_flip (res_ring m) (xor c k) a.1 (λ y. f (shifted p a.0 (flip (xor c e) a.0 x), shifted q a.1 y, w)) ∙ sum_shifted (res_ring m) q a.1 (λ y. f (shifted p a.0 (flip (xor c e) a.0 x), y, w)))
      ∙ sum_flip (res_ring m) (xor c e) a.0 (λ x. sum (ring m) (2 * a.1) (λ y. f (shifted p a.0 x, y, w)))
      ∙ sum_shifted (res_ring m) p a.0 (λ x. sum (ring m) (2 * a.1) (λ y. f (x, y, w)))

  stored_plane : (z : ℕ) → z < planes g a.2 → plane read_at z ≡ plane own z
  stored_plane z l = sum_cong (res_ring m) (2 * a.0) _ _ (λ x lx. sum_cong (res_ring m) (2 * a.1) _ _ (λ y ly. ap (λ q. square_at m v (map_place g a q)) (own_plane g a (x, y, z) l)))

  other_plane : (z w : ℕ) → planes g a.2 ≤ z → (point_image a (plane_sym g) (0, 0, z)).2 ≡ w → plane read_at z ≡ plane own w
  other_plane z w l e =
      sum_cong (res_ring m) (2 * a.0) _ _ (λ x lx. sum_cong (res_ring m) (2 * a.1) _ _ (λ y ly. ap (λ s. square_at m v (map_place g a (point_image a s (x, y, z)))) (first_of g a (x, y, z) l)))
      ∙ image_plane (plane_sym g) (λ q. square_at m v (map_place g a q)) z
      ∙ ap (λ w. plane own w) e

-- The planes of the whole cell. In P2₁ and P2₁2₁2₁ each stored plane stands with another of the second half, in Pm and Pa each but the first and the last with its mirror image.
module _ (g : Group) (a : J) (m : ℕ) (v : List ℕ) where
  by_halves : ((t : ℕ) → t < a.2 → t < planes g a.2) → ((t : ℕ) → t < a.2 → plane g a m v (read_at g a m v) (a.2 + t) ≡ plane g a m v (own g a m v) t)
      → sum (ring m) (2 * a.2) (plane g a m v (read_at g a m v)) ≡ sum (ring m) a.2 (λ z. doubled (ring m) true (plane g a m v (own g a m v) z))
  by_halves s o =
      sum_twice (res_ring m) a.2 _ (λ t l. o t l ∙ sym (stored_plane g a m v t (s t l)))
      ∙ sum_cong (res_ring m) a.2 _ _ (λ z l. ap (doubled (ring m) true) (stored_plane g a m v z (s z l)))

  by_mirror : 0 < a.2 → ((t : ℕ) → t < suc a.2 → t < planes g a.2) → ((t u : ℕ) → 0 < t → a.2 < u → u + t ≡ 2 * a.2 → plane g a m v (read_at g a m v) u ≡ plane g a m v (own g a m v) t)
      → sum (ring m) (2 * a.2) (plane g a m v (read_at g a m v)) ≡ sum (ring m) (suc a.2) (λ z. doubled (ring m) (between a.2 z) (plane g a m v (own g a m v) z))
  by_mirror pos s o =
      sum_mirror (res_ring m) a.2 _ pos (λ t u p h e. o t u p h e ∙ sym (stored_plane g a m v t (s t (omega arith))))
      ∙ sum_cong (res_ring m) (suc a.2) _ _ (λ z l. ap (doubled (ring m) (between a.2 z)) (stored_plane g a m v z (s z l)))

half_up : (c t : ℕ) → t < c → half_i c (c + t) ≡ t
half_up c t l = half_high c (c + t) (omega arith) (omega arith) ∙ omega arith

mirrored : (c t u : ℕ) → 0 < t → c < u → u + t ≡ 2 * c → neg_i c u ≡ t
mirrored c t u p h e = neg_pos c u (omega arith) (omega arith) ∙ omega arith

all_planes : (g : Group) (a : J) (m : ℕ) (v : List ℕ) → 0 < a.2
    → sum (ring m) (2 * a.2) (plane g a m v (read_at g a m v)) ≡ sum (ring m) (layers g a) (λ z. doubled (ring m) (layer_twice true g a.2 z) (plane g a m v (own g a m v) z))
unfolding planes point_image shifted flip
all_planes P1 a m v pos = sum_cong (res_ring m) (2 * a.2) _ _ (stored_plane P1 a m v)
all_planes P2₁ a m v pos = by_halves P2₁ a m v (λ t l. l) (λ t l. other_plane P2₁ a m v (a.2 + t) t (omega arith) (half_up a.2 t l))
all_planes Pm a m v pos = by_mirror Pm a m v pos (λ t l. l) (λ t u p h e. other_plane Pm a m v u t (omega arith) (mirrored a.2 t u p h e))
all_planes Pa a m v pos = by_mirror Pa a m v pos (λ t l. l) (λ t u p h e. other_plane Pa a m v u t (omega arith) (mirrored a.2 t u p h e))
all_planes P2₁2₁2₁ a m v pos = by_halves P2₁2₁2₁ a m v (λ t l. l) (λ t l. other_plane P2₁2₁2₁ a m v (a.2 + t) t (omega arith) (half_up a.2 t l))

-- the square of a number of the map
square_read : (g : Group) (a : J) (m : ℕ) (v : List ℕ) (x y z : ℕ) → ((field m).mul (map_in g a m v x y z) (map_in g a m v x y z)).0 ≡ read_at g a m v x y z
unfolding map_in residues
square_read g a m v x y z = real_square (res_ring m) _

-- the last axis first
pub sum_rotate : (m a b c : ℕ) (f : ℕ → ℕ → ℕ → Residue m) → sum (ring m) a (λ x. sum (ring m) b (λ y. sum (ring m) c (λ z. f x y z))) ≡ sum (ring m) c (λ z. sum (ring m) a (λ x. sum (ring m) b (λ y. f x y z)))
sum_rotate m a b c f = sum_cong (res_ring m) a _ _ (λ x l. sum_swap (res_ring m) b c (f x)) ∙ sum_swap (res_ring m) a c (λ x z. sum (ring m) b (λ y. f x y z))

-- the real part of a sum over the cell
pub real_cell : (m : ℕ) (a : J) (F : Cell (Value m)) → (over_cell m a F).0 ≡ sum (ring m) (2 * a.0) (λ h. sum (ring m) (2 * a.1) (λ k. sum (ring m) (2 * a.2) (λ l. (F h k l).0)))
real_cell m a F = real_sum (res_ring m) (2 * a.0) _ ∙ sum_cong (res_ring m) (2 * a.0) _ _ (λ h lh. real_sum (res_ring m) (2 * a.1) _ ∙ sum_cong (res_ring m) (2 * a.1) _ _ (λ k lk. real_sum (res_ring m) (2 * a.2) _))

pub map_stored : (g : Group) (a : J) (m : ℕ) (v : List ℕ) → 0 < a.2 → map_power g a m v ≡ (stored_power g a m v true).val
unfolding map_power stored_power layer_power row_power squares
map_stored g a m v pos =
    ap (λ x. x.val)
    (real_cell m a _
    ∙ sum_cong (res_ring m) (2 * a.0) _ _ (λ x lx. sum_cong (res_ring m) (2 * a.1) _ _ (λ y ly. sum_cong (res_ring m) (2 * a.2) _ _ (λ z lz. square_read g a m v x y z)))
    ∙ sum_rotate m (2 * a.0) (2 * a.1) (2 * a.2) (read_at g a m v)
    ∙ all_planes g a m v pos
    ∙ sum_cong (res_ring m) (layers g a) _ _ (λ z lz. ap (doubled (ring m) (layer_twice true g a.2 z)) (sum_cong (res_ring m) (2 * a.0) _ _ (λ x lx. sum_cong (res_ring m) (2 * a.1) _ _ (λ y ly. along (square_at m v) (map_place g a (x, y, z)) (2 * pair_place g a z x 0 + y) (omega arith))))))
