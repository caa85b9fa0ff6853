-- Refusals 14 and 24 over any values with an equality test, as tests of what is stored of a cell.
use Rattle.std.specs.Prelude.{Bool, suc, ◌*◌}
use Rattle.algebra.specs.ring.Ring.{Ops}
use Rattle.algebra.specs.cells.Cell.{J, Group, ops, full, image_of, point_image, span, planes, implied_value}
use Rattle.algebra.specs.cells.Cell.{implied_density, imply, every, every_place, stored_t, stored_point_t}

module _ {R : Type 0} (𝓞 : Ops R) (conj : R → R) (eq : R → R → Bool) (g : Group) (a : J) where
  -- 14, of packed factors, and of a map: every stored image has the implied value
  unfoldable pub consistent_factors_t : (J → R) → Bool
  consistent_factors_t b =
      every_place (2 * a.0) (suc a.1) (span g a.2)
      (λ j. every (full g)
      (λ s. imply (stored_t g a (image_of a s j))
      (eq (b (image_of a s j)) (implied_value 𝓞 conj s j (b j)))))

  unfoldable pub consistent_map_t : (J → R) → Bool
  consistent_map_t m =
      every_place (2 * a.0) (2 * a.1) (planes g a.2)
      (λ x. every (ops g)
      (λ s. imply (stored_point_t g a (point_image a s x))
      (eq (m (point_image a s x)) (implied_density conj s (m x)))))

  -- 24: all that is stored of the orbit is zero
  unfoldable pub zero_t : (J → R) → J → Bool
  zero_t b j = every (full g) (λ s. imply (stored_t g a (image_of a s j)) (eq (b (image_of a s j)) 𝓞.zer))
