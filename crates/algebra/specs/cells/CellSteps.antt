-- The three passes of synthesis and of analysis, each along one axis, and what a cell of a group is.
use Rattle.std.specs.Prelude.{◌≡◌, ◌*◌}
use Rattle.algebra.specs.ring.Ring.{Ops, sum, dft}
use Rattle.algebra.specs.fourier.Axis.{Axis}
use Rattle.algebra.specs.orbits.Orbit.{Mem, Acts}
use Rattle.algebra.specs.cells.Cell.{J, Inside, Group, full, Cell, Sym, one, ◌·◌, same_j, at, image_of}
use Rattle.algebra.specs.cells.Cell.{point_image, implied_value, implied_density}

-- half the lengths of three axes
abbrev pub halves : {R : Type 0} → Axis R → Axis R → Axis R → J
halves X Y Z = (X.half, Y.half, Z.half)

module _ {R : Type 0} (𝓞 : Ops R) where
  -- synthesis, along l: (h, k, z); then along h: (x, k, z); then along k: the map
  unfoldable pub after_l : Axis R → Cell R → Cell R
  after_l Z F h k z = dft 𝓞 (2 * Z.half) Z.w (λ l. F h k l) z

  unfoldable pub after_h : Axis R → Cell R → Cell R
  after_h X T x k z = dft 𝓞 (2 * X.half) X.w (λ h. T h k z) x

  unfoldable pub after_k : Axis R → Cell R → Cell R
  after_k Y T x y z = dft 𝓞 (2 * Y.half) Y.w (λ k. T x k z) y

  -- the sum over a whole cell
  unfoldable pub total : (X Y Z : Axis R) → Cell R → R
  total X Y Z F = sum 𝓞 (2 * X.half) (λ h. sum 𝓞 (2 * Y.half) (λ k. sum 𝓞 (2 * Z.half) (λ l. F h k l)))

module _ {R : Type 0} (𝓞 : Ops R) (conj : R → R) where
  open 𝓞 use {mul as ◌⊗◌, zer as 𝟘}

  infixl 70 ◌⊗◌
  -- analysis, along k, then h, then l
  unfoldable pub back_k : Axis R → Cell R → Cell R
  back_k Y M x k z = Y.part ⊗ dft 𝓞 (2 * Y.half) (conj Y.w) (λ y. M x y z) k

  unfoldable pub back_h : Axis R → Cell R → Cell R
  back_h X T h k z = X.part ⊗ dft 𝓞 (2 * X.half) (conj X.w) (λ x. T x k z) h

  unfoldable pub back_l : Axis R → Cell R → Cell R
  back_l Z T h k l = Z.part ⊗ dft 𝓞 (2 * Z.half) (conj Z.w) (λ z. T h k z) l

  -- factors obey an operation at every index
  abbrev pub Obeys : J → Sym → Cell R → Type 0
  Obeys a s F = (j : J) → Inside a j → at F (image_of a s j) ≡ implied_value 𝓞 conj s j (at F j)

  -- obeys group and Friedel
  abbrev pub Lawful : J → Group → Cell R → Type 0
  Lawful a g F = (s : Sym) → Mem s (full g) → Obeys a s F

  -- the action on maps
  unfoldable pub map_acts : J → Acts Sym J R
  map_acts a =
      record {
        mul = ◌·◌;
        one = one;
        same = same_j;
        image = point_image a;
        implied = λ s j v. implied_density conj s v;
        zer = 𝟘;
      }
