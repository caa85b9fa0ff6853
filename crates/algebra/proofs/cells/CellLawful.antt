-- What obeying group and Friedel means: by the operations and Friedel's rule; as the papers write it; of the factors of a map; reading a point.
use mathlib.Core.Path.{◌≡◌, sym as inv, ◌∙◌, ap}
use mathlib.Core.Logic.{◌↔◌}
use mathlib.Core.List.{List, map}
use Prim.Native.Nat.{ℕ}
use Rattle.algebra.specs.ring.Ring.{Ops}
use Rattle.algebra.specs.ring.RingLaws.{CRing, Star}
use Rattle.algebra.specs.orbits.Orbit.{Mem, first}
use Rattle.algebra.specs.fourier.Axis.{Axis, AxisLaws}
use Rattle.algebra.specs.cells.Cell.{J, Inside, Sym, friedel, ◌·◌, Group, P1, P2₁, Pm, Pa, P2₁2₁2₁, ops, full, twice, image_of, point_image, flip, shifted, Cell, at, map_of, factors_of, star, implied_value, implied_density, MapObeys, point_operation}
use Rattle.algebra.specs.cells.CellSteps.{halves, Obeys, Lawful}
use Rattle.algebra.proofs.ring.Members.{mem_left, mem_right, mem_append, mem_map}
use Rattle.algebra.proofs.cells.CellSym as S
use Rattle.algebra.proofs.cells.CellOps.{obeys_map}
use Rattle.algebra.proofs.cells.CellSteps.{factors_obey}
use Rattle.algebra.proofs.cells.CellGroup.{point_operation_in, point_operation_plain}

-- what holds of the operations, and of Friedel with each, holds of all
all_twice : (l : List Sym) (P : Sym → Type 0) → ((s : Sym) → Mem s l → P s) → ((s : Sym) → Mem s l → P (friedel · s)) → (s : Sym) → Mem s (twice l) → P s
all_twice l P f g = mem_append l _ P f (mem_map (λ s. friedel · s) l P g)

pub ops_full : (g : Group) (s : Sym) → Mem s (ops g) → Mem s (full g)
ops_full g s m = mem_left (ops g) _ m

module _ {R : Type 0} {𝓞 : Ops R} {conj : R → R} {i : R} (𝓡 : CRing 𝓞) (𝓢 : Star 𝓞 conj i) where
  open 𝓞 use {add as ◌⊕◌, mul as ◌⊗◌, neg as ⊖◌, zer as 𝟘, one as 𝟙}
  open 𝓡 use {one_mul}

  infixl 65 ◌⊕◌
  infixl 70 ◌⊗◌
  infix 75 ⊖◌
  pub obeys_mul : (a : J) (s t : Sym) (F : Cell R) → Obeys 𝓞 conj a s F → Obeys 𝓞 conj a t F → Obeys 𝓞 conj a (s · t) F
  obeys_mul a s t F o q j n = ap (at F) (inv (S.image_image a s t j n)) ∙ o (image_of a t j) (S.image_inside a t j n) ∙ S.implied_image 𝓡 𝓢 a s t j _ n ∙ ap (implied_value 𝓞 conj s j) (q j n) ∙ S.implied_implied 𝓡 𝓢 s t j _

  -- group and Friedel
  pub lawful_iff : (a : J) (g : Group) (F : Cell R) → Lawful 𝓞 conj a g F ↔ (((s : Sym) → Mem s (ops g) → Obeys 𝓞 conj a s F) × Obeys 𝓞 conj a friedel F)
  lawful_iff a g F = (λ o. (λ s m. o s (ops_full g s m), o friedel (mem_right (ops g) _ (friedel_in g))), λ o. all_twice (ops g) (λ s. Obeys 𝓞 conj a s F) o.0 (λ s m. obeys_mul a friedel s F o.1 (o.0 s m)))
    where
      friedel_in : (g : Group) → Mem friedel (map (λ s. friedel · s) (ops g))
      friedel_in P1 = first
      friedel_in P2₁ = first
      friedel_in Pm = first
      friedel_in Pa = first
      friedel_in P2₁2₁2₁ = first

  -- the factors of a real map that obeys the operations
  module _ {half : R} {X Y Z : Axis R} {tx ty tz : ℕ → R} (𝓧 : AxisLaws 𝓞 conj i half X tx) (𝓨 : AxisLaws 𝓞 conj i half Y ty) (𝓩 : AxisLaws 𝓞 conj i half Z tz) where
    abbrev H : J
    H = halves X Y Z

    friedel_map : (M : Cell R) → ((x : J) → Inside H x → at M x ≡ conj (at M x)) → MapObeys conj H friedel M
    unfolding point_image implied_density star flip shifted
    friedel_map M r = r

    pub opened_lawful : (g : Group) (M : Cell R) → ((s : Sym) → Mem s (ops g) → MapObeys conj H s M) → ((x : J) → Inside H x → at M x ≡ conj (at M x)) → Lawful 𝓞 conj H g (factors_of 𝓞 conj X Y Z M)
    opened_lawful g M o r = (lawful_iff H g _).1 (λ s m. factors_obey 𝓡 𝓢 𝓧 𝓨 𝓩 s M (o s m), factors_obey 𝓡 𝓢 𝓧 𝓨 𝓩 friedel M (friedel_map M r))

    -- the map of a cell of the group obeys every operation, and is real
    pub map_lawful : (g : Group) (F : Cell R) → Lawful 𝓞 conj H g F → (s : Sym) → Mem s (full g) → MapObeys conj H s (map_of 𝓞 X Y Z F)
    map_lawful g F o s m = (obeys_map 𝓡 𝓢 𝓧 𝓨 𝓩 s F).0 (o s m)

    -- a point is read on a stored plane
    pub point_read : (g : Group) (F : Cell R) → Lawful 𝓞 conj H g F → (x : J) → Inside H x → at (map_of 𝓞 X Y Z F) x ≡ at (map_of 𝓞 X Y Z F) (point_image H (point_operation g H x) x)
    point_read g F o x n = inv (map_lawful g F o (point_operation g H x) (ops_full g _ (point_operation_in g H x)) x n ∙ point_operation_plain conj g H x _)
