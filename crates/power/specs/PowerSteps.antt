-- The two powers over the stored numbers, as the code adds them: the squares of each row, each layer once or twice, as
-- often as it stands in the cell.
use Rattle.std.specs.Prelude.{◌+◌, ◌*◌, ◌-◌}
use Rattle.algebra.specs.Prelude.{Bool, true, false, ℕ, List, get_or}
use Rattle.algebra.specs.ring.Ring.{Ops, sum}
use Rattle.algebra.specs.fourier.Halves.{doubled, between}
use Rattle.algebra.specs.cells.Cell.{J, Group, P1, P2₁, Pm, Pa, P2₁2₁2₁}
use Rattle.numbers.specs.Value.{Residue, ring}
use Rattle.numbers.specs.Bounds.{res}
use Rattle.cell.specs.Volume.{layers, rows, pair_place}

-- Layer w stands twice in the cell. Of a map it is the plane z = w, in P2₁ and P2₁2₁2₁ each with another; of
-- factors the pairs w of the lines along l, and pair 0 of an alternating line holds two of its numbers, each of which
-- stands once.
abbrev pub layer_twice : (ofMap : Bool) → Group → (A w : ℕ) → Bool
layer_twice ofMap P1 A w = false
layer_twice true P2₁ A w = true
layer_twice false P2₁ A w = between A w
layer_twice ofMap Pm A w = between A w
layer_twice ofMap Pa A w = between A w
layer_twice true P2₁2₁2₁ A w = true
layer_twice false P2₁2₁2₁ A w = between A w

module _ (m : ℕ) (v : List ℕ) where
  abbrev pub square_at : ℕ → Residue m
  square_at j = (ring m).mul (res m (get_or v j 0)) (res m (get_or v j 0))

  -- the squares of n numbers from a place on
  unfoldable pub squares : (start n : ℕ) → Residue m
  squares start n = sum (ring m) n (λ j. square_at (start + j))

module _ (g : Group) (a : J) (m : ℕ) (v : List ℕ) where
  -- A row of a map is its N2 numbers. A row of factors is its pairs k = 0 .. B: those between stand for k and -k.
  unfoldable pub row_power : (ofMap : Bool) (w h : ℕ) → Residue m
  row_power true w h = squares m v (2 * pair_place g a w h 0) (2 * a.1)
  row_power false w h =
      (ring m).add
      ((ring m).add (squares m v (2 * pair_place g a w h 0) 2) (squares m v (2 * pair_place g a w h a.1) 2))
      (doubled (ring m) true (squares m v (2 * pair_place g a w h 1) (2 * (a.1 - 1))))

  unfoldable pub layer_power : (ofMap : Bool) (w : ℕ) → Residue m
  layer_power ofMap w =
      doubled (ring m) (layer_twice ofMap g a.2 w) (sum (ring m) (rows g a) (λ h. row_power ofMap w h))

  unfoldable pub stored_power : (ofMap : Bool) → Residue m
  stored_power ofMap = sum (ring m) (layers g a) (λ w. layer_power ofMap w)
