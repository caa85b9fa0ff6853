-- What the loops add up: squares of neighbouring numbers, rows and layers.
use mathlib.Core.Path.{◌≡◌, refl, sym, ◌∙◌, ap, ap₂}
use mathlib.Core.Bool.{Bool, true, false}
use mathlib.Core.List.{List}
use Prim.Native.Nat.{ℕ, suc, ◌+◌, ◌*◌, ◌-◌, ◌/◌, ◌<◌, ◌≤◌}
use native.Mathlib.Nat as N
use native.Mathlib.Omega.{arith}
use lib.ListN.{get_or, length}
use Rattle.algebra.specs.ring.Ring.{sum, residue, residues}
use Rattle.algebra.specs.cells.Cell.{J, Group, planes}
use Rattle.algebra.proofs.ring.Laws.{along}
use Rattle.algebra.proofs.ring.ResidueRing.{residue_add, residue_mul}
use Rattle.numbers.specs.Value.{prime, IsModulus, Residue, ring}
use Rattle.numbers.specs.Bounds.{res}
use Rattle.numbers.proofs.Primes.{prime_most}
use Rattle.numbers.proofs.Residues.{res_by, val_small, below_by}
use Rattle.slices.specs.Pairs.{Below}
use Rattle.cell.specs.declared.operations.UnitCell.{UnitCell}
use Rattle.cell.specs.Volume.{rows, pair_place}
use Rattle.cell.specs.Operations.{cell_group, cell_halves}
use Rattle.cell.specs.TestSteps.{IsVolume}
use Rattle.cell.proofs.StoredFactors.{pair_inside}
use Rattle.power.specs.PowerSteps.{layer_twice, layer_power, stored_power, squares, row_power}

-- residues of any modulus are below the greater prime
pub below_most : {m : ℕ} {v : List ℕ} → IsModulus m → Below (prime m) v → Below 302399 v
below_most is small = record { each = λ k. omega (arith, small.each k, prime_most is) }

-- a row lies in the volume
pub row_inside : {cell : UnitCell} {v : List ℕ} → IsVolume cell v → (w h : ℕ) → w < planes (cell_group cell) (cell.n3 / 2) → h < cell.n1 → 2 * pair_place (cell_group cell) (cell_halves cell) w h (cell.n2 / 2) + 2 ≤ length v
row_inside {cell} {v} vol w h lw lh = omega (arith, (pair_inside vol w h (cell.n2 / 2) lw lh (omega arith)).inside)

-- ---- squares

pub squares_none : (m : ℕ) (v : List ℕ) (start : ℕ) → res m 0 ≡ squares m v start 0
unfolding squares sum residues
squares_none m v start = refl

pub squares_next : (m : ℕ) (v : List ℕ) (start i total y : ℕ) → res m total ≡ squares m v start i → y ≡ get_or v (start + i) 0 * get_or v (start + i) 0 → res m (total + y) ≡ squares m v start (i + 1)
unfolding squares sum
squares_next m v start i total y e f =
    residue_add (prime m) total y ∙ ap₂ (ring m).add e (ap (res m) f ∙ residue_mul (prime m) _ _) ∙ along (squares m v start) (suc i) (i + 1) (omega arith)

-- the sums of a row, reduced
module _ (g : Group) (a : J) (m : ℕ) (v : List ℕ) (w h : ℕ) where
  pub map_row_sum : {start n r : ℕ} (total : ℕ) → start ≡ 2 * pair_place g a w h 0 → n ≡ 2 * a.1 → res m total ≡ squares m v start n → r ≡ (res m total).val → r ≡ (row_power g a m v true w h).val
  unfolding row_power
  map_row_sum total es en e er = er ∙ ap (λ x. x.val) (e ∙ ap₂ (squares m v) es en)

  pub factor_row_sum : {p q s n r : ℕ} (first last inner : ℕ) → p ≡ pair_place g a w h 0 → q ≡ pair_place g a w h a.1 → s ≡ pair_place g a w h 1 → n ≡ 2 * (a.1 - 1)
      → res m first ≡ squares m v (2 * p) 2 → res m last ≡ squares m v (2 * q) 2 → res m inner ≡ squares m v (2 * s) n → r ≡ (res m (first + last + (inner + inner))).val → r ≡ (row_power g a m v false w h).val
  unfolding row_power
  factor_row_sum first last inner ep eq es en e0 e1 e2 er =
      er ∙ ap (λ x. x.val)
      (residue_add (prime m) _ _
      ∙ ap₂ (ring m).add
      (residue_add (prime m) _ _ ∙ ap₂ (ring m).add (e0 ∙ ap (λ p. squares m v (2 * p) 2) ep) (e1 ∙ ap (λ p. squares m v (2 * p) 2) eq))
      (residue_add (prime m) _ _ ∙ ap (λ x. (ring m).add x x) (e2 ∙ ap₂ (λ p n. squares m v (2 * p) n) es en)))

-- a loop that adds residues: what it holds is the sum of the first n
pub record Adding (m : ℕ) (f : ℕ → Residue m) (n total : ℕ) : Type 0 where
  pub added : total ≡ (sum (ring m) n f).val

module _ {m : ℕ} {f : ℕ → Residue m} where
  pub adding_start : Adding m f 0 0
  unfolding sum residues residue
  adding_start = record { added = sym (N.zero-mod (prime m)) }

  module _ {n total : ℕ} (i : Adding m f n total) where
    pub adding_small : total < prime m
    adding_small = rw i.added (val_small m (sum (ring m) n f))

    module _ {x : ℕ} (e : x ≡ (f n).val) where
      pub item_small : x < prime m
      item_small = below_by m (f n) e

      pub adding_next : {r : ℕ} → r ≡ ((ring m).add (res m total) (res m x)).val → Adding m f (n + 1) r
      unfolding sum
      adding_next h = record {
        added = h ∙ ap (λ y. y.val) (ap₂ (ring m).add (res_by m (sum (ring m) n f) i.added) (res_by m (f n) e)) ∙ along (λ k. (sum (ring m) k f).val) (suc n) (n + 1) (omega arith);
      }

    pub adding_done : {count : ℕ} → n ≡ count → total ≡ (sum (ring m) count f).val
    adding_done l = i.added ∙ ap (λ k. (sum (ring m) k f).val) l

-- a layer's rows, once or twice
module _ (g : Group) (a : J) (m : ℕ) (v : List ℕ) (density : Bool) (w : ℕ) {total : ℕ} (e : total ≡ (sum (ring m) (rows g a) (λ h. row_power g a m v density w h)).val) where
  pub layer_once : layer_twice density g a.2 w ≡ false → total ≡ (layer_power g a m v density w).val
  unfolding layer_power
  layer_once f = rw f e

  pub layer_twofold : {r : ℕ} → layer_twice density g a.2 w ≡ true → r ≡ ((ring m).add (res m total) (res m total)).val → r ≡ (layer_power g a m v density w).val
  unfolding layer_power
  layer_twofold f h = rw f (h ∙ ap (λ y. ((ring m).add y y).val) (res_by m (sum (ring m) (rows g a) (λ h. row_power g a m v density w h)) e))

-- all layers
pub layers_added : (g : Group) (a : J) (m : ℕ) (v : List ℕ) (density : Bool) {total : ℕ} → total ≡ (sum (ring m) (planes g a.2) (λ w. layer_power g a m v density w)).val → total ≡ (stored_power g a m v density).val
unfolding stored_power
layers_added g a m v density e = e
