-- Refusal 24: a factor is zero exactly if the numbers that it is read from are zero, and on the packed factors of a cell F that obeys group and Friedel
-- the numbers of an orbit are zero exactly if F is zero at its index.
use mathlib.Core.Path.{◌≡◌, sym, ◌∙◌, subst}
use mathlib.Core.Logic.{◌↔◌}
use mathlib.Core.Bool.{true}
use mathlib.Core.List.{List, [], ◌∷◌}
use Prim.Native.Nat.{ℕ}
use lib.Dec.{T, eqb, eqb→eq}
use lib.ListN.{get_or}
use Rattle.algebra.specs.cells.Cell.{every, J, Inside, Sym, Group, one, full, image_of, Cell, factor_acts}
use Rattle.algebra.specs.orbits.Orbit.{Mem, first, later}
use Rattle.algebra.specs.cells.Cell as Cell
use Rattle.algebra.specs.cells.CellSteps.{Lawful}
use Rattle.algebra.proofs.ring.Bool.{every_at, every_by}
use Rattle.algebra.proofs.ring.Members.{none, mem_cons, mem_left, mem_right, mem_append}
use Rattle.algebra.proofs.orbits.Orbits.{orbit_zero}
use Rattle.algebra.proofs.cells.CellSym.{image_one, image_inside}
use Rattle.algebra.proofs.cells.CellGroup.{factor_action, closed}
use Rattle.algebra.proofs.cells.CellTests.{Positive}
use Rattle.numbers.specs.Value.{prime, Value, field, conj}
use Rattle.numbers.proofs.Primes.{prime_pos}
use Rattle.numbers.proofs.Values.{field_ring, field_star}
use Rattle.slices.specs.Pairs.{Below}
use Rattle.cell.specs.Volume.{numbers_read, factors_in, pack_factors}
use Rattle.cell.specs.Consistency.{orbit_numbers, orbit_free}
use Rattle.cell.specs.NumbersRead.{SameAt}
use Rattle.cell.proofs.Tests.{true_iff, eq→eqb}
use Rattle.cell.proofs.NumbersRead.{factor_from}
use Rattle.cell.proofs.Reading.{read_packed, below_factors}

-- the numbers at these places are zero: those of a volume of zeros
abbrev pub Free : List ℕ → List ℕ → Type 0
Free v places = T (every places (λ q. eqb (get_or v q 0) 0))

free_iff : (v places : List ℕ) → Free v places ↔ SameAt places v []
free_iff v places = (λ t q i. eqb→eq _ _ (every_at places _ q t i), λ s. every_by places _ (λ q i. eq→eqb (s q i)))

-- the numbers of an orbit: those of each image
module _ (g : Group) (a : J) (v : List ℕ) where
  orbit_same_iff : (l : List Sym) (j : J) → SameAt (orbit_numbers g a l j) v [] ↔ ((s : Sym) → Mem s l → SameAt (numbers_read g a (image_of a s j)) v [])
  unfolding orbit_numbers
  orbit_same_iff [] j = (λ t s i. none i, λ f q i. none i)
  orbit_same_iff (u ∷ l) j = let own = numbers_read g a (image_of a u j) in let r = orbit_same_iff l j in (
    λ t. mem_cons (λ s. SameAt (numbers_read g a (image_of a s j)) v []) (λ q i. t q (mem_left own _ i)) (r.0 (λ q i. t q (mem_right own _ i))),
    λ f. mem_append own _ (λ q. get_or v q 0 ≡ 0) (f u first) (r.1 (λ s i. f s (later i))),
  )

  pub orbit_free_iff : (l : List Sym) (j : J) → Free v (orbit_numbers g a l j) ↔ ((s : Sym) → Mem s l → Free v (numbers_read g a (image_of a s j)))
  orbit_free_iff l j = (
    λ t s i. (free_iff v _).1 ((orbit_same_iff l j).0 ((free_iff v _).0 t) s i),
    λ f. (free_iff v _).1 ((orbit_same_iff l j).1 (λ s i. (free_iff v _).0 (f s i))),
  )

module _ (g : Group) (a : J) (long : Positive a) (m : ℕ) where
  no_numbers : Below (prime m) []
  no_numbers = record { each = λ k. prime_pos m }

  -- a factor is zero exactly if the numbers that it is read from are
  pub factor_free : (v : List ℕ) → Below (prime m) v → (j : J) → Inside a j → Free v (numbers_read g a j) ↔ (Cell.at (factors_in g a m v) j ≡ (field m).zer)
  factor_free v small j n = let r = factor_from g a long m j n in (
    λ t. r.enough v [] ((free_iff v _).0 t) ∙ r.empty,
    λ e. (free_iff v _).1 (r.needed v [] small no_numbers (e ∙ sym r.empty)),
  )

  -- 24, asked of the packed factors of a cell of the group
  pub orbit_free_lem : (F : Cell (Value m)) → Lawful (field m) (conj m) a g F → (j : J) → Inside a j → (orbit_free g a (pack_factors g a m F) j ≡ true) ↔ (Cell.at F j ≡ (field m).zer)
  unfolding orbit_free factor_acts
  orbit_free_lem F o j n = (
    λ e. sym (read_packed g a long m F o j n) ∙ (free j n).0 (subst (λ i. Free v (numbers_read g a i)) (image_one a j) (orbit.0 ((true_iff _).0 e) one (closed (field_ring m) (field_star m) a g).has_one)),
    λ e. (true_iff _).1 (orbit.1 (λ s ms. (free (image_of a s j) (image_inside a s j n)).1 (read_packed g a long m F o (image_of a s j) (image_inside a s j n) ∙ (orbit_zero (factor_action (field_ring m) (field_star m) a) (full g) (closed (field_ring m) (field_star m) a g) s j (Cell.at F) n ms o).1 e))),
  )
    where
      v : List ℕ
      v = pack_factors g a m F

      free : (j : J) → Inside a j → Free v (numbers_read g a j) ↔ (Cell.at (factors_in g a m v) j ≡ (field m).zer)
      free = factor_free v (below_factors g a m F)

      orbit : Free v (orbit_numbers g a (full g) j) ↔ ((s : Sym) → Mem s (full g) → Free v (numbers_read g a (image_of a s j)))
      orbit = orbit_free_iff g a v (full g) j
