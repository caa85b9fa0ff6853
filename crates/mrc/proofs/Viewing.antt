-- The points of a file where the header's own numbers have them, and the densities that floats cannot hold.
use mathlib.Core.Path.{◌≡◌, refl, sym, ◌∙◌, ap, subst}
use mathlib.Core.Logic.{◌↔◌}
use mathlib.Core.Bool.{Bool, true, false, ◌&&◌, not, cond}
use mathlib.Core.List.{List}
use Prim.Native.Nat.{ℕ, zero, suc, ◌+◌, ◌*◌, ◌<◌, ◌≤◌}
use native.Mathlib.Omega.{arith}
use borrow.Author.Tests.{leb-false, not-false}
use lib.Dec.{T, leb, ltb}
use lib.ListN.{length, get_or}
use lib.IntN.{ℤ, pos, nat_abs}
use lib.Signed.{lt_z}
use lib.Ieee.{Float, binary32, of_bits}
use lib.Ieee.Exact.{HasValue}
use lib.Ieee.Bits.{of_bits-to_bits, to_bits-lt}
use lib.Ieee.Fits.{of_int-fits}
use Rattle.algebra.specs.cells.Cell.{Cell}
use Rattle.algebra.proofs.ring.Laws.{along}
use Rattle.refusals.specs.Refusals.{first, accepted}
use Rattle.refusals.proofs.Tests.{first_append, passed}
use Rattle.cell.specs.declared.operations.UnitCell.{UnitCell}
use Rattle.cell.specs.Operations.{cell_group, cell_halves, Sizes}
use Rattle.output.specs.Output.{little_endian}
use Rattle.combined.specs.CombinedMap.{pack_signed, Symmetric}
use Rattle.combined.proofs.PackedMaps.{packed_point}
use Rattle.mrc.specs.Floats.{float_of, bits, exact_limit}
use Rattle.mrc.specs.HeaderRead.{word_in, Words}
use Rattle.mrc.specs.Ranges.{lesser, greater, density, of_cell, Attained}
use Rattle.mrc.specs.Mrc.{mrc_bytes, point_place, all_exact, shape_tests, fill_tests, mrc_tests}
use Rattle.mrc.specs.Viewed.{float_from, point_in, Shows, PointsViewed, Exceeds, FloatLimit}
use Rattle.mrc.specs.declared.parameters.CellParameters.{CellParameters}
use Rattle.mrc.proofs.WholeFloats.{whole_value}
use Rattle.mrc.proofs.Densities.{exact_density, exact_by_ends, cell_range, inside_of}
use Rattle.mrc.proofs.Bytes.{points_placed}
use Rattle.mrc.proofs.Reading.{little_back, header_read}
use Rattle.mrc.proofs.Outcome.{Shaped, shape_passed}

-- ---- a call that is accepted

module _ (cell : UnitCell) (v : List ℤ) (parameters : CellParameters) (room : ℕ) (none : 0 ≡ first (mrc_tests cell v parameters room)) where
  abbrev file : List ℕ
  file = mrc_bytes cell v parameters

  words : Words cell file (of_cell cell v lesser) (of_cell cell v greater)
  words = header_read.words cell v parameters room none

  shaped : Shaped cell v parameters
  shaped = shape_passed cell v parameters (zero_left (first (shape_tests cell (length v) parameters)) (first (fill_tests cell v parameters room)) (none ∙ first_append (shape_tests cell (length v) parameters) (fill_tests cell v parameters room) tt))
    where
      zero_left : (m n : ℕ) → 0 ≡ accepted m n (λ k. k) → 0 ≡ m
      zero_left zero n e = omega arith
      zero_left (suc m) n e = e

  exact : T (all_exact cell v)
  exact = subst T (sym (not-false (all_exact cell v) (passed (mrc_tests cell v parameters room) tt none).1.1.1.1.1.0)) tt

  -- the float at a point's place is the one of its density
  module _ (x y z : ℕ) (lx : x < cell.n1) (ly : y < cell.n2) (lz : z < cell.n3) where
    abbrev n : ℤ
    n = density cell v (x, y, z)

    place : point_in file x y z ≡ point_place cell x y z
    place =
        (λ i. 1024 + words.extended 24 (omega arith) (omega arith) i + 4 * (x + words.nx i * (y + words.ny i * z)))
        ∙ shift (4 * (x + cell.n1 * (y + cell.n2 * z)))
      where
        shift : (k : ℕ) → 1024 + 0 + k ≡ 1024 + k
        shift k = omega arith

    byte : (i : ℕ) → i < 4 → get_or file (point_place cell x y z + i) 0 ≡ get_or (little_endian 4 (bits (float_of n))) i 0
    byte i l = points_placed cell v parameters x y z i lx ly lz l

    float_at : (p : ℕ) → p ≡ point_place cell x y z → float_from file p ≡ float_of n
    float_at p e =
        let b0 = along (λ (q : ℕ). get_or file q 0) p (point_place cell x y z + 0) (omega (arith, e)) ∙ byte 0 (omega arith) in
        let b1 = along (λ (q : ℕ). get_or file q 0) (p + 1) (point_place cell x y z + 1) (omega (arith, e)) ∙ byte 1 (omega arith) in
        let b2 = along (λ (q : ℕ). get_or file q 0) (p + 2) (point_place cell x y z + 2) (omega (arith, e)) ∙ byte 2 (omega arith) in
        let b3 = along (λ (q : ℕ). get_or file q 0) (p + 3) (point_place cell x y z + 3) (omega (arith, e)) ∙ byte 3 (omega arith) in
        ap (of_bits binary32) ((λ i. b0 i + 256 * (b1 i + 256 * (b2 i + 256 * b3 i))) ∙ little_back (bits (float_of n)) (omega (arith, to_bits-lt binary32 (float_of n) (of_int-fits binary32 n))))
        ∙ of_bits-to_bits binary32 (float_of n) (of_int-fits binary32 n)

    point_value : HasValue (float_from file (point_in file x y z)) (lt_z n (pos 0)) (nat_abs n) 1
    point_value =
        let low : nat_abs n ≤ exact_limit = exact_density cell v shaped.sizes exact x y z lx ly lz in
        subst (λ (f : Float). HasValue f (lt_z n (pos 0)) (nat_abs n) 1) (sym (float_at (point_in file x y z) place)) (whole_value n (omega (arith, low)))

  shows : (M : Cell ℤ) → ((x y z : ℕ) → x < cell.n1 → y < cell.n2 → z < cell.n3 → density cell v (x, y, z) ≡ M x y z) → Shows file M
  shows M same = record {
    value = λ x y z lx ly lz.
        let a : x < cell.n1 = omega (arith, lx, words.nx) in
        let b : y < cell.n2 = omega (arith, ly, words.ny) in
        let c : z < cell.n3 = omega (arith, lz, words.nz) in
        subst (λ (k : ℤ). HasValue (float_from file (point_in file x y z)) (lt_z k (pos 0)) (nat_abs k) 1) (same x y z a b c) (point_value x y z a b c);
  }

pub points_viewed : PointsViewed
points_viewed = record {
  each = λ cell M obeys parameters room none.
      let v = pack_signed (cell_group cell) (cell_halves cell) M in
      let s = shaped cell v parameters room none in
      shows cell v parameters room none M (λ x y z lx ly lz. packed_point (cell_group cell) (cell_halves cell) M obeys (x, y, z) (inside_of cell v s.sizes x y z lx ly lz));
}

-- ---- 30

module _ (cell : UnitCell) (v : List ℤ) (sizes : Sizes cell) where
  abbrev lo : ℤ
  lo = of_cell cell v lesser

  abbrev hi : ℤ
  hi = of_cell cell v greater

  attained_above : (m : ℤ) → Attained cell v m → exact_limit < nat_abs m → Exceeds cell v
  attained_above m p l = record {
    x = p.x;
    y = p.y;
    z = p.z;
    x_inside = p.x_inside;
    y_inside = p.y_inside;
    z_inside = p.z_inside;
    above = subst (λ (k : ℤ). exact_limit < nat_abs k) (sym p.there) l;
  }

  -- where floats do not hold all, one of the two ends is above
  exceeds_of : all_exact cell v ≡ false → Exceeds cell v
  exceeds_of e = by (leb (nat_abs lo) exact_limit) (leb (nat_abs hi) exact_limit) refl refl (exact_by_ends cell v sizes ∙ e)
    where
      by : (a b : Bool) → leb (nat_abs lo) exact_limit ≡ a → leb (nat_abs hi) exact_limit ≡ b → a && b ≡ false → Exceeds cell v
      by false b p q r = attained_above lo (cell_range cell v sizes).least_at (leb-false _ _ p)
      by true false p q r = attained_above hi (cell_range cell v sizes).greatest_at (leb-false _ _ q)
      by true true p q r = absurd (subst T r tt)

  not_exact : Exceeds cell v → all_exact cell v ≡ false
  not_exact p = by (all_exact cell v) refl
    where
      by : (b : Bool) → all_exact cell v ≡ b → b ≡ false
      by false e = refl
      by true e = absurd (omega (arith, p.above, exact_density cell v sizes (subst T (sym e) tt) p.x p.y p.z p.x_inside p.y_inside p.z_inside))

-- of the two tests, 30 and 18
abbrev answer : (exact short : Bool) → ℕ
answer exact short = cond (not exact) 30 (cond short 18 0)

which : (exact short : Bool) → answer exact short ≡ 30 → exact ≡ false
which false short e = refl
which true false e = absurd (omega (arith, e))
which true true e = absurd (omega (arith, e))

limit_exactly : (cell : UnitCell) (v : List ℤ) (parameters : CellParameters) (room : ℕ) → 0 ≡ first (shape_tests cell (length v) parameters) → (first (mrc_tests cell v parameters room) ≡ 30) ↔ Exceeds cell v
unfolding first
limit_exactly cell v parameters room shape = (
  λ e. exceeds_of cell v sizes (which (all_exact cell v) (ltb room (length (mrc_bytes cell v parameters))) (sym rest ∙ e)),
  λ p. rest ∙ ap (λ (b : Bool). answer b (ltb room (length (mrc_bytes cell v parameters)))) (not_exact cell v sizes p),
)
  where
    sizes : Sizes cell
    sizes = (shape_passed cell v parameters shape).sizes

    rest : first (mrc_tests cell v parameters room) ≡ first (fill_tests cell v parameters room)
    rest =
        first_append (shape_tests cell (length v) parameters) (fill_tests cell v parameters room) tt
        ∙ ap (λ (n : ℕ). accepted n (first (fill_tests cell v parameters room)) (λ k. k)) (sym shape)

pub float_limit : FloatLimit
float_limit = record { exactly = limit_exactly }
