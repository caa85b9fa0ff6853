-- Two maps of one cell combined: the count of a point, of its images, and the zeros that end each row; and the cell of whole numbers whose residues both maps are.
use mathlib.Core.Path.{◌≡◌, sym, ◌∙◌, ap, ap₂, subst}
use mathlib.Core.Bool.{true}
use mathlib.Core.List.{List}
use Prim.Native.Nat.{ℕ, ◌*◌, ◌+◌, ◌<◌, ◌≤◌}
use native.Mathlib.Omega.{arith}
use lib.ListN.{length, get_or}
use lib.IntN.{ℤ, pos, nat_abs}
use Rattle.algebra.specs.orbits.Orbit.{Mem}
use Rattle.algebra.specs.cells.Cell.{J, Inside, Sym, Group, Cell, ops, point_image, point_operation}
use Rattle.algebra.specs.cells.Cell as Cell
use Rattle.algebra.proofs.cells.CellSym.{point_inside}
use Rattle.algebra.proofs.cells.CellGroup.{point_operation_stored}
use Rattle.algebra.proofs.cells.CellTests.{Positive}
use Rattle.numbers.specs.Value.{prime, Value, conj}
use Rattle.numbers.proofs.Residues.{val_res}
use Rattle.signed.specs.Integers.{residue_z}
use Rattle.slices.specs.Pairs.{Below}
use Rattle.cell.specs.Volume.{layers, rows, volume_length, map_place, density_place, map_in}
use Rattle.cell.specs.Consistency.{consistent_map}
use Rattle.cell.proofs.VolumeLayout.{map_end}
use Rattle.cell.proofs.Maps.{ops_plain, layers_fit, consistent_map_read}
use Rattle.combined.specs.Chinese.{limit, combined, combined_numbers}
use Rattle.combined.specs.CombinedMap.{count_of, pack_signed, EndsInZeros}
use Rattle.combined.proofs.Remainders.{combined_only}
use Rattle.combined.proofs.Tables.{length_tabulate, get_d_tabulate}
use Rattle.combined.proofs.PackedMaps.{inside, is_packed}

module _ (g : Group) (a : J) where
  -- the number of a point lies in the volume
  pub density_inside : (x : J) → Inside a x → density_place g a x < volume_length g a
  density_inside x n = let m = point_inside a (point_operation g a x) x n in inside g a m.0 (omega (arith, m.1)) (point_operation_stored g a x n)

  -- ---- one map that passes as a map

  module _ (long : Positive a) (m : ℕ) (v : List ℕ) (len : length v ≡ volume_length g a) (small : Below (prime m) v) (passes : consistent_map g a v ≡ true) where
    -- the images of a point have its number
    pub same_number : (s : Sym) → Mem s (ops g) → (x : J) → Inside a x → get_or v (density_place g a (point_image a s x)) 0 ≡ get_or v (density_place g a x) 0
    unfolding map_in
    same_number s ms x n =
        sym (val_res m (small.each (density_place g a (point_image a s x))))
        ∙ ap (λ (q : Value m). q.0.val) ((consistent_map_read g a long m v len small passes).1 s ms x n ∙ ops_plain (conj m) g s ms (Cell.at (map_in g a m v) x))
        ∙ val_res m (small.each (density_place g a x))

    pub ends_zero : (x z : ℕ) → x < rows g a → z < layers g a → (get_or v (map_place g a (x, 2 * a.1, z)) 0 ≡ 0) × (get_or v (map_place g a (x, 2 * a.1 + 1, z)) 0 ≡ 0)
    ends_zero x z lx lz =
        subst (λ u. (get_or u (map_place g a (x, 2 * a.1, z)) 0 ≡ 0) × (get_or u (map_place g a (x, 2 * a.1 + 1, z)) 0 ≡ 0))
        (consistent_map_read g a long m v len small passes).2 (map_end g a m (map_in g a m v) x z lx lz)

  -- ---- two maps

  module _ (v w : List ℕ) (len : length v ≡ volume_length g a) where
    pub length_combined : length (combined_numbers v w) ≡ volume_length g a
    length_combined = length_tabulate (length v) (λ n. combined (get_or v n 0) (get_or w n 0)) ∙ len

    number_combined : (q : ℕ) → q < volume_length g a → get_or (combined_numbers v w) q (pos 0) ≡ combined (get_or v q 0) (get_or w q 0)
    number_combined q l = get_d_tabulate (length v) (λ n. combined (get_or v n 0) (get_or w n 0)) q (omega arith)

    pub count_combined : (x : J) → Inside a x → count_of g a (combined_numbers v w) x ≡ combined (get_or v (density_place g a x) 0) (get_or w (density_place g a x) 0)
    count_combined x n = number_combined (density_place g a x) (density_inside x n)

    module _ (long : Positive a) (len' : length w ≡ volume_length g a) (small : Below (prime 1) v) (small' : Below (prime 2) w) (passes : consistent_map g a v ≡ true) (passes' : consistent_map g a w ≡ true) where
      -- a point and its images have one count
      pub images_combined : (s : Sym) → Mem s (ops g) → (x : J) → Inside a x → count_of g a (combined_numbers v w) (point_image a s x) ≡ count_of g a (combined_numbers v w) x
      images_combined s ms x n =
          count_combined (point_image a s x) (point_inside a s x n)
          ∙ ap₂ combined (same_number long 1 v len small passes s ms x n) (same_number long 2 w len' small' passes' s ms x n)
          ∙ sym (count_combined x n)

      pub ends_combined : EndsInZeros g a (combined_numbers v w)
      ends_combined x z lx lz =
          let e = ends_zero long 1 v len small passes x z lx lz in
          let f = ends_zero long 2 w len' small' passes' x z lx lz in (
            number_combined _ (inside g a lx (omega arith) lz) ∙ ap₂ combined e.0 f.0 ∙ combined_only.zero,
            number_combined _ (inside g a lx (omega arith) lz) ∙ ap₂ combined e.1 f.1 ∙ combined_only.zero,
          )

      -- the residues of a cell of whole numbers within the limit give the cell back
      pub restored : (M : Cell ℤ) → ((x : J) → Inside a x → nat_abs (Cell.at M x) ≤ limit)
          → ((x : J) → Inside a x → get_or v (density_place g a x) 0 ≡ residue_z 86399 (Cell.at M x)) → ((x : J) → Inside a x → get_or w (density_place g a x) 0 ≡ residue_z 302399 (Cell.at M x))
          → combined_numbers v w ≡ pack_signed g a M
      unfolding prime
      restored M l e f = is_packed g a M (combined_numbers v w) length_combined (record { stored = λ x y z lx ly lz. counted (x, y, z) (lx, ly, layers_fit g a long.2 z lz); ends = ends_combined })
        where
          counted : (x : J) → Inside a x → count_of g a (combined_numbers v w) x ≡ Cell.at M x
          counted x n = count_combined x n ∙ sym (combined_only.only (get_or v (density_place g a x) 0) (get_or w (density_place g a x) 0) (small.each _) (small'.each _) (Cell.at M x) (record { first = sym (e x n); second = sym (f x n); near = l x n }))
