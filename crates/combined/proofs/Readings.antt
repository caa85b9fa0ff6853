-- A point of a combined map that the tests let pass: it lies in the cell, and its number in the map.
use mathlib.Core.Path.{◌≡◌, refl, sym, ◌∙◌, ap}
use mathlib.Core.Bool.{true}
use mathlib.Core.List.{List, [], ◌∷◌}
use Prim.Native.Nat.{ℕ, ◌<◌}
use native.Mathlib.Omega.{arith}
use lib.Dec.{ltb}
use lib.ListN.{length}
use lib.IntN.{ℤ}
use borrow.Author.Tests.{leb-false, not-false, eqb-true, ltb-true}
use Rattle.algebra.specs.cells.Cell.{J, Inside, Cell}
use Rattle.refusals.specs.declared.Refusal.{Refusal}
use Rattle.refusals.specs.Refusals.{number_of, first, accepted}
use Rattle.refusals.proofs.Tests.{passed, fails}
use Rattle.cell.specs.declared.operations.UnitCell.{UnitCell}
use Rattle.cell.specs.declared.operations.Point.{Point}
use Rattle.cell.specs.Operations.{cell_group, cell_lengths, cell_halves, point_of, Sizes, PointWithin}
use Rattle.cell.specs.Volume.{group_of, volume_length}
use Rattle.header.specs.Header.{half_lengths}
use Rattle.header.proofs.Headers.{sizes_of, all_three}
use Rattle.combined.specs.CombinedMap.{count_of, pack_signed, Symmetric}
use Rattle.combined.specs.Reading.{count_tests, Counted, counted, not_counted, count_step, CountsRead}
use Rattle.combined.proofs.PackedMaps.{packed_point}

module _ (cell : UnitCell) (length : ℕ) (p : Point) (e : 0 ≡ first (count_tests cell.group (cell_lengths cell) length (point_of p))) where
  -- what the point's number is asked for with
  pub sound_reading : Sizes cell × PointWithin cell p × (length ≡ volume_length (cell_group cell) (cell_halves cell))
  sound_reading =
      let t = passed (count_tests cell.group (cell_lengths cell) length (point_of p)) tt e in
      let b = all_three (ltb p.x cell.n1) (ltb p.y cell.n2) (ltb p.z cell.n3) (not-false _ t.1.1.1.1.0) in
      (sizes_of (leb-false 5 _ t.0) (not-false _ t.1.0), record { x = ltb-true _ _ b.0; y = ltb-true _ _ b.1; z = ltb-true _ _ b.2 }, eqb-true _ _ (not-false _ t.1.1.1.0))

  pub inside_cell : Inside (cell_halves cell) (point_of p)
  inside_cell =
      let s = sound_reading in
      (omega (arith, s.1.x, s.0.first.even), omega (arith, s.1.y, s.0.second.even), omega (arith, s.1.z, s.0.third.even))

module _ (group : ℕ) (n : J) (v : List ℤ) (x : J) where
  pub count_refused : (r : Refusal) → number_of r ≡ first (count_tests group n (length v) x) → not_counted (number_of r) ≡ count_step group n v x
  unfolding count_step
  count_refused r e = fails r (first (count_tests group n (length v) x)) (counted (count_of (group_of group) (half_lengths n) v x)) not_counted e

  pub count_read : 0 ≡ first (count_tests group n (length v) x) → counted (count_of (group_of group) (half_lengths n) v x) ≡ count_step group n v x
  unfolding count_step
  count_read e = ap (λ (k : ℕ). accepted {O = Counted} k (counted (count_of (group_of group) (half_lengths n) v x)) not_counted) e

pub counts_read : CountsRead
counts_read = record {
  read = λ group n M x obeys e.
      let cell : UnitCell = record { group = group; n1 = n.0; n2 = n.1; n3 = n.2 } in
      let p : Point = record { x = x.0; y = x.1; z = x.2 } in
      let map = pack_signed (group_of group) (half_lengths n) M in
      sym (count_read group n map x e) ∙ ap counted (packed_point (group_of group) (half_lengths n) M obeys x (inside_cell cell (length map) p e));
  order = λ group n length x. refl;
}
