-- The correlation modulo both primes, combined, is the correlation.
use mathlib.Core.Path.{◌≡◌, refl, ◌∙◌, ap, ap₂}
use mathlib.Core.Bool.{true}
use mathlib.Core.List.{List}
use Prim.Native.Nat.{ℕ, ◌*◌, ◌≤◌}
use native.Mathlib.Omega.{arith}
use lib.ListN.{get_or}
use lib.IntN.{ℤ, nat_abs}
use Rattle.algebra.specs.cells.Cell.{J, Inside, P1, Cell, planes}
use Rattle.algebra.specs.cells.Cell as Cell
use Rattle.algebra.proofs.cells.CellTests.{Positive}
use Rattle.numbers.specs.Value.{prime}
use Rattle.numbers.proofs.Residues.{val_res}
use Rattle.signed.specs.Integers.{residue_z}
use Rattle.cell.specs.Volume.{map_place, density_place, pack_map}
use Rattle.cell.specs.Consistency.{consistent_map}
use Rattle.cell.proofs.VolumeLayout.{length_map, map_number, below_map}
use Rattle.cell.proofs.Maps.{own_plane, map_consistent, obeys_one}
use Rattle.combined.specs.Chinese.{combined_numbers}
use Rattle.combined.specs.CombinedMap.{limit}
use Rattle.combined.proofs.CombinedMaps.{restored}
use Rattle.correlation.specs.Correlation.{correlation, magnitudes, largest}
use Rattle.correlation.specs.Steps.{residue_cell, correlation_cell}
use Rattle.correlation.proofs.Numerals.{residue_low}
use Rattle.correlation.proofs.Volumes.{real_residues}
use Rattle.correlation.proofs.Limits.{correlation_most}

module _ (h : J) (long : Positive h) (m : ℕ) (M : Cell ℤ) where
  residues_consistent : consistent_map P1 h (pack_map P1 h m (residue_cell m M)) ≡ true
  residues_consistent = (map_consistent P1 h long m (pack_map P1 h m (residue_cell m M)) (length_map P1 h m (residue_cell m M)) (below_map P1 h m (residue_cell m M))).1 (residue_cell m M, real_residues h m M, obeys_one h m (residue_cell m M), refl)

  residue_number : (x : J) → Inside h x → get_or (pack_map P1 h m (residue_cell m M)) (density_place P1 h x) 0 ≡ residue_z (prime m) (Cell.at M x)
  unfolding planes
  residue_number x n =
      ap (λ q. get_or (pack_map P1 h m (residue_cell m M)) (map_place P1 h q) 0) (own_plane P1 h x n.2)
      ∙ map_number P1 h m (residue_cell m M) x.0 x.1 x.2 n.0 n.1 n.2 ∙ val_res m (residue_low m (Cell.at M x))

pub combined_correlation : (h : J) → Positive h → (a b : List ℤ) → magnitudes h a * largest h b ≤ limit → {v w : List ℕ} → v ≡ pack_map P1 h 1 (residue_cell 1 (correlation_cell h a b)) → w ≡ pack_map P1 h 2 (residue_cell 2 (correlation_cell h a b))
    → combined_numbers v w ≡ correlation h a b
unfolding prime
combined_correlation h long a b within e f =
    ap₂ combined_numbers e f
    ∙ restored P1 h (pack_map P1 h 1 (residue_cell 1 M)) (pack_map P1 h 2 (residue_cell 2 M)) (length_map P1 h 1 (residue_cell 1 M)) long (length_map P1 h 2 (residue_cell 2 M)) (below_map P1 h 1 (residue_cell 1 M)) (below_map P1 h 2 (residue_cell 2 M))
    (residues_consistent h long 1 M) (residues_consistent h long 2 M) M small (residue_number h long 1 M) (residue_number h long 2 M)
  where
    M : Cell ℤ
    M = correlation_cell h a b

    small : (x : J) → Inside h x → nat_abs (Cell.at M x) ≤ limit
    small x n = omega (arith, correlation_most h a b x, within)
