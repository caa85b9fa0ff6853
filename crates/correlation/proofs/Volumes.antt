-- The volumes of the call: the residues of a map are the map of a cell of real values, and products of packed factors are the packed products.
use mathlib.Core.Path.{◌≡◌, refl, sym, ◌∙◌, ap, ap₂}
use mathlib.Core.Bool.{cond}
use mathlib.Core.List.{List}
use Prim.Native.Nat.{ℕ, ◌+◌, ◌*◌, ◌<◌}
use native.Mathlib.Omega.{arith}
use lib.Dec.{ltb}
use lib.ListN.{get_or}
use lib.IntN.{ℤ, pos}
use borrow.Author.Tests.{lt-ltb, le-ltb}
use Rattle.algebra.specs.ring.Ring.{Ops}
use Rattle.algebra.specs.cells.Cell.{J, P1, Cell, planes}
use Rattle.algebra.proofs.ring.Laws.{along}
use Rattle.numbers.specs.declared.Pair.{Pair}
use Rattle.numbers.specs.Value.{prime, Value, field, conj, real, value_of, pair_of}
use Rattle.numbers.specs.Bounds.{res, zero_pair}
use Rattle.numbers.proofs.Residues.{val_res}
use Rattle.numbers.proofs.Values.{pair_path}
use Rattle.signed.specs.Integers.{residue_z}
use Rattle.slices.specs.Pairs.{at, tab, list_of}
use Rattle.slices.proofs.Pairs.{length_tab, at_tab}
use Rattle.slices.proofs.Rows.{row_col}
use Rattle.cell.specs.Volume.{rows, columns, volume_pairs, pair_place, map_place, map_pair, pack_map, pack_factors}
use Rattle.cell.specs.Exactly.{RealMap}
use Rattle.cell.proofs.LineReading.{packed_plain}
use Rattle.cell.proofs.Reading.{pairs_factors}
use Rattle.cell.proofs.VolumeLayout.{place_inside, is_volume, by_row, map_pair_low, map_pair_end}
use Rattle.combined.specs.CombinedMap.{count_of}
use Rattle.combined.proofs.PackedMaps.{count_stored}
use Rattle.correlation.specs.Steps.{residue_pair, correlated, residue_cell, count_cell}
use Rattle.correlation.proofs.Numerals.{residue_low}

-- ---- the residues of a map

pub real_residues : (a : J) (m : ℕ) (M : Cell ℤ) → RealMap P1 a m (residue_cell m M)
real_residues a m M x n = refl

module _ (h : J) (m : ℕ) (v : List ℤ) where
  abbrev p : ℕ
  p = prime m

  abbrev B : ℕ
  B = h.1

  pub filled : tab (volume_pairs P1 h) (residue_pair p B v) ≡ pack_map P1 h m (residue_cell m (count_cell h v))
  unfolding pack_map planes
  filled = is_volume P1 h (map_pair P1 h (residue_cell m (count_cell h v))) (tab (volume_pairs P1 h) (residue_pair p B v)) (length_tab (residue_pair p B v) (volume_pairs P1 h))
      (λ z x k lz lx lk.
      at_tab (residue_pair p B v) (volume_pairs P1 h) (pair_place P1 h z x k) (place_inside P1 h lz lx lk)
      ∙ in_row z x k lk
      ∙ by_row P1 h (λ k. cond (ltb k B) (pair z x k) zero_pair ≡ map_pair P1 h (residue_cell m (count_cell h v)) z x k)
      (λ k l. ap (λ t. cond t (pair z x k) zero_pair) (lt-ltb k B l) ∙ pair_path (number x (2 * k) z (2 * pair_place P1 h z x k) (omega arith) lz) (number x (2 * k + 1) z (2 * pair_place P1 h z x k + 1) (omega arith) lz) ∙ sym (map_pair_low P1 h m (residue_cell m (count_cell h v)) z x k l))
      (ap (λ t. cond t (pair z x B) zero_pair) (le-ltb B B (omega arith)) ∙ sym (map_pair_end P1 h m (residue_cell m (count_cell h v)) z x))
      k lk)
    where
      pair : ℕ → ℕ → ℕ → Pair
      pair z x k = record { re = residue_z p (get_or v (2 * pair_place P1 h z x k) (pos 0)); im = residue_z p (get_or v (2 * pair_place P1 h z x k + 1) (pos 0)) }

      in_row : (z x k : ℕ) → k < columns P1 h → residue_pair p B v (pair_place P1 h z x k) ≡ cond (ltb k B) (pair z x k) zero_pair
      in_row z x k lk = ap (λ t. cond (ltb t B) (pair z x k) zero_pair) (row_col (z * rows P1 h + x) lk).1

      number : (x y z q : ℕ) → q ≡ map_place P1 h (x, y, z) → z < 2 * h.2 → residue_z p (get_or v q (pos 0)) ≡ (residue_cell m (count_cell h v) x y z).0.val
      number x y z q e lz =
          along (λ k. residue_z p (get_or v k (pos 0))) q (map_place P1 h (x, y, z)) e ∙ ap (residue_z p) (sym (count_stored P1 h v x y z lz))
          ∙ sym (val_res m (residue_low m (count_of P1 h v (x, y, z))))

-- ---- products of packed factors

module _ (h : J) (m c : ℕ) (F G : Cell (Value m)) where
  abbrev pub product_cell : Cell (Value m)
  product_cell x y z = (field m).mul (real m (res m c)) ((field m).mul (conj m (F x y z)) (G x y z))

  pub multiplied : list_of (volume_pairs P1 h) (correlated m c (pack_factors P1 h m F) (pack_factors P1 h m G)) ≡ pack_factors P1 h m product_cell
  unfolding pack_factors planes
  multiplied = is_volume P1 h _ (list_of (volume_pairs P1 h) product) (length_tab (λ j. pair_of (product j)) (volume_pairs P1 h))
      (λ w x k lw lx lk.
      at_tab (λ j. pair_of (product j)) (volume_pairs P1 h) (pair_place P1 h w x k) (place_inside P1 h lw lx lk)
      ∙ ap pair_of (ap₂ (λ y z. (field m).mul (real m (res m c)) ((field m).mul (conj m y) z)) (read F w x k lw lx lk) (read G w x k lw lx lk) ∙ sym (packed_plain P1 h m (λ l. product_cell x k l) w lw)))
    where
      product : ℕ → Value m
      product = correlated m c (pack_factors P1 h m F) (pack_factors P1 h m G)

      read : (E : Cell (Value m)) (w x k : ℕ) → w < 2 * h.2 → x < rows P1 h → k < columns P1 h → value_of m (at (pack_factors P1 h m E) (pair_place P1 h w x k)) ≡ E x k w
      read E w x k lw lx lk = pairs_factors P1 h m E w x k lw lx lk ∙ packed_plain P1 h m (λ l. E x k l) w lw
