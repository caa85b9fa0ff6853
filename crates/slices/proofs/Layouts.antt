-- The lines of a box of pairs along each of its three indices: they lie inside, and have no place in common.
use mathlib.Core.Path.{◌≡◌, sym, ap, ◌∙◌}
use Prim.Native.Nat.{ℕ, ◌+◌, ◌*◌, ◌/◌, ◌%◌, ◌<◌, ◌≤◌}
use native.Mathlib.Omega.{arith}
use Rattle.slices.specs.Sweep.{Disjoint, along_second, along_last}
use Rattle.slices.proofs.Rows.{row_end, row_col, row_inj, row_split, block_inj, block_end}

pub disjoint_last : (n count : ℕ) {len : ℕ} → 2 * (count * n) ≤ len → Disjoint (along_last n count) len
disjoint_last n count b = record {
  inside = λ y i ly li. omega (arith, row_end n ly);
  apart = λ y z i j ly lz li lj e. row_inj y z li lj e;
}

pub disjoint_second : (blocks n k : ℕ) {len : ℕ} → 2 * (blocks * n * k) ≤ len → Disjoint (along_second blocks n k) len
disjoint_second blocks n k b = record {
  inside = λ y i ly li. let w = row_split blocks ly in omega (arith, block_end w.0 li w.1);
  apart = λ y z i j ly lz li lj e.
      let w = row_split blocks ly in
      let v = row_split blocks lz in
      let q = block_inj (y / k) (z / k) li lj w.1 v.1 e in
      (sym w.2 ∙ ap (λ (x : ℕ). x * k + y % k) q.0 ∙ ap (λ (x : ℕ). z / k * k + x) q.2 ∙ v.2, q.1);
}

-- what `gather` and `scatter` ask of a line, where its start is that of its block and its column
pub fits_second : (blocks n k : ℕ) {len y : ℕ} → 2 * (blocks * n * k) ≤ len → y < blocks * k → 2 * (y / k * (n * k) + y % k + n * k) + 2 ≤ len + 2 * k
fits_second blocks n k b l = let w = row_split blocks l in omega (arith, row_end (n * k) w.0, w.1)

-- the line of block a and column c
pub place_second : (blocks n k a c : ℕ) → c < k → (j : ℕ) → (along_second blocks n k).place (a * k + c) j ≡ (a * n + j) * k + c
place_second blocks n k a c l j = let w = row_col a l in λ x. (w.0 x * n + j) * k + w.1 x
