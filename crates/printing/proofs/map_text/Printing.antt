-- A job and a volume as long as it needs: its sizes, where its rows stand, and how long its text can be.
use mathlib.Core.Path.{◌≡◌}
use mathlib.Core.Bool.{true}
use mathlib.Core.List.{List}
use Prim.Native.Nat.{ℕ, zero, suc, ◌+◌, ◌*◌, ◌/◌, ◌<◌, ◌≤◌}
use native.Mathlib.Omega.{arith}
use lib.Dec.{ltb}
use lib.ListN.{length, get_or, length-append}
use borrow.Author.Tests.{ltb-false}
use Rattle.algebra.specs.cells.Cell.{below}
use Rattle.refusals.proofs.Tests.{passed}
use Rattle.cell.specs.Operations.{Sizes}
use Rattle.cell.specs.Volume.{layers, rows, columns, pair_place, volume_length}
use Rattle.cell.proofs.VolumeLayout.{place_inside}
use Rattle.cell.proofs.StoredFactors.{layers_most, number_place_lem}
use Rattle.job.specs.declared.Job.{Job}
use Rattle.algebra.proofs.cells.Passing.{passed_at}
use Rattle.job.specs.Job.{job_cell, group_in, halves, valid_job, header_of, axis_tests}
use Rattle.numbers.specs.Value.{prime, IsModulus}
use Rattle.job.proofs.Jobs.{valid_parts, valid_modulus, valid_sizes}
use Rattle.signed.specs.Integers.{centred}
use Rattle.output.specs.Output.{each}
use Rattle.output.specs.Written.{Ends}
use Rattle.printing.specs.Text.{value_text, head_line, row_line, map_text, row_residues, prints_residues}
use Rattle.printing.specs.Printable.{Fitting, Printable}
use Rattle.output.proofs.Decimals.{decimal_short, signed_short}

-- ---- lengths of texts

each_bound : (f : ℕ → List ℕ) (k : ℕ) → ((y : ℕ) → length (f y) ≤ k) → (n : ℕ) → length (each n f) ≤ n * k
unfolding each
each_bound f k h zero = omega arith
each_bound f k h (suc n) = rw length-append (omega (arith, each_bound f k h n, h n))

head_short : (j : Job) → length (head_line j) ≤ 88
unfolding head_line
head_short j = simp length-append (omega (arith, decimal_short j.group, decimal_short j.a.length, decimal_short j.b.length, decimal_short j.c.length))

-- the values of a row, n of them from place `start` on
abbrev pub values_from : (p : ℕ) → List ℕ → (start n : ℕ) → List ℕ
values_from p v start n = each n (λ y. value_text p (get_or v (start + y) 0))

module _ (j : Job) (v : List ℕ) where
  -- the place of a row's first value
  abbrev row_start : (z x : ℕ) → ℕ
  row_start z x = (z * rows (group_in j) (halves j) + x) * (2 * columns (group_in j) (halves j))

  -- the values of the row at z, x
  abbrev pub values : (z x : ℕ) → List ℕ
  values z x = values_from (prime j.modulus) v (row_start z x) j.b.length

  row_short : (z x : ℕ) → length (row_line j v z x) ≤ 44 + j.b.length * 22
  unfolding row_line
  row_short z x = simp length-append (omega (arith, decimal_short z, decimal_short x, short))
    where
      short : length (values z x) ≤ j.b.length * 22
      short = each_bound (λ y. value_text (prime j.modulus) (get_or v (row_start z x + y) 0)) 22 (λ y. omega (arith, signed_short (centred (prime j.modulus) (get_or v (row_start z x + y) 0)))) j.b.length

  text_short : length (map_text j v) ≤ 88 + layers (group_in j) (halves j) * (j.a.length * (44 + j.b.length * 22))
  unfolding map_text
  text_short = rw length-append (omega (arith, head_short j, planes_short))
    where
      planes_short : length (each (layers (group_in j) (halves j)) (λ z. each j.a.length (λ x. row_line j v z x))) ≤ layers (group_in j) (halves j) * (j.a.length * (44 + j.b.length * 22))
      planes_short = each_bound (λ z. each j.a.length (λ x. row_line j v z x)) (j.a.length * (44 + j.b.length * 22)) (λ z. each_bound (λ x. row_line j v z x) (44 + j.b.length * 22) (λ x. row_short z x) j.a.length) (layers (group_in j) (halves j))

-- ---- the sizes of a job that can be printed

-- a valid job needs no more numbers than an opening admits
valid_limit : (j : Job) → valid_job j ≡ true → volume_length (group_in j) (halves j) ≤ 16777216
valid_limit j e = ltb-false _ _ (passed (axis_tests (header_of j)) tt (valid_parts j e).1).1.1.1.0

module _ {j : Job} {v : List ℕ} (f : Fitting j v) where
  pub printable_sizes : Sizes (job_cell j)
  printable_sizes = valid_sizes j f.valid

  pub printable_modulus : IsModulus j.modulus
  printable_modulus = valid_modulus j f.valid

  -- the text of a map is at most 88 bytes longer than 22 times its volume
  pub map_short : length (map_text j v) ≤ 88 + 22 * length v
  map_short =
      let s = printable_sizes in
      let n1 : j.a.length ≡ 2 * (j.a.length / 2) = omega (arith, s.first.even) in
      let row : 44 + j.b.length * 22 ≡ 22 * (2 * suc (j.b.length / 2)) = omega (arith, s.second.even) in
      let w = layers (group_in j) (halves j) in
      let whole : w * (j.a.length * (44 + j.b.length * 22)) ≡ w * (2 * (j.a.length / 2) * (22 * (2 * suc (j.b.length / 2)))) = λ i. w * (n1 i * row i) in
      omega (arith, text_short j v, whole, f.long)

  pub map_ends : Ends 0 (map_text j v)
  map_ends = record { low = omega (arith, map_short, valid_limit j f.valid, f.long) }

  pub layers_below : layers (group_in j) (halves j) ≤ 2880
  layers_below = let s = printable_sizes in omega (arith, layers_most s.third j.group s.known, s.third.high)

  -- ---- the row at z, x
  module _ {z x : ℕ} (lz : z < layers (group_in j) (halves j)) (lx : x < j.a.length) where
    -- what the place of its first pair is asked for with
    pub row_asked : Sizes (job_cell j) × (z ≤ 2880) × (x ≤ 2880) × (0 ≤ 2880)
    row_asked = let s = printable_sizes in (s, omega (arith, layers_below), omega (arith, s.first.high), omega arith)

    module _ {q : ℕ} (e : q ≡ pair_place (group_in j) (halves j) z x 0) where
      pub row_inside : 2 * q + j.b.length ≤ length v
      row_inside =
          let s = printable_sizes in
          let inside = place_inside (group_in j) (halves j) {w = z} {h = x} {k = j.b.length / 2} lz (omega (arith, s.first.even)) (omega arith) in
          omega (arith, inside, e, f.long, s.second.even)

      pub row_values : {p : ℕ} → p ≡ prime j.modulus → values_from p v (2 * q) j.b.length ≡ values j v z x
      row_values m = λ i. each j.b.length (λ y. value_text (m i) (get_or v (number_place_lem j.b.length (z * rows (group_in j) (halves j) + x) q y e i) 0))

      pub row_residues_lem : {p : ℕ} → p ≡ prime j.modulus → below j.b.length (λ y. ltb (get_or v (2 * q + y) 0) p) ≡ row_residues j v z x
      row_residues_lem m = λ i. below j.b.length (λ y. ltb (get_or v (number_place_lem j.b.length (z * rows (group_in j) (halves j) + x) q y e i) 0) (m i))

-- the numbers of a row of a map that can be printed
pub residues_of_row : {j : Job} {v : List ℕ} → Printable j v → {z x : ℕ} → z < layers (group_in j) (halves j) → x < j.a.length → row_residues j v z x ≡ true
unfolding prints_residues
residues_of_row {j} {v} r {z} {x} lz lx =
    passed_at (λ x. row_residues j v z x) j.a.length x (passed_at (λ z. below j.a.length (λ x. row_residues j v z x)) (layers (group_in j) (halves j)) z r.residues lz) lx
