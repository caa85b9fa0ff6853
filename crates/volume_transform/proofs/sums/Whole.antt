-- Synthesis and analysis of a whole volume, line after line: what all turns of a job leave.
use mathlib.Core.Path.{◌≡◌, sym, ◌∙◌, ap, ap₂}
use mathlib.Core.Bool.{true}
use mathlib.Core.List.{List}
use Prim.Native.Nat.{ℕ, ◌+◌, ◌/◌}
use native.Mathlib.Omega.{arith}
use lib.ListN.{length}
use Rattle.algebra.specs.cells.Cell.{J, Group, Cell}
use Rattle.algebra.specs.cells.CellSteps.{Lawful}
use Rattle.algebra.proofs.ring.Laws.{along}
use Rattle.algebra.proofs.cells.CellTests.{Positive}
use Rattle.numbers.specs.Value.{prime, IsModulus, Value, field, conj}
use Rattle.slices.specs.Pairs.{Below}
use Rattle.slices.specs.Sweep.{Layout, sweep, on_lists}
use Rattle.lengths.specs.Admitted.{AdmittedLength}
use Rattle.line.proofs.kinds.Axes.{axis_laws}
use Rattle.cell.specs.Volume.{volume_length, factors_in, pack_factors, map_in, pack_map, map_of, factors_of}
use Rattle.cell.specs.Consistency.{consistent_factors, consistent_map}
use Rattle.cell.specs.Exactly.{RealMap, ObeysGroup}
use Rattle.cell.specs.declared.operations.UnitCell.{UnitCell}
use Rattle.cell.specs.Operations.{cell_group, cell_halves}
use Rattle.volume_transform.specs.Turns.{turns}
use Rattle.volume_transform.specs.Axes.{along_l, along_h, along_k, line_count, line_of_turn, turned_l, turned_h, turned_k, job_turn, JobSizes}
use Rattle.cell.proofs.Consistency.{consistent_read}
use Rattle.cell.proofs.Maps.{consistent_map_read}
use Rattle.volume_transform.proofs.sums.PassLaws.{synthesis_passes, analysis_passes}
use Rattle.volume_transform.proofs.sums.Turns.{turns_add, turns_sweep, turned_along, turned_back}
use Rattle.volume_transform.proofs.plan.Numbered.{turn_l, turn_h, turn_k}

module _ (g : Group) (a : J) (m direction : ℕ) where
  abbrev pass : Layout → (ℕ → List ℕ → List ℕ) → List ℕ → List ℕ
  pass L G d = sweep L (on_lists L G) L.count d

  abbrev run : (j n : ℕ) → List ℕ → List ℕ
  run j n d = turns (job_turn g a m direction) j n d

  abbrev first : ℕ
  first = (along_l g a).count

  abbrev second : ℕ
  second = (along_h g a).count

  abbrev third : ℕ
  third = (along_k g a).count

  pub run_l : (d : List ℕ) → run 0 first d ≡ pass (along_l g a) (turned_l g a m direction) d
  run_l d = turns_sweep (job_turn g a m direction) (along_l g a) (turned_l g a m direction) 0 first d (turn_l g a m direction)

  pub run_h : (d : List ℕ) → run first second d ≡ pass (along_h g a) (turned_h g a m direction) d
  run_h d = turns_sweep (job_turn g a m direction) (along_h g a) (turned_h g a m direction) first second d (turn_h g a m direction)

  run_k : (d : List ℕ) → run (first + second) third d ≡ pass (along_k g a) (turned_k g a m direction) d
  run_k d = turns_sweep (job_turn g a m direction) (along_k g a) (turned_k g a m direction) (first + second) third d (λ y l. turn_k g a m direction y)

  run_all : (d : List ℕ) → run 0 (line_count g a) d ≡ run (first + second) third (run first second (run 0 first d))
  run_all d =
      turns_add (job_turn g a m direction) 0 (first + second) third d
      ∙ ap₂ (λ j v. run j third v) zero_plus (turns_add (job_turn g a m direction) 0 first second d ∙ along (λ j. run j second (run 0 first d)) (0 + first) first (omega arith))
    where
      zero_plus : 0 + (first + second) ≡ first + second
      zero_plus = omega arith

  pub run_forward : (d : List ℕ) → run 0 (line_count g a) d ≡ pass (along_k g a) (turned_k g a m direction) (pass (along_h g a) (turned_h g a m direction) (pass (along_l g a) (turned_l g a m direction) d))
  run_forward d = run_all d ∙ run_k _ ∙ ap (pass (along_k g a) (turned_k g a m direction)) (run_h _ ∙ ap (pass (along_h g a) (turned_h g a m direction)) (run_l d))

  pub run_backward : (d : List ℕ) → run 0 first (run first second (run (first + second) third d)) ≡ pass (along_l g a) (turned_l g a m direction) (pass (along_h g a) (turned_h g a m direction) (pass (along_k g a) (turned_k g a m direction) d))
  run_backward d = run_l _ ∙ ap (pass (along_l g a) (turned_l g a m direction)) (run_h _ ∙ ap (pass (along_h g a) (turned_h g a m direction)) (run_k d))

-- ---- all lines of a packed cell

module _ (g : Group) (m : ℕ) (is : IsModulus m) {n1 n2 n3 : ℕ} (s1 : AdmittedLength n1) (s2 : AdmittedLength n2) (s3 : AdmittedLength n3) where
  abbrev a : J
  a = (n1 / 2, n2 / 2, n3 / 2)

  -- in the order of their numbers
  pub synthesised_cell : (F : Cell (Value m)) → Lawful (field m) (conj m) a g F → turns (λ n u. job_turn g a m 0 (line_of_turn g a 0 n) u) 0 (line_count g a) (pack_factors g a m F) ≡ pack_map g a m (map_of m a F)
  synthesised_cell F o = turned_along g a m 0 (line_count g a) (pack_factors g a m F) ∙ run_forward g a m 0 _ ∙ synthesis_passes g a m (axis_laws m is s1) (axis_laws m is s2) (axis_laws m is s3) F o

  -- the lines along k, then those along h, then those along l
  pub analysed_cell : (M : Cell (Value m)) → RealMap g a m M → ObeysGroup g a m M → turns (λ n u. job_turn g a m 1 (line_of_turn g a 1 n) u) 0 (line_count g a) (pack_map g a m M) ≡ pack_factors g a m (factors_of m a M)
  analysed_cell M r o = turned_back g a m 1 (pack_map g a m M) ∙ run_backward g a m 1 (pack_map g a m M) ∙ analysis_passes g a m (axis_laws m is s1) (axis_laws m is s2) (axis_laws m is s3) M r o

-- ---- a checked job

module _ (m : ℕ) (is : IsModulus m) {cell : UnitCell} {f1 f2 f3 : ℕ} (job : JobSizes cell f1 f2 f3) (v : List ℕ) (len : length v ≡ volume_length (cell_group cell) (cell_halves cell)) (small : Below (prime m) v) where
  abbrev group : Group
  group = cell_group cell

  abbrev halves : J
  halves = cell_halves cell

  abbrev all : ℕ → List ℕ → List ℕ
  all direction v = turns (λ n u. job_turn group halves m direction (line_of_turn group halves direction n) u) 0 (line_count group halves) v

  long : Positive halves
  long = (job.first.positive, job.second.positive, job.third.positive)

  pub synthesised : consistent_factors group halves m v ≡ true → all 0 v ≡ pack_map group halves m (map_of m halves (factors_in group halves m v))
  synthesised e = let r = consistent_read group halves long m v len small e in
      ap (all 0) (sym r.1) ∙ synthesised_cell group m is job.first job.second job.third (factors_in group halves m v) r.0

  pub analysed : consistent_map group halves v ≡ true → all 1 v ≡ pack_factors group halves m (factors_of m halves (map_in group halves m v))
  analysed e = let r = consistent_map_read group halves long m v len small e in
      ap (all 1) (sym r.2) ∙ analysed_cell group m is job.first job.second job.third (map_in group halves m v) r.0 r.1
