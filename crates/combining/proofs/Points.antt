-- What an accepted call leaves: both jobs read every point, the count is the only whole number congruent to both readings, and a cell within the limit is restored.
use mathlib.Core.Path.{◌≡◌, refl, sym, ◌∙◌, ap, subst}
use mathlib.Core.Bool.{true}
use mathlib.Core.List.{List}
use Prim.Native.Nat.{ℕ, zero, suc, ◌<◌}
use native.Mathlib.Omega.{arith}
use lib.ListN.{length, get_or}
use lib.IntN.{ℤ}
use borrow.Author.Tests.{eq-eqb, lt-ltb, ltb-true}
use lib.Dec.{ltb}
use Rattle.algebra.specs.cells.Cell.{J, Inside}
use Rattle.algebra.proofs.cells.CellTests.{Positive}
use Rattle.numbers.specs.Value.{prime}
use Rattle.signed.specs.Integers.{residue_z, centred}
use Rattle.signed.proofs.Centred.{centred_only}
use Rattle.refusals.specs.Refusals.{first, accepted}
use Rattle.refusals.proofs.Tests.{pass, none, not_t}
use Rattle.slices.specs.Pairs.{Below}
use Rattle.cell.specs.Volume.{volume_length, density_place}
use Rattle.cell.specs.declared.operations.UnitCell.{UnitCell}
use Rattle.cell.specs.Operations.{cell_group, cell_halves, cell_lengths, Sizes}
use Rattle.output.specs.Output.{Filled.written, Filled.not_written}
use Rattle.combined.specs.Chinese.{combined_numbers}
use Rattle.combined.proofs.Remainders.{combined_only}
use Rattle.combined.proofs.CombinedMaps.{length_combined, count_combined, images_combined, ends_combined, restored}
use Rattle.header.proofs.Headers.{all_three}
use Rattle.job.specs.declared.Job.{Job}
use Rattle.job.specs.declared.GridPoint.{GridPoint}
use Rattle.job.specs.Job.{valid_job, map_held, group_in, halves, header_of, job_cell, within, position, point_step, density}
use Rattle.job.proofs.Jobs.{valid_sizes}
use Rattle.job.proofs.Points.{point_read}
use Rattle.combining.specs.Combining.{combine_tests, CombineOutcome, combine_step}
use Rattle.combining.specs.Points.{PointCombined, CombinedPoints, CombinedRestores}
use Rattle.combining.proofs.Tests.{Sound, sound}

-- ---- a call that says what it wrote has passed every test

written_count : (k c n : ℕ) (a b : List ℤ) → (accepted {O = CombineOutcome} k (record { answer = written c; output = a }) (λ m. record { answer = not_written m; output = b })).answer ≡ written n → (0 ≡ k) × (c ≡ n)
written_count zero c n a b e = (refl, cc)
written_count (suc k) c n a b e = let z : ◌≡◌ {A = ℕ} 0 1 = cc in absurd (omega arith)

module _ (i : Job) (v : List ℕ) (j : Job) (w : List ℕ) (output : List ℤ) (n : ℕ) (e : (combine_step i v j w output).answer ≡ written n) where
  passes_all : (0 ≡ first (combine_tests i j v w (length output))) × (length output ≡ n)
  unfolding combine_step
  passes_all = written_count (first (combine_tests i j v w (length output))) (length output) n (combined_numbers v w) output e

  sound_call : Sound i j v w (length output)
  sound_call = sound i j v w (length output) passes_all.0

  left : (combine_step i v j w output).output ≡ combined_numbers v w
  unfolding combine_step
  left = rw (← passes_all.0) refl

-- ---- a reading of a job whose map is lent

reads : (k : Job) (u : List ℕ) (at : GridPoint) → valid_job k ≡ true → k.state ≡ map_held → length u ≡ volume_length (group_in k) (halves k) → Below (prime k.modulus) u
    → within (cell_lengths (job_cell k)) (position at) ≡ true → (point_step k at u).answer ≡ density (centred (prime k.modulus) (get_or u (density_place (group_in k) (halves k) (position at)) 0))
reads k u at ok held long below inside = sym (point_read k at u (density_place (group_in k) (halves k) (position at))
    (pass 25 _ (not_t _ ok) (pass 22 _ (not_t _ (eq-eqb _ _ held)) (pass 10 _ (not_t _ inside) (pass 6 _ (not_t _ (eq-eqb _ _ long)) (pass 7 _ (not_t _ (lt-ltb _ _ (below.each _))) none))))) refl)

-- the reading is congruent to the number
read_first : (m n : ℕ) → m ≡ 1 → n < 86399 → residue_z 86399 (centred (prime m) n) ≡ n
unfolding prime
read_first m n e l = rw e (centred_only.is 86399 n refl l).congruent

read_second : (m n : ℕ) → m ≡ 2 → n < 302399 → residue_z 302399 (centred (prime m) n) ≡ n
unfolding prime
read_second m n e l = rw e (centred_only.is 302399 n refl l).congruent

-- ---- the theorems

positive : {u : UnitCell} → Sizes u → Positive (cell_halves u)
positive s = (omega (arith, s.first.low), omega (arith, s.second.low), omega (arith, s.third.low))

-- a point below the lengths is one of the cell
within_inside : {u : UnitCell} → Sizes u → (x : J) → within (cell_lengths u) x ≡ true → Inside (cell_halves u) x
within_inside {u} s x e =
    let t = all_three (ltb x.0 u.n1) (ltb x.1 u.n2) (ltb x.2 u.n3) e in
    (omega (arith, ltb-true x.0 u.n1 t.0, s.first.even), omega (arith, ltb-true x.1 u.n2 t.1, s.second.even), omega (arith, ltb-true x.2 u.n3 t.2, s.third.even))

module _ (i : Job) (v : List ℕ) (j : Job) (w : List ℕ) (room : ℕ) (s : Sound i j v w room) where
  point_combined : (at : GridPoint) → within (header_of i).lengths (position at) ≡ true → PointCombined i v j w (combined_numbers v w) at
  unfolding prime
  point_combined at h =
      let q = density_place (group_in i) (halves i) (position at) in
      let x = get_or v q 0 in
      let y = get_or w q 0 in
      let lx : x < 86399 = s.first_below.each q in
      let ly : y < 302399 = s.second_below.each q in
      let count = count_combined (group_in i) (halves i) v w s.first_long (position at) (within_inside (valid_sizes i s.first_valid) (position at) h) in
      let r = read_first i.modulus x s.first_prime lx in
      let t = read_second j.modulus y s.second_prime ly in
      record {
        first = centred (prime i.modulus) x;
        second = centred (prime j.modulus) y;
        first_read = reads i v at s.first_valid s.first_held s.first_long (subst (λ (m : ℕ). Below (prime m) v) (sym s.first_prime) s.first_below) h;
        second_read =
            reads j w at s.second_valid s.second_held (s.second_long ∙ ap (λ (u : UnitCell). volume_length (cell_group u) (cell_halves u)) (sym s.one_cell))
            (subst (λ (m : ℕ). Below (prime m) w) (sym s.second_prime) s.second_below) (ap (λ (u : UnitCell). within (cell_lengths u) (position at)) s.one_cell ∙ h)
            ∙ ap (λ (u : UnitCell). density (centred (prime j.modulus) (get_or w (density_place (cell_group u) (cell_halves u) (position at)) 0))) s.one_cell;
        is = rw (r, t, count) (combined_only.is x y lx ly);
        only = λ z c. combined_only.only x y lx ly z (record { first = c.first ∙ r; second = c.second ∙ t; near = c.near }) ∙ sym count;
      }

pub combined_points : CombinedPoints
combined_points i v j w output n e =
    let s = sound_call i v j w output n e in
    let long = positive (valid_sizes i s.first_valid) in
    let len = length_combined (group_in i) (halves i) v w s.first_long in
    rw (left i v j w output n e) (record {
      points = point_combined i v j w (length output) s;
      images = images_combined (group_in i) (halves i) v w s.first_long long s.second_long s.first_below s.second_below s.first_consistent s.second_consistent;
      ends = ends_combined (group_in i) (halves i) v w s.first_long long s.second_long s.first_below s.second_below s.first_consistent s.second_consistent;
      long = len;
      counted = sym (passes_all i v j w output n e).1 ∙ s.as_long ∙ sym len;
    })

pub combined_restores : CombinedRestores
combined_restores i v j w output n M e l f g =
    let s = sound_call i v j w output n e in
    left i v j w output n e
    ∙ restored (group_in i) (halves i) v w s.first_long (positive (valid_sizes i s.first_valid)) s.second_long s.first_below s.second_below s.first_consistent s.second_consistent M l f g
