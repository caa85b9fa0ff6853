-- The order of the refusals, and what 27 and 14 say.
use mathlib.Core.Path.{◌≡◌, refl}
use mathlib.Core.Logic.{◌↔◌}
use mathlib.Core.Bool.{Bool, true, not, ◌&&◌}
use mathlib.Core.List.{List, [], ◌∷◌}
use Prim.Native.Nat.{ℕ, suc}
use lib.Dec.{eqb}
use lib.ListN.{length}
use lib.IntN.{ℤ}
use borrow.Author.Tests.{not-false, eqb-true, eq-eqb}
use Rattle.algebra.proofs.cells.CellTests.{Positive}
use Rattle.refusals.specs.Refusals.{Test, ◌⇒◌, first}
use Rattle.refusals.proofs.Tests.{passed, both}
use Rattle.refusals.proofs.Orders.{avoided, refused_unless, negated}
use Rattle.numbers.specs.Value.{prime}
use Rattle.numbers.proofs.Primes.{prime_pos}
use Rattle.slices.specs.Pairs.{all_below}
use Rattle.slices.proofs.Bounds.{below_all_below}
use Rattle.cell.specs.Volume.{group_of, volume_length}
use Rattle.cell.specs.Consistency.{consistent_map}
use Rattle.cell.proofs.Maps.{map_consistent}
use Rattle.header.proofs.Headers.{all_three}
use Rattle.output.specs.Output.{Filled.not_written}
use Rattle.output.proofs.Answered.{fill_says}
use Rattle.job.specs.declared.Job.{Job}
use Rattle.job.specs.Job.{valid_job, map_held, header_of, as_long, half_lengths, group_in, halves}
use Rattle.job.proofs.Jobs.{valid_job_sizes}
use Rattle.combining.specs.Combining.{of_one_cell, maps_tests, combine_tests, CombineOutcome, combine_step}
use Rattle.combining.specs.Orders.{OneCell, BothMaps, CombineRefusals}

-- the test of 27 says that both jobs are of one cell, one for each prime in order
one_cell : (i j : Job) → (of_one_cell i j ≡ true) ↔ OneCell i j
one_cell i j = (read, told)
  where
    read : of_one_cell i j ≡ true → OneCell i j
    read e =
        let cells = both (eqb i.group j.group) _ e in
        let axes = all_three (eqb i.a.length j.a.length) (eqb i.b.length j.b.length) _ cells.1 in
        let rest = all_three (eqb i.c.length j.c.length) (eqb i.modulus 1) (eqb j.modulus 2) axes.2 in
        record {
          group = eqb-true _ _ cells.0;
          n1 = eqb-true _ _ axes.0;
          n2 = eqb-true _ _ axes.1;
          n3 = eqb-true _ _ rest.0;
          first = eqb-true _ _ rest.1;
          second = eqb-true _ _ rest.2;
        }

    told : OneCell i j → of_one_cell i j ≡ true
    told c = λ k.
        eq-eqb _ _ c.group k
        && (eq-eqb _ _ c.n1 k && (eq-eqb _ _ c.n2 k && (eq-eqb _ _ c.n3 k && (eq-eqb _ _ c.first k && eq-eqb _ _ c.second k))))

module _ (i : Job) (v : List ℕ) (j : Job) (w : List ℕ) (output : List ℤ) where
  told : (k : ℕ) → (first (combine_tests i j v w (length output)) ≡ suc k) ↔ ((combine_step i v j w output).answer ≡ not_written (suc k))
  unfolding combine_step
  told = fill_says (λ (o : CombineOutcome). o.answer) _ _ (length output) refl (λ n. refl) (first (combine_tests i j v w (length output)))

  abbrev before_cells : List Test
  before_cells = not (valid_job i && valid_job j) ⇒ 25 ∷ not (eqb i.state map_held && eqb j.state map_held) ⇒ 22 ∷ []

  abbrev before_maps : List Test
  before_maps =
      not (valid_job i && valid_job j) ⇒ 25 ∷ not (eqb i.state map_held && eqb j.state map_held) ⇒ 22 ∷ not (of_one_cell i j) ⇒ 27 ∷
      not (as_long i.group (header_of i).lengths v && (as_long i.group (header_of i).lengths w && eqb (length output) (volume_length (group_of i.group) (half_lengths (header_of i).lengths)))) ⇒ 6 ∷
      not (all_below (prime 1) v && all_below (prime 2) w) ⇒ 7 ∷ []

  -- the test of 14, where those before it have passed
  both_maps : 0 ≡ first before_maps → ((consistent_map (group_in i) (halves i) v && consistent_map (group_in i) (halves i) w) ≡ true) ↔ BothMaps i v w
  both_maps e =
      let p = passed before_maps tt e in
      let s = valid_job_sizes i (both (valid_job i) _ (not-false _ p.0)).0 in
      let sizes : Positive (halves i) = (s.first.positive, s.second.positive, s.third.positive) in
      let long = all_three (as_long i.group (header_of i).lengths v) (as_long i.group (header_of i).lengths w) _ (not-false _ p.1.1.1.0) in
      let below = both (all_below (prime 1) v) (all_below (prime 2) w) (not-false _ p.1.1.1.1.0) in
      let f = map_consistent (group_in i) (halves i) sizes 1 v (eqb-true _ _ long.0) (below_all_below (prime 1) v (prime_pos 1) below.0) in
      let g = map_consistent (group_in i) (halves i) sizes 2 w (eqb-true _ _ long.1) (below_all_below (prime 2) w (prime_pos 2) below.1) in
      (λ t. let q = both (consistent_map (group_in i) (halves i) v) _ t in record { first = f.0 q.0; second = g.0 q.1 }, λ b k. f.1 b.first k && g.1 b.second k)

pub combine_refusals : CombineRefusals
combine_refusals = record {
  ordered = λ i j v w room. refl;
  cells = λ i v j w output none.
      refused_unless (before_cells i v j w output) (maps_tests i.group (header_of i).lengths v w (length output)) (not (of_one_cell i j)) 26 tt
      (combine_step i v j w output).answer not_written (told i v j w output) tt (avoided not_written _ (before_cells i v j w output) none) _
      (λ e. negated (of_one_cell i j) (one_cell i j));
  maps = λ i v j w output none.
      refused_unless (before_maps i v j w output) [] (not (consistent_map (group_in i) (halves i) v && consistent_map (group_in i) (halves i) w)) 13 tt
      (combine_step i v j w output).answer not_written (told i v j w output) tt (avoided not_written _ (before_maps i v j w output) none) _
      (λ e. negated _ (both_maps i v j w output e));
}
