-- Two tests together; and what is known where every test of the call was passed.
use mathlib.Core.Path.{◌≡◌, sym}
use mathlib.Core.Bool.{Bool, true, ◌&&◌}
use mathlib.Core.List.{List}
use Prim.Native.Nat.{ℕ}
use lib.Dec.{eqb}
use lib.ListN.{length}
use borrow.Author.Tests.{not-false, eqb-true}
use Rattle.refusals.specs.Refusals.{first}
use Rattle.refusals.proofs.Tests.{passed, both}
use Rattle.numbers.specs.Value.{prime}
use Rattle.numbers.proofs.Primes.{prime_pos}
use Rattle.slices.specs.Pairs.{Below, all_below}
use Rattle.slices.proofs.Bounds.{below_all_below}
use Rattle.cell.specs.Volume.{volume_length}
use Rattle.cell.specs.Consistency.{consistent_map}
use Rattle.header.proofs.Headers.{all_three}
use Rattle.job.specs.declared.Job.{Job}
use Rattle.job.specs.Job.{valid_job, map_held, header_of, as_long, group_in, halves, job_cell}
use Rattle.combining.specs.Combining.{combine_tests}

pub two : {r a s b : Bool} → r ≡ a → s ≡ b → (r && s) ≡ (a && b)
two e f = λ i. e i && f i

-- ---- every test was passed

pub record Sound (i j : Job) (v w : List ℕ) (room : ℕ) : Type 0 where
  pub first_valid : valid_job i ≡ true
  pub second_valid : valid_job j ≡ true
  pub first_held : i.state ≡ map_held
  pub second_held : j.state ≡ map_held
  pub one_cell : job_cell j ≡ job_cell i
  pub first_prime : i.modulus ≡ 1
  pub second_prime : j.modulus ≡ 2
  pub first_long : length v ≡ volume_length (group_in i) (halves i)
  pub second_long : length w ≡ volume_length (group_in i) (halves i)
  pub as_long : room ≡ volume_length (group_in i) (halves i)
  pub first_below : Below (prime 1) v
  pub second_below : Below (prime 2) w
  pub first_consistent : consistent_map (group_in i) (halves i) v ≡ true
  pub second_consistent : consistent_map (group_in i) (halves i) w ≡ true

pub sound : (i j : Job) (v w : List ℕ) (room : ℕ) → 0 ≡ first (combine_tests i j v w room) → Sound i j v w room
sound i j v w room e =
    let p = passed (combine_tests i j v w room) tt e in
    let valid = both (valid_job i) (valid_job j) (not-false _ p.0) in
    let held = both (eqb i.state map_held) (eqb j.state map_held) (not-false _ p.1.0) in
    let cells = both (eqb i.group j.group) _ (not-false _ p.1.1.0) in
    let axes = all_three (eqb i.a.length j.a.length) (eqb i.b.length j.b.length) _ cells.1 in
    let rest = all_three (eqb i.c.length j.c.length) (eqb i.modulus 1) (eqb j.modulus 2) axes.2 in
    let long = all_three (as_long i.group (header_of i).lengths v) (as_long i.group (header_of i).lengths w) _ (not-false _ p.1.1.1.0) in
    let below = both (all_below (prime 1) v) (all_below (prime 2) w) (not-false _ p.1.1.1.1.0) in
    let maps = both (consistent_map (group_in i) (halves i) v) (consistent_map (group_in i) (halves i) w) (not-false _ p.1.1.1.1.1.0) in
    let g = sym (eqb-true _ _ cells.0) in
    let n1 = sym (eqb-true _ _ axes.0) in
    let n2 = sym (eqb-true _ _ axes.1) in
    let n3 = sym (eqb-true _ _ rest.0) in
    record {
      first_valid = valid.0;
      second_valid = valid.1;
      first_held = eqb-true _ _ held.0;
      second_held = eqb-true _ _ held.1;
      one_cell = λ k. record { group = g k; n1 = n1 k; n2 = n2 k; n3 = n3 k };
      first_prime = eqb-true _ _ rest.1;
      second_prime = eqb-true _ _ rest.2;
      first_long = eqb-true _ _ long.0;
      second_long = eqb-true _ _ long.1;
      as_long = eqb-true _ _ long.2;
      first_below = below_all_below (prime 1) v (prime_pos 1) below.0;
      second_below = below_all_below (prime 2) w (prime_pos 2) below.1;
      first_consistent = maps.0;
      second_consistent = maps.1;
    }
