-- Which jobs are valid, from the tests of their numbers; and a job is that of its header.
use mathlib.Core.Path.{◌≡◌, sym, ap, subst, ◌∙◌}
use mathlib.Core.Bool.{Bool, true, false, ◌&&◌, not}
use Prim.Native.Nat.{ℕ, ◌≤◌, ◌<◌}
use lib.Dec.{ltb, eqb}
use borrow.Author.Tests.{lt-ltb, le-ltb, ltb-true, eq-eqb, eqb-true}
use Rattle.lengths.specs.Lengths.{octal, factors_ok, octal_digits}
use Rattle.refusals.specs.Refusals.{first}
use Rattle.lengths.specs.Admitted.{FactorList}
use Rattle.refusals.proofs.Tests.{by_true, by_false, both}
use Rattle.numbers.specs.Value.{is_modulus, IsModulus}
use Rattle.numbers.proofs.ModulusCases.{tested_modulus}
use Rattle.lengths.proofs.Factors.{octal_digits_lem}
use Rattle.cell.specs.declared.operations.UnitCell.{UnitCell}
use Rattle.cell.specs.Operations.{Sizes}
use Rattle.volume_transform.specs.Axes.{JobSizes}
use Rattle.job.specs.Job.{Header, axis_tests, job_of, job_cell, header_of, with_state, valid_job}
use Rattle.job.specs.declared.Job.{Job}
use Rattle.header.proofs.Headers.{all_three, sound_sizes, sound_axes, sound_lists}
use Rattle.lengths.proofs.Digits.{octal_of_digits}

-- the job of a job's modulus and header, in its state, is the job: the digits of a list's number give the number back
pub job_of_header : (j : Job) → job_of j.modulus (header_of j) j.state ≡ j
job_of_header j =
    let a = octal_of_digits j.a.factors in
    let b = octal_of_digits j.b.factors in
    let c = octal_of_digits j.c.factors in
    λ i. record { group = j.group; modulus = j.modulus; a = record { length = j.a.length; factors = a i }; b = record { length = j.b.length; factors = b i }; c = record { length = j.c.length; factors = c i }; state = j.state }

module _ (j : Job) where
  abbrev header_ok : Bool
  header_ok = eqb (first (axis_tests (header_of j))) 0

  -- the four tests of a valid job
  valid_tests : valid_job j ≡ true → (ltb j.group 5 ≡ true) × (is_modulus j.modulus ≡ true) × (header_ok ≡ true) × (ltb j.state 3 ≡ true)
  unfolding valid_job
  valid_tests e =
      let g = both (ltb j.group 5) (is_modulus j.modulus && (header_ok && ltb j.state 3)) e in
      let t = all_three (is_modulus j.modulus) header_ok (ltb j.state 3) g.1 in
      (g.0, t.0, t.1, t.2)

  pub invalid_group : 5 ≤ j.group → false ≡ valid_job j
  unfolding valid_job
  invalid_group h = ap (λ (b : Bool). b && (is_modulus j.modulus && (header_ok && ltb j.state 3))) (sym (le-ltb _ _ h))

  pub invalid_modulus : j.group < 5 → is_modulus j.modulus ≡ false → false ≡ valid_job j
  unfolding valid_job
  invalid_modulus h q =
      let x = sym (lt-ltb _ _ h) in
      let z = sym q in
      λ i. x i && (z i && (header_ok && ltb j.state 3))

  pub invalid_header : {r : Bool} → j.group < 5 → is_modulus j.modulus ≡ true → r ≡ header_ok → r ≡ false → false ≡ valid_job j
  unfolding valid_job
  invalid_header h q e f =
      let x = sym (lt-ltb _ _ h) in
      let z = sym q in
      let y = sym (by_false _ _ e f) in
      λ i. x i && (z i && (y i && ltb j.state 3))

  -- what is known of a valid job
  pub valid_parts : valid_job j ≡ true → (j.group < 5) × (0 ≡ first (axis_tests (header_of j))) × (j.state < 3) × (is_modulus j.modulus ≡ true)
  valid_parts e =
      let t = valid_tests e in
      (ltb-true _ _ t.0, sym (eqb-true _ _ t.2), ltb-true _ _ t.3, t.1)

  pub valid_modulus : valid_job j ≡ true → IsModulus j.modulus
  valid_modulus e = tested_modulus j.modulus (valid_tests e).1

  -- it stays valid in every state
  pub valid_with : (s : ℕ) → valid_job j ≡ true → s < 3 → valid_job (with_state j s) ≡ true
  unfolding valid_job
  valid_with s e l =
      let t = valid_tests e in
      let u = lt-ltb s 3 l in
      λ i. t.0 i && (t.1 i && (t.2 i && u i))

  -- the sizes of a valid job
  pub valid_sizes : valid_job j ≡ true → Sizes (job_cell j)
  valid_sizes e = let t = valid_parts e in sound_sizes (header_of j) t.1 t.0

  -- what every check of a call is lent where it has found the job valid
  pub cell_sizes : {cell : UnitCell} → cell ≡ job_cell j → valid_job j ≡ true → Sizes cell × IsModulus j.modulus
  cell_sizes e v = (subst Sizes (sym e) (valid_sizes v), valid_modulus v)

  -- .. and what its lines are lent
  pub valid_job_sizes : valid_job j ≡ true → JobSizes (job_cell j) j.a.factors j.b.factors j.c.factors
  valid_job_sizes e =
      let s = sound_axes (header_of j) (valid_parts e).1 in
      record {
        sizes = valid_sizes e;
        first = s.0.size;
        second = s.1.size;
        third = s.2.size;
        first_list = listed j.a.length j.a.factors s.0.list;
        second_list = listed j.b.length j.b.factors s.1.list;
        third_list = listed j.c.length j.c.factors s.2.list;
      }
    where
      listed : (n f : ℕ) → FactorList n (octal (octal_digits f)) → FactorList n f
      listed n f l = subst (FactorList n) (octal_of_digits f) l

  pub valid_state : {r : Bool} → j.group < 5 → is_modulus j.modulus ≡ true → r ≡ header_ok → r ≡ true → ltb j.state 3 ≡ valid_job j
  unfolding valid_job
  valid_state h q e f =
      let x = sym (lt-ltb _ _ h) in
      let z = sym q in
      let y = sym (by_true _ _ e f) in
      λ i. x i && (z i && (y i && ltb j.state 3))

-- the job of a modulus number and a header that no test refuses is valid: its lists are read back from their octal digits
pub opened_valid : (m : ℕ) (h : Header) (s : ℕ) → is_modulus m ≡ true → h.group < 5 → 0 ≡ first (axis_tests h) → s < 3 → valid_job (job_of m h s) ≡ true
unfolding valid_job
opened_valid m h s is g e l =
    let t = sound_lists h e in
    let x = lt-ltb _ _ g in
    let y = ap (λ k. eqb (first (axis_tests k)) 0) (read_back h t.0.0 t.1.0 t.2.0) ∙ eq-eqb _ 0 (sym e) in
    let z = lt-ltb _ _ l in
    λ i. x i && (is i && (y i && z i))
  where
    read_back : (h : Header) → factors_ok h.list1 ≡ true → factors_ok h.list2 ≡ true → factors_ok h.list3 ≡ true → header_of (job_of m h s) ≡ h
    read_back h e f g =
        let a = octal_digits_lem h.list1 e in
        let b = octal_digits_lem h.list2 f in
        let c = octal_digits_lem h.list3 g in
        λ i. record { group = h.group; lengths = h.lengths; list1 = a i; list2 = b i; list3 = c i }
