-- The starred specimens. Lines are computed in crate line. Of a record: the group's other operation leads the index to itself with the negative value, and no value but zero is its own negative.
use mathlib.Core.Path.{◌≡◌, refl, sym, ◌∙◌, ap}
use mathlib.Core.Bool.{Bool, true, false, ◌&&◌}
use mathlib.Core.List.{List, [], ◌∷◌, ◌++◌, map}
use Prim.Native.Nat.{ℕ, ◌<◌}
use native.Mathlib.Omega.{arith}
use lib.Dec.{ltb, eqb}
use borrow.Author.Tests.{not-false, lt-ltb, eqb-true}
use Rattle.algebra.specs.ring.Ring.{pow, residues, gauss}
use Rattle.algebra.specs.orbits.Orbit.{Mem, Mem.first as here, Mem.later}
use Rattle.algebra.specs.cells.Cell.{J, full, plane_sym, image_of, flip, implied_value, sgn, star}
use Rattle.algebra.proofs.ring.Laws.{self_neg}
use Rattle.algebra.proofs.ring.Solver.{ring, quote}
use Rattle.algebra.proofs.cells.CellAxis.{neg_zero}
use Rattle.algebra.proofs.cells.CellTests.{Positive}
use Rattle.numbers.specs.Value.{prime, is_modulus, Value, field, conj, real, half, value}
use Rattle.numbers.proofs.Primes.{prime_pos}
use Rattle.numbers.proofs.Residues.{val_res}
use Rattle.numbers.proofs.Values.{field_ring}
use Rattle.numbers.proofs.Parts.{half_law}
use Rattle.line.specs.Specimens as Lines
use Rattle.refusals.specs.Refusals.{first}
use Rattle.line.proofs.Specimens.{specimens_shown as lines-shown}
use Rattle.refusals.proofs.Tests.{passed, stop, pass, not_t, not_f, both}
use Rattle.cell.specs.Operations.{Sizes}
use Rattle.cell.specs.Volume.{group_of}
use Rattle.cell.specs.Consistency.{agrees_with_itself}
use Rattle.cell.proofs.Records.{agrees_iff}
use Rattle.header.specs.Cells.{header_cell}
use Rattle.job.specs.Job.{Header, axis_tests, half_lengths, job_of, collecting, open_tests, within, index, record_tests, record_step, unchanged}
use Rattle.demands.specs.Specimens.{Specimen, records, Shown, Starred, transformed, recorded, taken, taken_records, AllHold, Specimens}
use Rattle.header.proofs.Headers.{sound_sizes}
use Rattle.job.proofs.Jobs.{opened_valid}
use Rattle.job.proofs.check.Openings.{header_passed}
use Rattle.job.proofs.Openings.{opened_collecting}
use Rattle.demands.proofs.specimens.Taken.{taken_hold}

-- a test that cannot be true
is_false : (b : Bool) → (b ≡ true → ⊥) → b ≡ false
is_false true h = absurd (h refl)
is_false false h = refl

-- the value of two residues that are not both 0 is not 0
not_zero : (μ x y : ℕ) → x < prime μ → y < prime μ → ((x ≡ 0) × (y ≡ 0) → ⊥) → value μ x y ≡ (field μ).zer → ⊥
unfolding gauss residues
not_zero μ x y lx ly h e = h (sym (val_res μ lx) ∙ ap (λ (z : Value μ). z.0.val) e ∙ val_res μ (prime_pos μ), sym (val_res μ ly) ∙ ap (λ (z : Value μ). z.1.val) e ∙ val_res μ (prime_pos μ))

-- what is computed of each row: the index is one of every cell, and the group's other operation leads it to itself with the negative value
record Reversed (x : Specimen) : Type 0 where
  known : x.group < 5
  low : ((index x.at).0 < 2) × ((index x.at).1 < 2) × ((index x.at).2 < 2)
  member : Mem (plane_sym (group_of x.group)) (full (group_of x.group))
  fixed : (a : J) → image_of a (plane_sym (group_of x.group)) (index x.at) ≡ index x.at
  negated : (μ : ℕ) (z : Value μ) → implied_value (field μ) (conj μ) (plane_sym (group_of x.group)) (index x.at) z ≡ (field μ).neg z
  number : x.number ≡ 12

abbrev AllReversed : List Specimen → Type 0
AllReversed [] = Unit
AllReversed (x ∷ l) = Reversed x × AllReversed l

computed : AllReversed records
unfolding image_of flip implied_value sgn star pow
computed = (
  record {
    known = omega arith;
    low = (omega arith, omega arith, omega arith);
    member = later here;
    fixed = λ a. rw (neg_zero a.0, neg_zero a.1);
    negated = λ μ z. ring (field_ring μ) (z ∷ []) (search quote depth 40 fits 9999) refl;
    number = refl;
  },
  (
    record {
      known = omega arith;
      low = (omega arith, omega arith, omega arith);
      member = later here;
      fixed = λ a. rw (neg_zero a.2);
      negated = λ μ z. ring (field_ring μ) (z ∷ []) (search quote depth 40 fits 9999) refl;
      number = refl;
    },
    (
      record {
        known = omega arith;
        low = (omega arith, omega arith, omega arith);
        member = later here;
        fixed = λ a. rw (neg_zero a.0, neg_zero a.1);
        negated = λ μ z. ring (field_ring μ) (z ∷ []) (search quote depth 40 fits 9999) refl;
        number = refl;
      },
      tt,
    ),
  ),
)

module _ (x : Specimen) (r : Reversed x) where
  disagrees : (μ : ℕ) (a : J) → Positive a → (z : Value μ) → (z ≡ (field μ).zer → ⊥) → agrees_with_itself (group_of x.group) a μ (index x.at) z ≡ false
  disagrees μ a long z h = is_false _ (λ e. h (self_neg (field_ring μ) (real μ (half μ)) (half_law μ) z
      (sym ((agrees_iff (group_of x.group) a long μ (index x.at) z).0 e (plane_sym (group_of x.group)) r.member (r.fixed a)) ∙ r.negated μ z)))

  module _ (μ : ℕ) (is : is_modulus μ ≡ true) (h : Header) (g : h.group ≡ x.group) (e : 0 ≡ first (axis_tests h)) where
    sizes : Sizes (header_cell h)
    sizes = sound_sizes h e (omega (arith, g, r.known))

    inside : within h.lengths (index x.at) ≡ true
    inside =
        let a = lt-ltb (index x.at).0 h.lengths.0 (omega (arith, r.low, sizes.first.low)) in
        let b = lt-ltb (index x.at).1 h.lengths.1 (omega (arith, r.low, sizes.second.low)) in
        let c = lt-ltb (index x.at).2 h.lengths.2 (omega (arith, r.low, sizes.third.low)) in
        λ i. a i && (b i && c i)

    positive : Positive (half_lengths h.lengths)
    positive = (omega (arith, sizes.first.low), omega (arith, sizes.second.low), omega (arith, sizes.third.low))

    contradiction : (v : List ℕ) (a b : ℕ) → a < prime μ → b < prime μ → ((a ≡ 0) × (b ≡ 0) → ⊥) → 12 ≡ first (record_tests (job_of μ h collecting) (index x.at) a b v)
    contradiction v a b la lb n =
        pass 25 _ (not_t _ (opened_valid μ h collecting is (omega (arith, g, r.known)) e (omega arith)))
        (pass 21 _ refl
        (pass 10 _ (not_t _ inside)
        (pass 7 _ (not_t _ both_below)
        (stop _ (not_f _ disagreement)))))
      where
        both_below : (ltb a (prime μ) && ltb b (prime μ)) ≡ true
        both_below = let x = lt-ltb a (prime μ) la in let y = lt-ltb b (prime μ) lb in λ i. x i && y i

        disagreement : agrees_with_itself (group_of h.group) (half_lengths h.lengths) μ (index x.at) (value μ a b) ≡ false
        disagreement = rw g (disagrees μ (half_lengths h.lengths) positive (value μ a b) (not_zero μ a b la lb n))

    refused : (v : List ℕ) (a b : ℕ) → a < prime μ → b < prime μ → ((a ≡ 0) × (b ≡ 0) → ⊥) → record_step (job_of μ h collecting) x.at a b v ≡ unchanged (job_of μ h collecting) v x.number
    unfolding record_step
    refused v a b la lb n = rw (← contradiction v a b la lb n, r.number)

  shown : Shown x
  shown μ h lent v j a b g e la lb n =
      let o = opened_collecting μ h lent e in
      rw o.1 (refused μ (not-false _ (passed (open_tests μ h 0 lent) tt o.0).1.0) h g (header_passed μ h 0 lent o.0) v a b la lb n)

hold_records : (l : List Specimen) → AllReversed l → (rest : List Starred) → AllHold rest → AllHold (map recorded l ++ rest)
hold_records [] r rest k = k
hold_records (x ∷ l) r rest k = (shown x r.0, hold_records l r.1 rest k)

hold_lines : (l : List Lines.Specimen) → Lines.AllShown l → (rest : List Starred) → AllHold rest → AllHold (map transformed l ++ rest)
hold_lines [] h rest k = k
hold_lines (x ∷ l) h rest k = (h.0, hold_lines l h.1 rest k)

pub specimens_hold : Specimens
specimens_hold = record { hold = hold_lines Lines.specimens lines-shown.shown (map recorded records ++ map taken taken_records) (hold_records records computed (map taken taken_records) taken_hold) }
