-- The walks that look for the records at fault: what they keep as they go on.
use mathlib.Core.Path.{◌≡◌, refl, sym, ◌∙◌, ap, subst}
use mathlib.Core.Bool.{Bool, true, false, ◌||◌}
use mathlib.Core.List.{List}
use Prim.Native.Nat.{ℕ, ◌+◌, ◌*◌, ◌-◌, ◌<◌, ◌≤◌}
use native.Mathlib.Omega.{arith}
use native.Mathlib.Decide.{ℕ_discrete}
use lib.Dec.{eqb}
use lib.ListN.{replicate}
use borrow.Author.Tests.{eq-eqb, ne_eqb}
use Rattle.bits.specs.Set.{in_set}
use Rattle.bits.proofs.Words.{none_in}
use Rattle.cell.specs.declared.operations.UnitCell.{UnitCell}
use Rattle.cell.specs.Operations.{cell_lengths}
use Rattle.job.specs.Job.{within}
use Rattle.file_format.specs.Format.{count_at, record_count, record_at}
use Rattle.factor_file.specs.File.{index_in}
use Rattle.faults.specs.FaultSteps.{Records, own_number, place_of, own_at, within_at, place_at, SoundTo, WithinTo, Apart, Stops, range, Noted}
use Rattle.faults.proofs.FaultLaws.{own_tested}

-- the record that the code reads is that of its place
module _ {c : UnitCell} {file : List ℕ} {start : ℕ} (w : Records c file start) (i : ℕ) where
  pub own_here : (μ : ℕ) → own_number μ c (record_at file (start + 14 * i)) ≡ own_at μ c file i
  own_here μ = ap (λ s. own_number μ c (record_at file (s + 14 * i))) w.begins

  pub within_here : within (cell_lengths c) (index_in (record_at file (start + 14 * i))) ≡ within_at c file i
  within_here = ap (λ s. within (cell_lengths c) (index_in (record_at file (s + 14 * i)))) w.begins

  pub place_here : place_of c (record_at file (start + 14 * i)) ≡ place_at c file i
  place_here = ap (λ s. place_of c (record_at file (s + 14 * i))) w.begins

  pub inside_here : i < record_count file → start + 14 * i + 14 ≤ count_at file + 4 + 14 * record_count file
  inside_here l = omega (arith, w.begins)

-- ---- the records' own numbers

module _ (μ : ℕ) (c : UnitCell) (file : List ℕ) where
  pub sound_start : SoundTo μ c file 0
  sound_start = record { some = omega arith; each = λ i l. absurd (omega arith) }

  pub sound_next : (r : ℕ) → SoundTo μ c file r → r < record_count file → 0 ≡ own_at μ c file r → SoundTo μ c file (r + 1)
  sound_next r s l e = record { some = omega arith; each = λ i h. by i h (ℕ_discrete i r) }
    where
      by : (i : ℕ) → i < r + 1 → Dec (i ≡ r) → 0 ≡ own_at μ c file i
      by i h (yes q) = subst (λ i. 0 ≡ own_at μ c file i) (sym q) e
      by i h (no n) = s.each i (omega arith)

  -- and fewer of them
  pub sound_fewer : {r s : ℕ} → SoundTo μ c file r → s ≤ r → SoundTo μ c file s
  sound_fewer o l = record { some = omega (arith, o.some); each = λ i h. o.each i (omega arith) }

-- their indices lie in the cell
pub sound_within : {μ : ℕ} {c : UnitCell} {file : List ℕ} {r : ℕ} → SoundTo μ c file r → WithinTo c file r
sound_within {μ} {c} s = record { some = s.some; each = λ i h. own_tested μ c _ (s.each i h) }

pub within_fewer : {c : UnitCell} {file : List ℕ} {r s : ℕ} → WithinTo c file r → s ≤ r → WithinTo c file s
within_fewer o l = record { some = omega (arith, o.some); each = λ i h. o.each i (omega arith) }

-- ---- the orbits whose places lie in a range

-- the marks are those of the records before place i, none of which is of the orbit of an earlier one
pub record Marking (c : UnitCell) (file : List ℕ) (low : ℕ) (marks : List ℕ) (i : ℕ) : Type 0 where
  pub only : (k : ℕ) → k < range → in_set marks k ≡ true → (m : ℕ) × (m < i) × (place_at c file m ≡ low + k)
  pub all : (m : ℕ) → m < i → low ≤ place_at c file m → place_at c file m < low + range → in_set marks (place_at c file m - low) ≡ true
  pub apart : Apart c file low (low + range) i

false_true : {A : Type 0} {b : Bool} → b ≡ false → b ≡ true → A
false_true e f = let z : ◌≡◌ {A = ℕ} 0 1 = cc in absurd (omega arith)

or_true : (b : Bool) → (b || true) ≡ true
or_true true = refl
or_true false = refl

pub marking_start : (c : UnitCell) (file : List ℕ) (low : ℕ) {marks : List ℕ} (n : ℕ) → marks ≡ replicate n 0 → Marking c file low marks 0
marking_start c file low n e = record {
  only = λ k h t. false_true (ap (λ s. in_set s k) e ∙ none_in n k) t;
  all = λ m h. absurd (omega arith);
  apart = record { each = λ k i l h. absurd (omega arith) };
}

module _ {c : UnitCell} {file : List ℕ} {low : ℕ} {marks : List ℕ} {i : ℕ} (s : Marking c file low marks i) (place : ℕ) (here : place ≡ place_at c file i) {marks' : List ℕ} {seen : Bool} (note : Noted low place marks seen marks') where
  pub marking_hit : seen ≡ true → (k : ℕ) × (k < i) × (place_at c file k ≡ place_at c file i)
  marking_hit t =
      let h = note.hit t in
      let m = s.only (place - low) (omega (arith, h.0, h.1)) h.2 in
      (m.0, m.1, omega (arith, m.2, h.0, here))

  pub marking_next : seen ≡ false → Marking c file low marks' (i + 1)
  marking_next f = record {
    only = λ k h t. only k h t (ℕ_discrete (low + k) place);
    all = λ m h l u. all m h l u (ℕ_discrete m i);
    apart = record { each = λ k j l h g u e. apart k j l h g u e (ℕ_discrete j i) };
  }
    where
      only : (k : ℕ) → k < range → in_set marks' k ≡ true → Dec (low + k ≡ place) → (m : ℕ) × (m < i + 1) × (place_at c file m ≡ low + k)
      only k h t (yes e) = (i, omega arith, sym here ∙ sym e)
      only k h t (no n) = let m = s.only k h (sym (note.each k h ∙ ap (λ b. b || in_set marks k) (ne_eqb (low + k) place n)) ∙ t) in (m.0, omega (arith, m.1), m.2)

      all : (m : ℕ) → m < i + 1 → low ≤ place_at c file m → place_at c file m < low + range → Dec (m ≡ i) → in_set marks' (place_at c file m - low) ≡ true
      all m h l u (yes e) =
          let same : place_at c file m ≡ place = ap (place_at c file) e ∙ sym here in
          let k = place_at c file m - low in
          note.each k (omega arith) ∙ ap (λ b. b || in_set marks k) (eq-eqb (low + k) place (omega arith))
      all m h l u (no n) =
          let k = place_at c file m - low in
          note.each k (omega arith) ∙ ap (λ b. eqb (low + k) place || b) (s.all m (omega arith) l u) ∙ or_true (eqb (low + k) place)

      apart : (k j : ℕ) → k < j → j < i + 1 → low ≤ place_at c file j → place_at c file j < low + range → place_at c file k ≡ place_at c file j → Dec (j ≡ i) → ⊥
      apart k j l h g u e (yes q) =
          let own : place_at c file j ≡ place = ap (place_at c file) q ∙ sym here in
          let all = s.all k (omega arith) (omega arith) (omega arith) in
          false_true (note.miss f (omega arith) (omega arith)) (ap (λ p. in_set marks (p - low)) (sym (e ∙ own)) ∙ all)
      apart k j l h g u e (no n) = s.apart.each k j l (omega arith) g u e

-- ---- ranges one after another

pub apart_start : (c : UnitCell) (file : List ℕ) (r : ℕ) → Apart c file 0 0 r
apart_start c file r = record { each = λ k i l h g u. absurd (omega arith) }

-- fewer records, in two ranges that meet
pub apart_next : {c : UnitCell} {file : List ℕ} {low high r s : ℕ} → Apart c file 0 low r → s ≤ r → Apart c file low high s → Apart c file 0 high s
apart_next {c} {file} {low} {high} {r} {s} p l q = record { each = λ k i h u g v e. by k i h u v e (ℕ_discrete (low - place_at c file i) 0) }
  where
    by : (k i : ℕ) → k < i → i < s → place_at c file i < high → place_at c file k ≡ place_at c file i → Dec (low - place_at c file i ≡ 0) → ⊥
    by k i h u v e (yes z) = q.each k i h u (omega arith) v e
    by k i h u v e (no n) = p.each k i h (omega arith) (omega arith) (omega arith) e

pub apart_lower : {c : UnitCell} {file : List ℕ} {high less r : ℕ} → Apart c file 0 high r → less ≤ high → Apart c file 0 less r
apart_lower p l = record { each = λ k i h u g v e. p.each k i h u g (omega arith) e }

pub apart_fewer : {c : UnitCell} {file : List ℕ} {low high r s : ℕ} → Apart c file low high r → s ≤ r → Apart c file low high s
apart_fewer p l = record { each = λ k i h u. p.each k i h (omega arith) }

pub stops_next : {c : UnitCell} {file : List ℕ} {limit r s : ℕ} → Stops c file limit r → Stops c file r s → Stops c file limit s
stops_next {c} {file} {limit} {r} {s} p q = record { some = omega (arith, p.some, q.some); repeats = λ h. by h (ℕ_discrete s r) }
  where
    by : s < limit → Dec (s ≡ r) → (k : ℕ) × (k < s) × (place_at c file k ≡ place_at c file s)
    by h (yes e) = subst (λ s. (k : ℕ) × (k < s) × (place_at c file k ≡ place_at c file s)) (sym e) (p.repeats (omega arith))
    by h (no n) = q.repeats (omega (arith, q.some))
