-- A header read by itself, beside the opening of its file: refused alike, and where it is sound the records decide.
use mathlib.Core.Path.{◌≡◌, refl, sym, ◌∙◌, ap}
use mathlib.Core.Bool.{false, not}
use mathlib.Core.List.{List, [], ◌∷◌, ◌++◌}
use Prim.Native.Nat.{ℕ, zero, suc, ◌+◌}
use native.Mathlib.Omega.{arith}
use lib.Dec.{leb}
use lib.ListN.{length, replicate}
use borrow.Author.Tests.{eq-eqb, leb-false, not-false}
use Rattle.refusals.specs.declared.Refusal.{Refusal}
use Rattle.refusals.specs.Refusals.{number_of, Test, first, accepted}
use Rattle.refusals.proofs.Tests.{fails, pass, none, not_t, passed, first_append, append_stop, append_pass}
use Rattle.cell.specs.Operations.{Sizes}
use Rattle.numbers.specs.Value.{is_modulus}
use Rattle.header.specs.Cells.{header_cell}
use Rattle.header.proofs.Headers.{sound_sizes}
use Rattle.job.specs.Job.{Header, needed, axis_tests, collecting, job_of, opened, not_opened, OpenOutcome, volume_tests, open_tests, open_step}
use Rattle.file_format.proofs.Rewriting.{length_from}
use Rattle.factor_file.specs.declared.file_header.FileHeader.{FileHeader}
use Rattle.factor_file.specs.File.{modulus_in, header_in, count_at, record_count, records_in, shape_tests, feed, file_step}
use Rattle.factor_file.specs.HeaderRead.{opening_tests, header_tests, header_named, HeaderSaid, named, not_named, judged_header, header_step, HeaderAsOpened}

-- ---- an opening of kind 0: its tests are those of the header, then those of the volume

module _ (m : ℕ) (h : Header) (v : List ℕ) where
  abbrev volume : List Test
  volume = volume_tests m h.group h.lengths 0 v

  both_tests : first (open_tests m h 0 v) ≡ first (opening_tests m h ++ volume)
  unfolding first
  both_tests = refl

  abbrev refused_with : ℕ → OpenOutcome
  refused_with n = record { answer = not_opened n 0; volume = v }

  abbrev opening : ℕ → OpenOutcome
  opening k = accepted k (record { answer = opened (job_of m h collecting); volume = replicate (length v) 0 }) refused_with

  opening_refused : (n : ℕ) → first (opening_tests m h) ≡ suc n → open_step m h 0 v ≡ refused_with (suc n)
  unfolding open_step
  opening_refused n e = ap opening (both_tests ∙ sym (append_stop (opening_tests m h) volume (λ z. omega (arith, z)) (sym e)))

  opening_sound : 0 ≡ first (opening_tests m h) → length v ≡ needed h → open_step m h 0 v ≡ record { answer = opened (job_of m h collecting); volume = replicate (length v) 0 }
  unfolding open_step
  opening_sound e l =
      let fits : 0 ≡ first volume = pass 6 _ (not_t _ (eq-eqb (length v) (needed h) l)) (pass 7 _ refl (pass 14 _ refl none)) in
      ap opening (both_tests ∙ sym (append_pass (opening_tests m h) volume (passed (opening_tests m h) tt e) fits))

-- ---- what the two numbers, of the shape and of the header, make of a header

abbrev said : FileHeader → (shape header : ℕ) → HeaderSaid
said d a b = accepted a (accepted b (named d) not_named) not_named

said_named : (d h : FileHeader) (a b : ℕ) → said d a b ≡ named h → (0 ≡ a) × (0 ≡ b) × (d ≡ h)
said_named d h zero zero e = (refl, refl, cc)
said_named d h zero (suc b) e = let z : ◌≡◌ {A = ℕ} 0 1 = cc in absurd (omega arith)
said_named d h (suc a) b e = let z : ◌≡◌ {A = ℕ} 0 1 = cc in absurd (omega arith)

said_number_lem : (d : FileHeader) (a b n : ℕ) → said d a b ≡ not_named n → accepted a b (λ n. n) ≡ n
said_number_lem d zero zero n e = let z : ◌≡◌ {A = ℕ} 0 1 = cc in absurd (omega arith)
said_number_lem d zero (suc b) n e = cc
said_number_lem d (suc a) b n e = cc

module _ (file : List ℕ) where
  abbrev m : ℕ
  m = modulus_in file

  abbrev head : Header
  head = header_in file

  abbrev found : FileHeader
  found = header_named m head (record_count file)

  header_is : header_step file ≡ said found (first (shape_tests file)) (first (opening_tests m head))
  unfolding header_step judged_header
  header_is = refl

  -- ---- what the code gives

  pub shape_unsound : (r : Refusal) → number_of r ≡ first (shape_tests file) → not_named (number_of r) ≡ header_step file
  unfolding header_step
  shape_unsound r e = fails r (first (shape_tests file)) (judged_header m head (record_count file)) not_named e

  pub shape_sound : 0 ≡ first (shape_tests file) → judged_header m head (record_count file) ≡ header_step file
  unfolding header_step
  shape_sound e = ap (λ (k : ℕ). accepted k (judged_header m head (record_count file)) not_named) e

  -- ---- beside the opening

  module _ (v : List ℕ) where
    abbrev behind : OpenOutcome → OpenOutcome
    behind o = elim o.answer [ opened j ↦ feed (records_in file) j o.volume | not_opened n place ↦ o ]

    abbrev filed : ℕ → OpenOutcome → OpenOutcome
    filed a o = accepted a (behind o) (refused_with m head v)

    file_is : file_step file v ≡ filed (first (shape_tests file)) (open_step m head 0 v)
    unfolding file_step
    file_is = refl

    refused : (n : ℕ) → header_step file ≡ not_named n → file_step file v ≡ refused_with m head v n
    refused n e = file_is ∙ by (first (shape_tests file)) (first (opening_tests m head)) refl (sym header_is ∙ e)
      where
        by : (a b : ℕ) → first (opening_tests m head) ≡ b → said found a b ≡ not_named n → filed a (open_step m head 0 v) ≡ refused_with m head v n
        by zero zero q e = absurd (let z : ◌≡◌ {A = ℕ} 0 1 = cc in omega (arith, z))
        by zero (suc b) q e = ap behind (opening_refused m head v b q) ∙ ap (refused_with m head v) (said_number_lem found 0 (suc b) n e)
        by (suc a) b q e = ap (refused_with m head v) (said_number_lem found (suc a) b n e)

    sound : (h : FileHeader) → header_step file ≡ named h → length v ≡ h.numbers → file_step file v ≡ feed (records_in file) (job_of m head collecting) (replicate (length v) 0)
    sound h e l =
        let s = said_named found h (first (shape_tests file)) (first (opening_tests m head)) (sym header_is ∙ e) in
        file_is ∙ (λ i. filed (sym s.0 i) (open_step m head 0 v)) ∙ ap behind (opening_sound m head v s.1 (l ∙ sym (ap (λ (d : FileHeader). d.numbers) s.2)))

  counted : (h : FileHeader) → header_step file ≡ named h → length (records_in file) ≡ h.records
  counted h e =
      let s = said_named found h (first (shape_tests file)) (first (opening_tests m head)) (sym header_is ∙ e) in
      length_from file (count_at file + 4) (record_count file) ∙ ap (λ (d : FileHeader). d.records) s.2

  first_refusal : (n : ℕ) → header_step file ≡ not_named n → first (header_tests file) ≡ n
  first_refusal n e = first_append (shape_tests file) (opening_tests m head) tt ∙ said_number_lem found (first (shape_tests file)) (first (opening_tests m head)) n (sym header_is ∙ e)

pub header_as_opened : HeaderAsOpened
header_as_opened = record { refused = refused; sound = sound; counted = counted; first = first_refusal; order = λ file. refl }

-- ---- a header that is judged

module _ (μ : ℕ) (h : Header) (records : ℕ) where
  pub header_unsound : (r : Refusal) → number_of r ≡ first (opening_tests μ h) → not_named (number_of r) ≡ judged_header μ h records
  unfolding judged_header
  header_unsound r e = fails r (first (opening_tests μ h)) (named (header_named μ h records)) not_named e

  module _ (e : 0 ≡ first (opening_tests μ h)) where
    pub header_named_lem : named (header_named μ h records) ≡ judged_header μ h records
    unfolding judged_header
    header_named_lem = ap (λ (k : ℕ). accepted k (named (header_named μ h records)) not_named) e

    -- its axes and its volume
    pub axes_sound : Sizes (header_cell h) × (0 ≡ first (axis_tests h))
    unfolding first
    axes_sound = let t = passed (opening_tests μ h) tt e in let a = rest t.0 t.1.0 e in (sound_sizes h a (leb-false 5 _ t.0), a)
      where
        rest : leb 5 h.group ≡ false → not (is_modulus μ) ≡ false → 0 ≡ first (opening_tests μ h) → 0 ≡ first (axis_tests h)
        rest p q e = simp (p, q) at e
