-- Every text that is printed is short. That of a refusal is; that of a map has at most 21 bytes for each number of its volume, beside its first line.
use mathlib.Core.Path.{◌≡◌, refl}
use mathlib.Core.Bool.{Bool, true, false, cond}
use mathlib.Core.List.{List}
use Prim.Native.Nat.{ℕ, ◌≤◌, min}
use native.Mathlib.Omega.{arith}
use lib.ListN.{length, replicate, length-replicate}
use lib.Dec.{ltb}
use borrow.Author.Tests.{not-false, eqb-true}
use Rattle.refusals.proofs.Tests.{passed}
use Rattle.lengths.specs.Lengths.{scratch_length}
use Rattle.cell.specs.Volume.{volume_length}
use Rattle.job.specs.declared.Job.{Job}
use Rattle.job.specs.Job.{needed, with_state, map_held, group_in, halves, Opening, opened, not_opened, synthesised}
use Rattle.job.specs.TestSteps.{synthesis_tests}
use Rattle.factor_file.specs.File.{header_in, file_step}
use Rattle.factor_file.proofs.Lengths.{file_length_lem}
use Rattle.printing.specs.Text.{map_text, refusal_text, file_limit, lent_limit, opened_text, printed}
use Rattle.printing.proofs.map_text.Printing.{map_short}
use Rattle.printing.proofs.map_text.Refusals.{refusal_short}
use Rattle.printing.specs.Fits.{AlwaysFits}
use Rattle.printing.proofs.Synthesised.{synthesised_printable}
use Rattle.printing.proofs.Opened.{opened_synthesis}

-- 88 bytes, and 22 for each of 2,048 numbers
abbrev Short : List ℕ → Type 0
Short text = length text ≤ 45144

short_refusal : (n place : ℕ) → Short (refusal_text n place)
short_refusal n place = omega (arith, refusal_short n place)

-- an opened file leaves a map, of a volume as long as the one that it is lent
map_of_opened : (file v : List ℕ) (j : Job) (w : List ℕ) → file_step file v ≡ record { answer = opened j; volume = w } → length w ≤ lent_limit → Short (map_text (with_state j map_held) (synthesised j w))
map_of_opened file v j w e l =
    let t = passed (synthesis_tests j w scratch_length) tt (opened_synthesis file v j w e) in
    let p = synthesised_printable j w (not-false _ t.0) in
    let lent : length w ≡ volume_length (group_in j) (halves j) = eqb-true _ _ (not-false _ t.1.1.0) in
    omega (arith, map_short p.fitting, p.fitting.long, lent, l)

opened_short : (file v : List ℕ) → length (file_step file v).volume ≤ lent_limit → Short (opened_text (file_step file v))
opened_short file v l = by (file_step file v).answer refl
  where
    by : (a : Opening) → (file_step file v).answer ≡ a → Short (opened_text (record { answer = a; volume = (file_step file v).volume }))
    by (opened j) e = map_of_opened file v j (file_step file v).volume (λ i. record { answer = e i; volume = (file_step file v).volume }) l
    by (not_opened n place) e = short_refusal n place

printed_short : (file : List ℕ) → Short (printed file)
unfolding printed
printed_short file = by (ltb file_limit (length file))
  where
    lent : List ℕ
    lent = replicate (min (needed (header_in file)) lent_limit) 0

    by : (b : Bool) → Short (cond b (refusal_text 15 0) (opened_text (file_step file lent)))
    by true = short_refusal 15 0
    by false = opened_short file lent (omega (arith, file_length_lem file lent, length-replicate {A = ℕ} (min (needed (header_in file)) lent_limit) 0))

pub always_fits : AlwaysFits
always_fits = record { fits = λ file. omega (arith, printed_short file) }
