-- The synthesis of an opened file, by the reference model: no test refuses it, and its map is the model's.
use mathlib.Core.Path.{◌≡◌, refl, sym, ap, ◌∙◌, subst, subst₂}
use mathlib.Core.List.{List}
use Prim.Native.Nat.{ℕ, ◌≤◌, min}
use native.Mathlib.Omega.{arith}
use lib.ListN.{length, replicate, length-replicate}
use lib.Dec.{eqb}
use borrow.Author.Tests.{le-ltb}
use Rattle.refusals.specs.Refusals.{first}
use Rattle.refusals.proofs.Tests.{pass, none}
use Rattle.lengths.specs.Lengths.{scratch_length}
use Rattle.job.specs.declared.Job.{Job}
use Rattle.job.specs.Job.{needed, collecting, map_held, with_state, Opening, opened, done, Outcome, synthesised, synthesis_step}
use Rattle.job.specs.TestSteps.{synthesis_tests}
use Rattle.factor_file.specs.File.{modulus_in, header_in, file_step}
use Rattle.model.specs.Model.{Model, synthesis, in_state, map_volume, model_volume, model_job, begun, not_begun, model_file}
use Rattle.model.proofs.Sound.{LawfulModel, holds_map}
use Rattle.model.proofs.OneCall.{result, accepted_call}
use Rattle.demands.specs.Demands.{reading, Started, Faultless}
use Rattle.job.proofs.Outcomes.{synthesis_accepted}
use Rattle.demands.proofs.Starts.{accepted_start, started_sound, faultless_starts}
use Rattle.demands.proofs.AcceptedRecords.{start_fed}
use Rattle.printing.specs.Text.{map_text, refusal_text, file_limit, lent_limit, opened_text, printed}
use Rattle.printing.specs.PrintedModel.{WithinLimits, PrintsModel}
use Rattle.printing.proofs.Synthesised.{scratch, scratch_length_lem, synthesis_makes}

-- ---- of a sound model that collects

module _ {μ : ℕ} (m : Model μ) (sound : LawfulModel m) (state : m.state ≡ collecting) where
  synthesis_done : (synthesis_step (model_job m) (model_volume m) scratch).outcome ≡ result done (in_state m map_held)
  synthesis_done =
      let long : scratch_length ≤ length scratch = omega (arith, scratch_length_lem) in
      accepted_call m sound (synthesis scratch) (pass 23 _ (ap (λ s. eqb s map_held) state) (pass 13 _ (le-ltb (length scratch) scratch_length long) none))

  pub model_synthesis : 0 ≡ first (synthesis_tests (model_job m) (model_volume m) scratch_length)
  model_synthesis = subst (λ n. 0 ≡ first (synthesis_tests (model_job m) (model_volume m) n)) scratch_length_lem (synthesis_accepted (model_job m) (model_volume m) scratch (ap (λ (o : Outcome). o.answer) synthesis_done))

  pub model_map : synthesised (model_job m) (model_volume m) ≡ map_volume m
  model_map = ap (λ (o : Outcome). o.volume) (sym (synthesis_makes (model_job m) (model_volume m) model_synthesis) ∙ synthesis_done) ∙ holds_map (in_state m map_held) refl

-- ---- of a file

module _ (file v : List ℕ) (j : Job) (w : List ℕ) (m : Model (modulus_in file)) (started : Started (reading file v refl) j w m) where
  pub file_lawful : LawfulModel m
  file_lawful = (started_sound (reading file v refl) j w m started).0

  pub file_collects : m.state ≡ collecting
  file_collects = (start_fed (reading file v refl) j w m started).same_state

pub opened_synthesis : (file v : List ℕ) (j : Job) (w : List ℕ) → file_step file v ≡ record { answer = opened j; volume = w } → 0 ≡ first (synthesis_tests j w scratch_length)
opened_synthesis file v j w e =
    let (m, b, sound, ej, ew) = accepted_start {μ = modulus_in file} (reading file v refl) j w e in
    subst₂ (λ (j : Job) (w : List ℕ). 0 ≡ first (synthesis_tests j w scratch_length)) (sym ej) (sym ew) (model_synthesis m sound (file_collects file v j w m (record { gives = e; begins = b })))

-- ---- the printer's text

module _ (file : List ℕ) (limits : WithinLimits file) where
  abbrev lent : List ℕ
  lent = replicate (needed (header_in file)) 0

  without_fault : Faultless {μ = modulus_in file} (reading file lent refl)
  without_fault = record { long = length-replicate (needed (header_in file)) 0; map = λ e. absurd (omega (arith, e)) }

  is_printed : printed file ≡ opened_text (file_step file lent)
  unfolding printed
  is_printed = let e : min (needed (header_in file)) lent_limit ≡ needed (header_in file) = omega (arith, limits.small) in
      rw (le-ltb file_limit (length file) limits.short) (ap (λ n. opened_text (file_step file (replicate n 0))) e)

  prints : (m : Model (modulus_in file)) → model_file (modulus_in file) file ≡ begun m → printed file ≡ map_text (model_job (in_state m map_held)) (map_volume m)
  prints m b =
      let e = faultless_starts.accepts (modulus_in file) (reading file lent refl) m without_fault b in
      let started : Started (reading file lent refl) (model_job m) (model_volume m) m = record { gives = e; begins = b } in
      is_printed ∙ ap opened_text e
      ∙ ap (map_text (with_state (model_job m) map_held)) (model_map m (file_lawful file lent (model_job m) (model_volume m) m started) (file_collects file lent (model_job m) (model_volume m) m started))

  refused_alike : (n place : ℕ) → model_file (modulus_in file) file ≡ not_begun n place → printed file ≡ refusal_text n place
  refused_alike n place b =
      is_printed ∙ ap (λ (a : Opening). opened_text (record { answer = a; volume = (file_step file lent).volume })) (faultless_starts.refuses (modulus_in file) (reading file lent refl) n place without_fault b)

pub prints_model : PrintsModel
prints_model = record { prints = λ file m limits. prints file limits m; refuses = λ file n place limits. refused_alike file limits n place }
