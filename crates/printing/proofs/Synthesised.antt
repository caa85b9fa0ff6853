-- A synthesis that no test refuses: the map that it makes is printable, and what is printed of it.
use mathlib.Core.Path.{◌≡◌, refl, sym, ap, ◌∙◌}
use mathlib.Core.Bool.{true}
use mathlib.Core.List.{List}
use Prim.Native.Nat.{ℕ}
use native.Mathlib.Omega.{arith}
use lib.ListN.{length, replicate, length-replicate}
use borrow.Author.Tests.{not-false, lt-ltb}
use Rattle.refusals.specs.Refusals.{first, accepted}
use Rattle.lengths.specs.Lengths.{scratch_length, cleared}
use Rattle.refusals.proofs.Tests.{passed}
use Rattle.cell.proofs.VolumeLayout.{length_map, below_map}
use Rattle.algebra.proofs.cells.Passing.{below_all}
use Rattle.job.specs.declared.Job.{Job}
use Rattle.std.specs.Prelude.{Ok, Err}
use Rattle.refusals.specs.declared.Refusal.{Refusal}
use Rattle.refusals.specs.Refusals.{number_of}
use Rattle.job.specs.Job.{valid_job, with_state, map_held, group_in, halves, done, refused, Said, Outcome, Worked, unchanged, synthesised, synthesis_step}
use Rattle.job.specs.TestSteps.{synthesis_tests}
use Rattle.job.specs.Answers.{worked}
use Rattle.job.proofs.Jobs.{valid_with}
use Rattle.printing.specs.Text.{map_text, put_text, text_step, prints_residues}
use Rattle.printing.specs.Printable.{Printable}
use Rattle.printing.proofs.map_text.Outcomes.{text_held}

pub synthesised_printable : (j : Job) (v : List ℕ) → valid_job j ≡ true → Printable (with_state j map_held) (synthesised j v)
unfolding prints_residues
synthesised_printable j v e = record {
  fitting = record { valid = valid_with j map_held e (omega arith); long = length_map (group_in j) (halves j) j.modulus _ };
  residues = below_all _ _ (λ z. below_all _ _ (λ x. below_all _ _ (λ y. lt-ltb _ _ ((below_map (group_in j) (halves j) j.modulus _).each _))));
}

-- the scratch that the printer lends
abbrev pub scratch : List ℕ
scratch = replicate scratch_length 0

pub scratch_length_lem : length scratch ≡ scratch_length
scratch_length_lem = length-replicate {A = ℕ} scratch_length 0

module _ (j : Job) (v : List ℕ) (none : 0 ≡ first (synthesis_tests j v scratch_length)) where
  pub synthesis_makes : (synthesis_step j v scratch).outcome ≡ record { answer = done; job = with_state j map_held; volume = synthesised j v }
  unfolding synthesis_step
  synthesis_makes =
      let e : first (synthesis_tests j v (length scratch)) ≡ 0 = ap (λ n. first (synthesis_tests j v n)) scratch_length_lem ∙ sym none in
      λ i. (accepted {O = Worked} (e i) (record { outcome = record { answer = done; job = with_state j map_held; volume = synthesised j v }; scratch = cleared scratch }) (λ n. record { outcome = unchanged j v n; scratch = scratch })).outcome

  -- it is not refused
  pub not_refused : (f : Refusal) {v' s' : List ℕ} → worked j (Err f) v' s' ≡ synthesis_step j v scratch → ⊥
  not_refused f e = let a : refused (number_of f) ≡ done = ap (λ (w : Worked). w.outcome.answer) e ∙ ap (λ (o : Outcome). o.answer) synthesis_makes in let z : ◌≡◌ {A = ℕ} 0 1 = cc in absurd (omega arith)

  -- what is printed of the job and the volume that it leaves
  pub synthesised_text : (out : List ℕ) (k : Job) {v' s' : List ℕ} → worked j (Ok k) v' s' ≡ synthesis_step j v scratch → text_step k v' out ≡ put_text (map_text (with_state j map_held) (synthesised j v)) out
  synthesised_text out k e =
      ap (λ (o : Outcome). text_step o.job o.volume out) (ap (λ (w : Worked). w.outcome) e ∙ synthesis_makes)
      ∙ text_held (with_state j map_held) (synthesised j v) out (synthesised_printable j v (not-false _ (passed (synthesis_tests j v scratch_length) tt none).0)) refl
