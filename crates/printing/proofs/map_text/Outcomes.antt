-- The outcome of a text's call: refused, or written.
use mathlib.Core.Path.{◌≡◌, refl, ◌∙◌}
use mathlib.Core.Bool.{Bool, true, false, cond}
use mathlib.Core.List.{List}
use Prim.Native.Nat.{ℕ, ◌<◌, ◌≤◌}
use lib.Dec.{ltb}
use lib.ListN.{length}
use borrow.Author.Tests.{not-false, eqb-true, ltb-false, eq-eqb, lt-ltb, le-ltb}
use Rattle.refusals.specs.declared.Refusal.{Refusal}
use Rattle.refusals.specs.declared.Refusal.TheVariants.{OutputTooShort}
use Rattle.refusals.specs.Refusals.{number_of, first, accepted}
use Rattle.refusals.proofs.Tests.{passed, passes, fails}
use Rattle.cell.specs.Volume.{volume_length}
use Rattle.job.specs.declared.Job.{Job}
use Rattle.job.specs.Job.{group_in, halves, map_held}
use Rattle.std.specs.Prelude.{Ok, Err}
use Rattle.printing.specs.Text.{map_text, text_tests, put_text, text_step}
use Rattle.output.specs.Output.{not_written, filled}
use Rattle.output.specs.Answers.{fill_outcome}
use Rattle.output.specs.Written.{Wrote}
use Rattle.printing.specs.Printable.{Printable}
use Rattle.output.proofs.Writing.{wrote_filled}

-- ---- a text that goes to an output if that is long enough

pub put_refused : (text out : List ℕ) → length out < length text → fill_outcome (Err OutputTooShort) out ≡ put_text text out
put_refused text out h = rw (lt-ltb (length out) (length text) h)

pub put_written : {n : ℕ} {text out out' : List ℕ} → Wrote 0 text out n out' → length text ≤ length out → fill_outcome (Ok n) out' ≡ put_text text out
put_written {n} {text} {out} {out'} w l = rw (le-ltb (length out) (length text) l) (wrote_filled w l)

-- ---- the call

module _ (j : Job) (v out : List ℕ) where
  pub text_refused : (r : Refusal) → number_of r ≡ first (text_tests j v (length out)) → fill_outcome (Err r) out ≡ text_step j v out
  unfolding text_step
  text_refused r e = fails r _ _ (λ n. record { answer = not_written n; output = out }) e

  module _ (none : 0 ≡ first (text_tests j v (length out))) where
    pub text_printable : Printable j v
    text_printable =
        let t = passed (text_tests j v (length out)) tt none in
        record { fitting = record { valid = not-false _ t.0; long = eqb-true _ _ (not-false _ t.1.1.0) }; residues = not-false _ t.1.1.1.0 }

    pub text_written : {n : ℕ} {out' : List ℕ} → Wrote 0 (map_text j v) out n out' → fill_outcome (Ok n) out' ≡ text_step j v out
    unfolding text_step
    text_written w =
        let t = passed (text_tests j v (length out)) tt none in
        wrote_filled w (ltb-false _ _ t.1.1.1.1.0) ∙ passes _ _ (λ n. record { answer = not_written n; output = out }) none

  -- of a map that is held, only the output's length is left to ask
  pub text_held : Printable j v → j.state ≡ map_held → text_step j v out ≡ put_text (map_text j v) out
  unfolding text_step first
  text_held p h = rw (p.fitting.valid, eq-eqb j.state map_held h, eq-eqb (length v) (volume_length (group_in j) (halves j)) p.fitting.long, p.residues) (short (ltb (length out) (length (map_text j v))))
    where
      short : (b : Bool) → accepted (cond b 18 0) (filled (map_text j v) out) (λ n. record { answer = not_written n; output = out }) ≡ cond b (record { answer = not_written 18; output = out }) (filled (map_text j v) out)
      short true = refl
      short false = refl
