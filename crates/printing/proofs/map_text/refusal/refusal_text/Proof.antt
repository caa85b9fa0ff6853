-- Measured, then written.
use borrow.Author.Rules.{rules}
use mathlib.Core.Path.{◌≡◌, ap, subst, ◌∙◌}
use Prim.Native.Nat.{ℕ, ◌<◌, ◌≤◌}
use lib.ListN.{length}
use Rattle.refusals.specs.Refusals.{number_of}
use Rattle.printing.specs.Text.{refusal_text}
use Rattle.output.specs.Written.{Wrote}
use Rattle.printing.proofs.map_text.Outcomes.{put_refused, put_written}
use Rattle.printing.proofs.map_text.refusal.refusal_text.Statement.{statement}
use Rattle.printing.proofs.map_text.refusal.refusal_text.Tie as tie

-- the text's length
measured : (c : tie.After-refusal_length) → c.refusal_length.result ≡ length (refusal_text (number_of c.args.refusal) c.args.place)
measured c = c.refusal_length.ensures ∙ ap (λ (n : ℕ). length (refusal_text n c.args.place)) c.number_of-number.ensures

number_of-number-requires : tie.Need-number_of-number-requires
number_of-number-requires c κs = search rules

refusal_length-requires : tie.Need-refusal_length-requires
refusal_length-requires c κs = search rules

returns-then-out-refusal_length : tie.Need-returns-then-out-refusal_length
returns-then-out-refusal_length c =
    let m = c.before in
    put_refused (refusal_text (number_of m.args.refusal) m.args.place) m.args.out.now (subst (λ (n : ℕ). length m.args.out.now < n) (measured m) c.if-out-refusal_length.true)

put_refusal-requires : tie.Need-put_refusal-requires
put_refusal-requires c κs = search rules

shape_of-out : tie.Need-shape_of-out
shape_of-out c = search rules

returns : tie.Need-returns
returns c =
    let w = c.before.before in
    let i = w.before.before in
    let m = i.before in
    put_written
    (subst (λ (n : ℕ). Wrote 0 (refusal_text n m.args.place) m.args.out.now w.put_refusal.result w.put_refusal.new.out) m.number_of-number.ensures w.put_refusal.ensures)
    (subst (λ (n : ℕ). n ≤ length m.args.out.now) (measured m) i.if-out-refusal_length.false)

pub refusal_text_spec : {M : Type 1} → statement M
refusal_text_spec =
    tie.close
    (tie.spec number_of-number-requires refusal_length-requires returns-then-out-refusal_length put_refusal-requires shape_of-out returns)
