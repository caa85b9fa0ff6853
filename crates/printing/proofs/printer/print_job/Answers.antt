-- The text of the map that the synthesis makes: no test refuses it.
use mathlib.Core.Path.{◌∙◌, sym, ap}
use Rattle.job.specs.Answers.{worked}
use Rattle.printing.proofs.Synthesised.{not_refused, synthesised_text}
use Rattle.printing.proofs.printer.print_job.Goals as goal

pub returns-in_err-synthesised : goal.returns-in_err-synthesised
returns-in_err-synthesised c =
    absurd (not_refused c.args.job c.args.volume.now c.requires _ (ap (λ r. worked c.args.job r c.synthesis.new.volume c.synthesis.new.scratch) (sym c.in_err-synthesised.was) ∙ c.synthesis.ensures))

pub returns : goal.returns
returns c =
    c.map_text.ensures
    ∙ synthesised_text c.args.job c.args.volume.now c.requires c.args.out.now _ (ap (λ r. worked c.args.job r c.synthesis.new.volume c.synthesis.new.scratch) (sym c.in_ok-synthesised.was) ∙ c.synthesis.ensures)
