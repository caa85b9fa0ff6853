-- The refusal's number.
use borrow.Author.Rules.{rules}
use mathlib.Core.Path.{ap}
use Prim.Native.Nat.{ℕ}
use Rattle.signed.specs.Integers.{pos}
use Rattle.job.specs.declared.reply.Reply.{Reply}
use Rattle.job.proofs.reply.of_refusal.Statement.{statement}
use Rattle.job.proofs.reply.of_refusal.Tie as tie

number_of-requires : tie.Need-number_of-requires
number_of-requires c κs = search rules

returns : tie.Need-returns
returns c = ap {B = Reply} (λ (n : ℕ). record { number = n; x = pos 0; y = pos 0 }) c.number_of.ensures

pub of_refusal_spec : {M : Type 1} → statement M
of_refusal_spec = tie.close (tie.spec number_of-requires returns)
