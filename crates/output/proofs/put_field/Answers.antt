-- The number, which is a whole number not below zero, behind a blank.
use Rattle.std.proofs.Common.{◌≡◌, ◌∷◌, sym, ap, w64, to_z, arith}
use Rattle.std.proofs.Common.{ℕ, ◌<◌}
use mir.ValLaws.{to_z_pos}
use Rattle.output.specs.Output.{blank, decimal, signed_decimal}
use Rattle.output.proofs.Writing.{wrote_as, ends_as}
use Rattle.output.proofs.put_field.Goals as goal

text : (n : ℕ) → n < 4294967296 → blank ∷ signed_decimal (to_z w64 n) ≡ blank ∷ decimal n
unfolding signed_decimal
text n l = ap (λ z. blank ∷ signed_decimal z) (to_z_pos w64 n (omega arith))

pub put_signed_field-requires : goal.put_signed_field-requires
put_signed_field-requires c = ends_as c.requires (sym (text c.args.n (omega arith)))

pub returns : goal.returns
returns c = wrote_as c.put_signed_field.ensures (text c.args.n (omega arith))
