-- The residue's whole number, which 64 bits hold as it is, behind a blank.
use borrow.Author.Rules.{rules}
use mathlib.Core.Path.{◌≡◌, sym, ap, ◌∙◌}
use mathlib.Core.List.{◌∷◌}
use native.Mathlib.Omega.{arith}
use mir.Syntax.{w32, w64}
use mir.Val.{SFits, to_z, of_z}
use Rattle.signed.proofs.Machine.{wide_fits, wide_is}
use Rattle.output.specs.Output.{blank, signed_decimal}
use Rattle.output.proofs.Writing.{wrote_as, ends_as}
use Rattle.printing.specs.Text.{value_text}
use Rattle.printing.proofs.row_values.put_value.Statement.{statement}
use Rattle.printing.proofs.row_values.put_value.Tie as tie

small : (c : tie.After-centre) → SFits w32 c.centre.result
small c = record { sfits = c.centre.type_inv }

-- the text as it is written is the value's
text : (c : tie.After-centre) → blank ∷ signed_decimal (to_z w64 (of_z w64 (to_z w32 (of_z w32 c.centre.result)))) ≡ value_text c.args.p c.args.value
text c = ap (λ z. blank ∷ signed_decimal z) (wide_is c.centre.result (small c) ∙ c.centre.ensures)

centre-requires : tie.Need-centre-requires
centre-requires c κs = (omega (arith, c.requires.0.0), omega (arith, c.requires.0.1))

overflow_cast-centre : tie.Need-overflow_cast-centre
overflow_cast-centre c = wide_fits c.centre.result (small c)

put_signed_field-requires : tie.Need-put_signed_field-requires
put_signed_field-requires c κs = ends_as c.requires.1 (sym (text c))

shape_of-out : tie.Need-shape_of-out
shape_of-out c = search rules

returns : tie.Need-returns
returns c = let d = c.before.before in wrote_as d.put_signed_field.ensures (text d.before)

pub put_value_spec : {M : Type 1} → statement M
put_value_spec =
    tie.close
    (tie.spec centre-requires overflow_cast-centre put_signed_field-requires shape_of-out returns)
