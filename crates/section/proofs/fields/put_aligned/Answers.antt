-- As many blanks as the number, measured, leaves room for; then the number.
use Rattle.std.proofs.Common.{◌≡◌, ◌∙◌, ap, sym, ◌++◌, ℕ, ◌-◌, length, replicate, ℤ, w64, to_z, of_z, arith}
use mir.Val.{SFits}
use mir.ValLaws.{to_z-of_z}
use Rattle.output.specs.Output.{signed_decimal, blank}
use Rattle.output.proofs.Decimals.{signed_short}
use Rattle.output.proofs.Writing.{wrote_append, wrote_as, ends_as, ends_left, ends_right}
use Rattle.section.specs.Section.{aligned}
use Rattle.section.proofs.fields.put_aligned.Goals as goal

-- the number as the machine keeps it, which is the number
abbrev kept : ℤ → ℤ
kept n = to_z w64 (of_z w64 n)

-- the blanks and the number are the field
text : (width used : ℕ) (n : ℤ) → SFits w64 n → used ≡ length (signed_decimal (kept n)) → replicate (width - used) blank ++ signed_decimal (kept n) ≡ aligned width (signed_decimal n)
text width used n f e = ap (λ k. replicate (width - k) blank ++ signed_decimal (kept n)) e ∙ ap (λ z. aligned width (signed_decimal z)) (to_z-of_z w64 n f)

pub put_signed-used-requires : goal.put_signed-used-requires
put_signed-used-requires c = record { low = omega (arith, signed_short (kept c.args.n)) }

pub put_blanks-number-requires : goal.put_blanks-number-requires
put_blanks-number-requires c =
    let field = text c.args.width c.put_signed-used.result c.args.n c.ranges.n (omega (arith, c.put_signed-used.ensures.place)) in
    ends_left _ (signed_decimal (kept c.args.n)) (ends_as c.requires (sym field))

pub put_signed-requires : goal.put_signed-requires
put_signed-requires c =
    let field = text c.args.width c.put_signed-used.result c.args.n c.ranges.n (omega (arith, c.put_signed-used.ensures.place)) in
    ends_right _ c.put_blanks-number.ensures (ends_as c.requires (sym field))

pub returns : goal.returns
returns c =
    let field = text c.args.width c.put_signed-used.result c.args.n c.ranges.n (omega (arith, c.put_signed-used.ensures.place)) in
    wrote_as (wrote_append c.put_blanks-number.ensures c.put_signed.ensures) field
