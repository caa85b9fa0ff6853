-- The letter, the number and the line feed.
use Rattle.std.proofs.Common.{◌≡◌, ap, sym, List, [], ◌∷◌, ◌++◌, ℕ, ℤ, w64, to_z, of_z}
use mir.Val.{SFits}
use mir.ValLaws.{to_z-of_z}
use Rattle.output.specs.Output.{signed_decimal, line_feed}
use Rattle.output.proofs.Writing.{wrote_append, wrote_as, ends_as, ends_left, ends_right}
use Rattle.section.specs.Section.{aligned, closing_line}
use Rattle.section.proofs.fields.put_closing_line.Goals as goal

-- the number's field, as the machine keeps the number, and what follows the letter
abbrev field : ℤ → List ℕ
field n = aligned 68 (signed_decimal (to_z w64 (of_z w64 n)))

abbrev rest : ℤ → List ℕ
rest n = field n ++ line_feed ∷ []

line : (letter : ℕ) (n : ℤ) → SFits w64 n → letter ∷ rest n ≡ closing_line letter n
unfolding closing_line
line letter n f = ap (λ z. letter ∷ (aligned 68 (signed_decimal z) ++ line_feed ∷ [])) (to_z-of_z w64 n f)

pub put_byte-field-requires : goal.put_byte-field-requires
put_byte-field-requires c = ends_left (c.args.letter ∷ []) (rest c.args.n) (ends_as c.requires (sym (line c.args.letter c.args.n c.ranges.n)))

pub put_aligned-end-requires : goal.put_aligned-end-requires
put_aligned-end-requires c =
    ends_left (field c.args.n) (line_feed ∷ []) (ends_right (rest c.args.n) c.put_byte-field.ensures (ends_as c.requires (sym (line c.args.letter c.args.n c.ranges.n))))

pub put_byte-requires : goal.put_byte-requires
put_byte-requires c =
    ends_right (line_feed ∷ []) c.put_aligned-end.ensures (ends_right (rest c.args.n) c.put_byte-field.ensures (ends_as c.requires (sym (line c.args.letter c.args.n c.ranges.n))))

pub returns : goal.returns
returns c = wrote_as (wrote_append c.put_byte-field.ensures (wrote_append c.put_aligned-end.ensures c.put_byte.ensures)) (line c.args.letter c.args.n c.ranges.n)
