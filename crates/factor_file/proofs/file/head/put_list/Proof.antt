-- The count of the digits, then the digits.
use borrow.Author.Rules.{rules}
use native.Mathlib.Omega.{arith}
use mathlib.Core.Path.{ap}
use mathlib.Core.List.{◌∷◌}
use Prim.Native.Nat.{ℕ}
use Rattle.lengths.specs.Lengths.{octal_digits}
use Rattle.output.proofs.Writing.{wrote_append, wrote_as}
use Rattle.file_format.proofs.layout.Digits.{word_digits}
use Rattle.factor_file.proofs.file.head.put_list.Statement.{statement}
use Rattle.factor_file.proofs.file.head.put_list.Tie as tie

digit_count-requires : tie.Need-digit_count-requires
digit_count-requires c κs = search rules

overflow_cast-digit_count : tie.Need-overflow_cast-digit_count
overflow_cast-digit_count c = omega (arith, c.digit_count.ensures, word_digits c.before.before.before.args.factors (omega arith))

put_byte-first-requires : tie.Need-put_byte-first-requires
put_byte-first-requires c κs = record { low = omega (arith, c.before.before.before.requires.low) }

put_digits-requires : tie.Need-put_digits-requires
put_digits-requires c κs =
    let p = c.before.before.before in
    let s = p.before.before.before.before in
    record { low = omega (arith, p.put_byte-first.ensures.place, s.requires.low) }

shape_of-out : tie.Need-shape_of-out
shape_of-out c = search rules

returns : tie.Need-returns
returns c =
    let d = c.before.before in
    let p = d.before.before.before.before in
    let f = p.before.before.before.before.args.factors in
    wrote_as (wrote_append p.put_byte-first.ensures d.put_digits.ensures) (ap (λ (n : ℕ). n ∷ octal_digits f) p.before.digit_count.ensures)

pub put_list_spec : {M : Type 1} → statement M
put_list_spec =
    tie.close
    (tie.spec digit_count-requires overflow_cast-digit_count put_byte-first-requires put_digits-requires shape_of-out returns)
