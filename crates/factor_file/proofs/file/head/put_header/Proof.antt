-- Version, group and modulus, lengths and lists, one after the other.
use borrow.Author.Rules.{rules}
use native.Mathlib.Omega.{arith}
use Prim.Native.Nat.{◌+◌, ◌≤◌}
use lib.ListN.{length}
use Rattle.lengths.specs.Lengths.{octal_digits}
use Rattle.output.specs.Output.{big_endian}
use Rattle.output.proofs.Writing.{wrote_append}
use Rattle.factor_file.specs.Steps.{header_for}
use Rattle.file_format.specs.Format.{version_of, modulus_bytes, header_bytes}
use Rattle.file_format.proofs.layout.FileParts.{length_header}
use Rattle.factor_file.proofs.file.head.put_header.Statement.{statement}
use Rattle.factor_file.proofs.file.head.put_header.Tie as tie

-- where the whole ends
ends : (s : tie.Start) → let a = s.args in a.at + 11 + length (modulus_bytes (version_of a.modulus) a.modulus) + length (octal_digits a.f1) + length (octal_digits a.f2) + length (octal_digits a.f3) ≤ 1152921504606846976
ends s = let a = s.args in omega (arith, s.requires.1.low, length_header (version_of a.modulus) a.modulus (header_for a.cell a.f1 a.f2 a.f3))

put_numbers-first_axis-requires : tie.Need-put_numbers-first_axis-requires
put_numbers-first_axis-requires c κs = let s = c.before.before in (s.requires.0.0, s.requires.0.1, record { low = omega (arith, ends s) })

put_two-second_axis-requires : tie.Need-put_two-second_axis-requires
unfolding big_endian
put_two-second_axis-requires c κs = (omega arith, record { low = omega (arith, ends c.before.before.before.before.before.before) })

put_two-third_axis-requires : tie.Need-put_two-third_axis-requires
unfolding big_endian
put_two-third_axis-requires c κs = (omega arith, record { low = omega (arith, ends c.before.before.before.before.before.before.before.before.before.before) })

put_two-first_list-requires : tie.Need-put_two-first_list-requires
unfolding big_endian
put_two-first_list-requires c κs = (omega arith, record { low = omega (arith, ends c.before.before.before.before.before.before.before.before.before.before.before.before.before.before) })

put_list-second_list-requires : tie.Need-put_list-second_list-requires
unfolding big_endian
put_list-second_list-requires c κs = record { low = omega (arith, ends c.before.before.before.before.before.before.before.before.before.before.before.before.before.before.before.before.before.before) }

put_list-third_list-requires : tie.Need-put_list-third_list-requires
unfolding big_endian
put_list-third_list-requires c κs = record { low = omega (arith, ends c.before.before.before.before.before.before.before.before.before.before.before.before.before.before.before.before.before.before.before.before.before.before) }

put_list-requires : tie.Need-put_list-requires
unfolding big_endian
put_list-requires c κs = record { low = omega (arith, ends c.before.before.before.before.before.before.before.before.before.before.before.before.before.before.before.before.before.before.before.before.before.before.before.before.before.before) }

shape_of-out : tie.Need-shape_of-out
shape_of-out c = search rules

returns : tie.Need-returns
unfolding header_bytes
returns c =
    let p8 = c.before.before in
    let p7 = p8.before.before.before.before in
    let p6 = p7.before.before.before.before in
    let p5 = p6.before.before.before.before in
    let p4 = p5.before.before.before.before in
    let p3 = p4.before.before.before.before in
    let p2 = p3.before.before.before.before in
    let lengths = wrote_append (wrote_append (wrote_append p2.put_numbers-first_axis.ensures p3.put_two-second_axis.ensures) p4.put_two-third_axis.ensures) p5.put_two-first_list.ensures in
    wrote_append (wrote_append (wrote_append lengths p6.put_list-second_list.ensures) p7.put_list-third_list.ensures) p8.put_list.ensures

pub put_header_spec : {M : Type 1} → statement M
put_header_spec =
    tie.close
    (tie.spec put_numbers-first_axis-requires put_two-second_axis-requires put_two-third_axis-requires put_two-first_list-requires put_list-second_list-requires put_list-third_list-requires put_list-requires shape_of-out returns)
