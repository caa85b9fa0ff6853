-- The bytes that are in no list, and those of the three lists.
use native.Mathlib.Omega.{arith}
use Rattle.file_format.specs.Format.{version_of}
use Rattle.file_format.specs.Layout.{header_with}
use Rattle.file_format.proofs.layout.Digits.{word_digits}
use Rattle.file_format.proofs.layout.FileParts.{length_header}
use Rattle.file_format.proofs.layout.header_length.Goals as goal

pub overflow_add-result : goal.overflow_add-result
overflow_add-result c = omega (arith, c.fixed_length.ensures.1, c.digit_count.ensures, word_digits c.args.f1 (omega arith))

pub overflow_add-result-2 : goal.overflow_add-result-2
overflow_add-result-2 c =
    omega (arith, c.fixed_length.ensures.1, c.digit_count.ensures, c.digit_count-2.ensures, word_digits c.args.f1 (omega arith), word_digits c.args.f2 (omega arith))

pub overflow_add-result-3 : goal.overflow_add-result-3
overflow_add-result-3 c =
    omega (arith, c.fixed_length.ensures.1, c.digit_count.ensures, c.digit_count-2.ensures, c.digit_count-3.ensures, word_digits c.args.f1 (omega arith), word_digits c.args.f2 (omega arith), word_digits c.args.f3 (omega arith))

pub returns : goal.returns
returns c =
    let a = c.args in
    let x = c.digit_count.ensures in
    let y = c.digit_count-2.ensures in
    let z = c.digit_count-3.ensures in (
      λ group n1 n2 n3. omega (arith, c.fixed_length.ensures.0, x, y, z, length_header (version_of a.modulus) a.modulus (header_with group n1 n2 n3 a.f1 a.f2 a.f3)),
      omega (arith, c.fixed_length.ensures.1, x, y, z, word_digits a.f1 (omega arith), word_digits a.f2 (omega arith), word_digits a.f3 (omega arith)),
    )
