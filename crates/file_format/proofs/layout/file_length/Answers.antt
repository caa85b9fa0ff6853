-- Two counts, the header and the records.
use native.Mathlib.Omega.{arith}
use Rattle.file_format.specs.Format.{version_of}
use Rattle.file_format.specs.Layout.{header_with}
use Rattle.file_format.proofs.layout.FileParts.{length_file}
use Rattle.file_format.proofs.layout.file_length.Goals as goal

pub returns : goal.returns
returns c =
    let a = c.args in
    let h = c.header_length.ensures in (
      λ group n1 n2 n3 cs e. omega (arith, h.0 group n1 n2 n3, e, length_file (version_of a.modulus) a.modulus (header_with group n1 n2 n3 a.f1 a.f2 a.f3) cs),
      omega (arith, h.1),
    )
