-- The four bytes of its float.
use Rattle.std.proofs.Common.{◌≡◌, ◌∙◌, sym, ap, ℕ, ℤ, w64, to_z, of_z}
use mir.Val.{SFits}
use mir.ValLaws.{to_z-of_z}
use Rattle.output.specs.Output.{little_endian}
use Rattle.output.proofs.Writing.{wrote_as, ends_as}
use Rattle.mrc.specs.Floats.{float_of, bits}
use Rattle.mrc.specs.Mrc.{density_bytes}
use Rattle.mrc.proofs.writing.put_density.Goals as goal

-- the bytes as they are written
bytes : {word : ℕ} (n : ℤ) → SFits w64 n → word ≡ bits (float_of (to_z w64 (of_z w64 n))) → little_endian 4 word ≡ density_bytes n
bytes n f e = ap (little_endian 4) (e ∙ ap (λ z. bits (float_of z)) (to_z-of_z w64 n f))

pub put_four-requires : goal.put_four-requires
put_four-requires c = ends_as c.requires.1 (sym (bytes c.args.n c.ranges.n c.float_bits.ensures))

pub returns : goal.returns
returns c = wrote_as c.put_four.ensures (bytes c.args.n c.ranges.n c.float_bits.ensures)
