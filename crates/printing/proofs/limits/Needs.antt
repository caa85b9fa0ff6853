-- How many numbers a header asks for, whatever its numbers are.
use mathlib.Core.Path.{◌≡◌, ◌∙◌}
use Prim.Native.Nat.{ℕ}
use Rattle.cell.specs.Operations.{halves_of}
use Rattle.cell.specs.Volume.{group_of, volume_length}
use mathlib.Core.List.{List}
use Rattle.header.specs.Header.{needed}
use Rattle.file_format.specs.Format.{byte_at, two_bytes, group_at, length1_at, length2_at, length3_at, header_in}

-- the numbers of a header, and what they ask for
pub header_needs : (file : List ℕ) {r b n1 n2 n3 : ℕ} → r ≡ volume_length (group_of b) (halves_of n1 n2 n3) → b ≡ byte_at file group_at → n1 ≡ two_bytes file (length1_at file) → n2 ≡ two_bytes file (length2_at file) → n3 ≡ two_bytes file (length3_at file) → r ≡ needed (header_in file)
header_needs file e f x y z = e ∙ (λ i. volume_length (group_of (f i)) (halves_of (x i) (y i) (z i)))
