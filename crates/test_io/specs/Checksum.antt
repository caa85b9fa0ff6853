-- The checksum that the test programs print: of every number of a list, in order.
use Rattle.std.specs.Prelude.{List, [], ◌∷◌, ℕ, ◌+◌, ◌*◌, ◌%◌}

unfoldable pub checksum_from : ℕ → List ℕ → ℕ
checksum_from h [] = h
checksum_from h (x ∷ l) = checksum_from ((h * 31 + x + 1) % 2147483647) l

abbrev pub checksum_of : List ℕ → ℕ
checksum_of l = checksum_from 7 l
