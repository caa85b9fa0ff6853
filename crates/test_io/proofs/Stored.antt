-- The checksum of a list that is read from the start.
use Rattle.std.proofs.Common.{◌≡◌, ℕ, ◌+◌, ◌*◌, ◌%◌, ◌<◌, ◌≤◌, List, length, drop, get_or, refl, ap, add-one, drop-cons, drop_of_length-le}
use Rattle.test_io.specs.Checksum.{checksum_from}

-- the checksum goes on by the number at j, and ends with the list
pub checksum_next : (l : List ℕ) (h j : ℕ) → j < length l → checksum_from h (drop j l) ≡ checksum_from ((h * 31 + get_or l j 0 + 1) % 2147483647) (drop (j + 1) l)
unfolding checksum_from
checksum_next l h j b = rw (add-one j, drop-cons l j 0) refl

pub checksum_end : (l : List ℕ) (h j : ℕ) → length l ≤ j → checksum_from h (drop j l) ≡ h
unfolding checksum_from
checksum_end l h j b = ap (checksum_from h) (drop_of_length-le l b)
