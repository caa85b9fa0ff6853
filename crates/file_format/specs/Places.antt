-- The places of a file's parts and the numbers of its header, as the code holds them.
use Rattle.std.specs.Prelude.{◌≡◌, List, ℕ, ◌<◌}
use Rattle.file_format.specs.Format.{byte_at, two_bytes, group_at, modulus_in, length1_at, length2_at, length3_at}
use Rattle.file_format.specs.Format.{list1_at, list2_at, list3_at, count_at}
use Rattle.file_format.specs.declared.places.Places.{Places}
use Rattle.file_format.specs.declared.places.HeaderNumbers.{HeaderNumbers}

-- The places are those of the file's lists and of its record count. A list has at most 255 factors.
pub record PlacesOf (file : List ℕ) (p : Places) : Type 0 where
  pub first : p.list1 ≡ list1_at file
  pub second : p.list2 ≡ list2_at file
  pub third : p.list3 ≡ list3_at file
  pub count : p.count ≡ count_at file
  pub near : p.count < 1024

-- The numbers are those of the header. A length has two bytes.
pub record NumbersOf (file : List ℕ) (n : HeaderNumbers) : Type 0 where
  pub modulus : n.modulus ≡ modulus_in file
  pub group : n.cell.group ≡ byte_at file group_at
  pub first : n.cell.n1 ≡ two_bytes file (length1_at file)
  pub second : n.cell.n2 ≡ two_bytes file (length2_at file)
  pub third : n.cell.n3 ≡ two_bytes file (length3_at file)
  pub short : (n.cell.n1 < 65536) × (n.cell.n2 < 65536) × (n.cell.n3 < 65536)
