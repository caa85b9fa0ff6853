-- The header that the writer writes.
use Rattle.std.specs.Prelude.{ℕ}
use Rattle.header.specs.Header.{Header}
use Rattle.lengths.specs.Lengths.{octal_digits}

-- the header by the numbers of a job, whose lists are octal digits
abbrev pub header_with : (group n1 n2 n3 f1 f2 f3 : ℕ) → Header
header_with group n1 n2 n3 f1 f2 f3 =
    record {
      group = group;
      lengths = (n1, n2, n3);
      list1 = octal_digits f1;
      list2 = octal_digits f2;
      list3 = octal_digits f3;
    }
