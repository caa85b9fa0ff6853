-- The output that the map printer's program lends is long enough: the text of every file fits into its 65,536 bytes.
use Rattle.std.specs.Prelude.{List, ℕ, ◌≤◌, length}
use Rattle.printing.specs.Text.{printed}

pub record AlwaysFits : Type 0 where
  pub fits : (file : List ℕ) → length (printed file) ≤ 65536
