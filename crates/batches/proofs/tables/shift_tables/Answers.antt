-- Both parts.
use Rattle.batches.proofs.LastReduction.{real_low, imaginary_low, tables_shifted}
use Rattle.batches.proofs.tables.shift_tables.Goals as goal

pub shift_list-requires : goal.shift_list-requires
shift_list-requires c = (c.requires.0, real_low c.requires.1, c.requires.2)

pub shift_list-requires-2 : goal.shift_list-requires-2
shift_list-requires-2 c = (c.requires.0, imaginary_low c.requires.1, c.requires.3)

pub returns : goal.returns
returns c = tables_shifted c.shift_list.ensures c.shift_list-2.ensures
