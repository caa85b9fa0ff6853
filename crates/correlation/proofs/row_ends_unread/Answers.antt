-- The theorem, promised.
use Rattle.correlation.proofs.RowEnds.{row_ends_unread}
use Rattle.correlation.proofs.row_ends_unread.Goals as goal

pub returns : goal.returns
returns c = row_ends_unread
