-- The table of the paper's starred lines holds.
use Rattle.line.proofs.Specimens.{specimens_shown}
use Rattle.line.proofs.starred_lines.Goals as goal

pub returns : goal.returns
returns c = specimens_shown
