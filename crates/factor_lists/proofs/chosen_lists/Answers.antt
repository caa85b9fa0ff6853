use Rattle.factor_lists.proofs.Fewest.{chosen_lists}
use Rattle.factor_lists.proofs.chosen_lists.Goals as goal

pub returns : goal.returns
returns c = chosen_lists
