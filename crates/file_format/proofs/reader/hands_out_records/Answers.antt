use Rattle.file_format.proofs.Walking.{walk_hands_out}
use Rattle.file_format.proofs.reader.hands_out_records.Goals as goal

pub returns : goal.returns
returns c = walk_hands_out
