-- Five numbers, one after the other.
use Rattle.output.proofs.Writing.{wrote_append}
use Rattle.file_format.proofs.layout.put_record.Goals as goal

pub returns : goal.returns
returns c =
    wrote_append (wrote_append (wrote_append (wrote_append c.put_two-k.ensures c.put_two-l.ensures) c.put_two-a.ensures) c.put_four-b.ensures) c.put_four.ensures
