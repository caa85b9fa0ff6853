-- The records of a volume rise.
use Rattle.factor_file.proofs.RecordOrder.{records_of_volume_rise}
use Rattle.factor_file.proofs.record_order.records_rise.Statement.{statement}
use Rattle.factor_file.proofs.record_order.records_rise.Tie as tie

returns : tie.Need-returns
returns c = records_of_volume_rise

pub records_rise_spec : {M : Type 1} → statement M
records_rise_spec = tie.close (tie.spec returns)
