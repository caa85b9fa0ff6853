-- `axis_sums`: the theorem of proofs/sums/AxisSums.
use Rattle.volume_transform.proofs.sums.AxisSums.{axis_sums}
use Rattle.volume_transform.proofs.axis_sums.Goals as goal

pub returns : goal.returns
returns c = axis_sums
