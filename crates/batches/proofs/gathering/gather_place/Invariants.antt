use Rattle.batches.specs.Groups.{lane_pair, PutLanes}
use Rattle.batches.proofs.gathering.gather_place.Given as goal

abbrev pub invariant-loop-v : goal.invariant-loop-v
invariant-loop-v l = PutLanes (lane_pair l.volume l.first l.lanes) l.j l.v l.fn.d l.d

abbrev pub invariant-loop-v-2 : goal.invariant-loop-v-2
invariant-loop-v-2 l = PutLanes (lane_pair l.volume l.first l.lanes) l.j l.v l.fn.d l.d
