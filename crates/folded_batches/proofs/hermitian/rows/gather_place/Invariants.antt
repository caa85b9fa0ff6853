-- The lanes below v (`PutLanes`): the used ones, then the others.
use Rattle.batches.specs.Groups.{PutLanes}
use Rattle.folded_batches.specs.RowLanes.{row_pair, used_pair}
use Rattle.folded_batches.proofs.hermitian.rows.gather_place.Given as goal

abbrev pub invariant-loop-v : goal.invariant-loop-v
invariant-loop-v l = PutLanes (used_pair l.lanes (row_pair l.rows l.width l.first l.second)) l.j l.v l.fn.d l.d

abbrev pub invariant-loop-v-2 : goal.invariant-loop-v-2
invariant-loop-v-2 l = PutLanes (used_pair l.lanes (row_pair l.rows l.width l.first l.second)) l.j l.v l.fn.d l.d
