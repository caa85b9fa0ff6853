-- What the public call answers and leaves, coded; the unit cell is that of the struct.
use Rattle.exported.proofs.Coding.{mrc_coded}
use Rattle.exported.proofs.recorder_mrc.Goals as goal

pub returns : goal.returns
returns c =
    let w = c.mrc_map in
    let q = c.from in
    mrc_coded w.result _ _ _ _ _ _ _ c.from-2.ensures q.ensures w.ensures
