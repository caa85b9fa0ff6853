-- Place by place (`Places`).
use Rattle.std.proofs.Common.{◌∙◌, arith}
use Rattle.folded_batches.proofs.MirrorBlocks.{places_next, places_as}
use Rattle.folded_batches.proofs.mirror.after.finish.Goals as goal

pub loop-s-preserved : goal.loop-s-preserved
loop-s-preserved c =
    let i = c.loop-s.invariant in
    record {
      long = c.put_place.ensures.long ∙ i.long;
      block = c.finish_place.ensures.0;
      places = λ o h. places_next (i.places o h) (c.finish_place.ensures.1 o h) c.put_place.ensures;
    }

pub returns : goal.returns
returns c = λ o h. places_as (c.loop-s.invariant.places o h) (omega arith)
