use Rattle.std.proofs.Common.{◌+◌, ◌-◌, ◌<◌, ◌↔◌, get_or, take, drop, ◌∙◌, rules, arith}
use Rattle.std.specs.Prelude.{IsTrue, EachIndex}
use Rattle.volume.proofs.read.ReadingLaws.{tested_below, part_below}
use Rattle.volume.proofs.read.run_below.Goals as goal

pub returns : goal.returns
returns c =
    let a = c.args in
    let s = take (a.r.first + a.r.count - a.r.first) (drop a.r.first a.volume.now) in
    let h : IsTrue c.all.result ↔ EachIndex s (λ k. get_or s k 0 < a.p) = search rules in
    tested_below a.p s h ∙ part_below _ _ _ _ _ (omega arith) c.requires
