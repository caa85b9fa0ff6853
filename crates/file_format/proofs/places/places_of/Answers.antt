-- Three lists, one after the other.
use mathlib.Core.Path.{◌∙◌, ap}
use Prim.Native.Nat.{ℕ, ◌+◌}
use native.Mathlib.Omega.{arith}
use Rattle.file_format.specs.Format.{after_list, list2_at, list3_at, count_at}
use Rattle.file_format.proofs.places.places_of.Goals as goal

pub returns : goal.returns
unfolding list2_at list3_at count_at
returns c =
    let file = c.args.file.now in
    let first = ap (λ (q : ℕ). q + 6) c.lengths_at-list1.ensures.0 in
    let second = c.after_list-list2.ensures.0 ∙ ap (after_list file) first in
    let third = c.after_list-list3.ensures.0 ∙ ap (after_list file) second in
    record { first = first; second = second; third = third; count = c.after_list-count.ensures.0 ∙ ap (after_list file) third; near = omega arith }
