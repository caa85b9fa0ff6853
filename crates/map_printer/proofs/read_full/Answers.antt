use Rattle.std.proofs.Common.{◌≡◌, ℕ, ◌+◌, ◌≤◌, List, ◌++◌, length, take, drop, sym, ap, ◌∙◌, subst, rules, le_refl, drop_at, length-take-le}
use Rattle.std.proofs.lemmas.Slice.{take-put_mid_below}
use Rattle.std.specs.Io.KnownBytes.{Consumes}
use Rattle.std.proofs.KnownBytes.{Consumes-trans}
use borrow.Rule.Slice.PartMut.{put_mid, post_of}
use lib.Seq.{take-add, take-append-le}
use Rattle.map_printer.proofs.read_full.Goals as goal

-- the n bytes that were read stand behind the first a
take_read : (a k n : ℕ) (xs ys : List ℕ) → a ≤ length xs → n ≤ length ys → take (a + n) (put_mid a k xs ys) ≡ take a xs ++ take n ys
take_read a k n xs ys within fits = take-add a n (put_mid a k xs ys) ∙ (λ i. take-put_mid_below a k xs ys a (le_refl a) within i ++ behind i)
  where
    behind : take n (drop a (put_mid a k xs ys)) ≡ take n ys
    behind = ap (take n) (drop_at (take a xs) (ys ++ post_of a k xs) a (length-take-le a xs within)) ∙ take-append-le n ys (post_of a k xs) fits

pub loop-done-preserved : goal.loop-done-preserved
loop-done-preserved g c =
    let read = c.in_ok-n.ensures in
    (search rules, subst (Consumes _ _) (sym (take_read c.loop-done.done _ c.in_ok-n.n c.loop-done.v c.read.new.buf c.loop-done.invariant.0 read.bound.0)) (Consumes-trans _ _ _ _ _ c.loop-done.invariant.1 read.bytes.0))
