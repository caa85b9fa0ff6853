-- A place below or beyond the range is not noted; one in it has its bit.
use borrow.Author.Rules.{rules}
use native.Mathlib.Omega.{arith}
use Rattle.faults.proofs.FaultLaws.{noted_out, noted_in}
use Rattle.faults.proofs.note.Statement.{statement}
use Rattle.faults.proofs.note.Tie as tie
use Rattle.faults.proofs.note.Reads as reads
use Rattle.faults.proofs.note.Lts as lts
use Rattle.bits.proofs.insert.Reads as insert-reads

returns-then-place-low : tie.Need-returns-then-place-low
returns-then-place-low c = let a = c.before.before.args in noted_out a.low a.place a.marks.now (λ k h e. omega (arith, c.if-place-low.true))

returns-then-q-ge-RANGE : tie.Need-returns-then-q-ge-RANGE
returns-then-q-ge-RANGE c = let a = c.before.before.before.args in noted_out a.low a.place a.marks.now (λ k h e. omega (arith, c.if-q-ge-RANGE.true, c.before.if-place-low.false))

insert-requires : tie.Need-insert-requires
insert-requires c κs = search rules

shape_of-marks : tie.Need-shape_of-marks
shape_of-marks c = search rules

returns : tie.Need-returns
returns c =
    let n = c.before.before in
    let t = n.before.before in
    let a = t.before.before.before.args in
    noted_in a.low a.place a.marks.now t.before.if-place-low.false (omega (arith, t.if-q-ge-RANGE.false, t.before.if-place-low.false)) n.insert.ensures.0 n.insert.ensures.1

pub note_spec : {M : Type 1} → statement M
note_spec = tie.close (tie.spec returns-then-place-low returns-then-q-ge-RANGE insert-requires shape_of-marks returns)
