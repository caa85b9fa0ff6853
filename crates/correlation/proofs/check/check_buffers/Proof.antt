-- Each return is the first test that holds, all the others before it being passed over.
use borrow.Author.Rules.{rules}
use mathlib.Core.Path.{◌≡◌, sym, ◌∙◌, ap}
use mathlib.Core.Bool.{true}
use Prim.Native.Nat.{ℕ}
use native.Mathlib.Omega.{arith}
use lib.ListN.{length}
use borrow.Author.Tests.{lt-ltb, le-ltb}
use Rattle.algebra.specs.cells.Cell.{P1}
use Rattle.refusals.proofs.Tests.{stop, pass, none, not_t, not_f, by_true, by_false}
use Rattle.cell.specs.Volume.{group_of, volume_length}
use Rattle.cell.specs.Operations.{cell_halves}
use Rattle.correlation.specs.Correlation.{all_long, exceeds}
use Rattle.correlation.proofs.Tests.{Long, long_of, exceeds_places}
use Rattle.correlation.proofs.check.check_buffers.Statement.{statement}
use Rattle.correlation.proofs.check.check_buffers.Tie as tie

-- src/check.rt:61:9
-- the length that is asked for
needed : (c : tie.After-volume_length-needed) → let k = c.before.args.cell in c.volume_length-needed.result ≡ volume_length P1 (cell_halves k)
needed c = c.volume_length-needed.ensures ∙ ap (λ (g : ℕ). volume_length (group_of g) (cell_halves c.before.args.cell)) c.before.requires.1

long : (c : tie.After-all_long) → let a = c.before.before.args in
    c.all_long.result ≡ all_long (volume_length P1 (cell_halves a.cell)) (length a.a.now) (length a.b.now) a.output a.work1 a.work2 a.work3
long c =
    let a = c.before.before.args in
    c.all_long.ensures ∙ ap (λ (n : ℕ). all_long n (length a.a.now) (length a.b.now) a.output a.work1 a.work2 a.work3) (needed c.before)

fit : (c : tie.Else-not-all_long) → let a = c.before.before.before.args in
    all_long (volume_length P1 (cell_halves a.cell)) (length a.a.now) (length a.b.now) a.output a.work1 a.work2 a.work3 ≡ true
fit c = by_true _ _ (long c.before) c.if-not-all_long.false

lengths : (c : tie.Else-not-all_long) → let a = c.before.before.before.args in
    Long (volume_length P1 (cell_halves a.cell)) (length a.a.now) (length a.b.now) a.output a.work1 a.work2 a.work3
lengths c = long_of _ _ _ _ _ _ _ (fit c)

-- refusal 28
tested : (c : tie.After-exceeds_limit) → let a = c.before.before.before.before.before.before.args in c.exceeds_limit.result ≡ exceeds (cell_halves a.cell) a.a.now a.b.now
tested c =
    let e = c.before.before.before in
    let a = e.before.before.before.args in
    c.exceeds_limit.ensures ∙ exceeds_places (cell_halves a.cell) a.a.now a.b.now (lengths e).a_long (lengths e).b_long

volume_length-needed-requires : tie.Need-volume_length-needed-requires
volume_length-needed-requires c κs = search rules

-- src/check.rt:62:9
all_long-requires : tie.Need-all_long-requires
all_long-requires c κs = search rules

-- src/check.rt:63:9
returns-then-not-all_long : tie.Need-returns-then-not-all_long
returns-then-not-all_long c = stop _ (not_f _ (by_false _ _ (long c.before) c.if-not-all_long.true))

-- src/check.rt:66:9
returns-then-scratch-lt11520 : tie.Need-returns-then-scratch-lt11520
returns-then-scratch-lt11520 c = pass 6 _ (not_t _ (fit c.before)) (stop _ (lt-ltb _ _ c.if-scratch-lt11520.true))

-- src/check.rt:68:22
overflow_cast-cell : tie.Need-overflow_cast-cell
overflow_cast-cell c = search rules

-- src/check.rt:68:8
exceeds_limit-requires : tie.Need-exceeds_limit-requires
exceeds_limit-requires c κs =
    let e = c.before.before in
    let s = e.before.before.before in
    (omega (arith, s.requires.0.second.high), omega (arith, (lengths e).a_long, s.requires.2))

-- src/check.rt:69:9
returns-then-exceeds_limit : tie.Need-returns-then-exceeds_limit
returns-then-exceeds_limit c = let e = c.before.before.before.before in pass 6 _ (not_t _ (fit e)) (pass 13 _ (le-ltb _ _ c.before.before.before.if-scratch-lt11520.false) (stop _ (sym (tested c.before) ∙ c.if-exceeds_limit.true)))

-- src/check.rt:48:1
returns : tie.Need-returns
returns c = let e = c.before.before.before.before in pass 6 _ (not_t _ (fit e)) (pass 13 _ (le-ltb _ _ c.before.before.before.if-scratch-lt11520.false) (pass 28 _ (sym (tested c.before) ∙ c.if-exceeds_limit.false) none))

pub check_buffers_spec : {M : Type 1} → statement M
check_buffers_spec =
    tie.close
    (tie.spec volume_length-needed-requires all_long-requires returns-then-not-all_long returns-then-scratch-lt11520 overflow_cast-cell exceeds_limit-requires returns-then-exceeds_limit returns)
