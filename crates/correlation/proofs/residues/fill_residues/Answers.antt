use Rattle.std.proofs.Common.{◌≡◌, ◌∙◌, sym, ap, ℕ, suc, ◌+◌, ◌%◌, ◌<◌, arith}
use native.Mathlib.Nat.{mod-lt, mod-eq_of_lt}
use Rattle.slices.proofs.Filling.{filling_start, filling_next, filling_whole}
use Rattle.correlation.proofs.Scans.{column_next}
use Rattle.correlation.proofs.residues.fill_residues.Goals as goal

pub loop-j-init : goal.loop-j-init
loop-j-init c = (filling_start, sym (mod-eq_of_lt (omega arith)))

pub next_column-column-requires : goal.next_column-column-requires
next_column-column-requires c =
    let low : c.loop-j.j % suc c.args.b < suc c.args.b = mod-lt c.loop-j.j (omega arith) in
    (omega (arith, low, c.loop-j.invariant.1), omega arith)

pub loop-j-preserved : goal.loop-j-preserved
loop-j-preserved c =
    let b = c.args.b in
    let width : b + 1 ≡ suc b = omega arith in (
      filling_next c.loop-j.invariant.0 c.loop-j-test.true c.store.ensures c.residue_pair.ensures,
      c.next_column-column.ensures ∙ ap (λ (k : ℕ). (c.loop-j.column + 1) % k) width ∙ column_next c.loop-j.j (suc b) c.loop-j.invariant.1,
    )

pub returns : goal.returns
returns c = filling_whole c.loop-j.invariant.0 c.loop-j-test.false c.requires.v_len.1
