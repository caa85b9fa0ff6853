-- Each return is the first test that holds, all the others before it being passed over.
use mathlib.Core.Path.{◌≡◌, subst}
use mathlib.Core.Bool.{true, not}
use mathlib.Core.List.{[], ◌∷◌}
use Prim.Native.Nat.{ℕ, ◌<◌, ◌≤◌}
use lib.Dec.{ltb, eqb}
use borrow.Author.Tests.{lt-ltb, le-ltb, le-leb, lt-leb}
use Rattle.refusals.specs.Refusals.{first, ◌⇒◌}
use Rattle.refusals.proofs.Tests.{stop, pass, none, not_t, not_f, by_true, by_false, by_eq, by_ne}
use Rattle.cell.specs.declared.operations.UnitCell.{UnitCell}
use Rattle.cell.specs.Operations.{cell_group, cell_lengths, cell_halves}
use Rattle.cell.specs.Volume.{volume_length}
use Rattle.header.specs.Header.{volume_limit, all_admitted}
use Rattle.header.proofs.Headers.{sizes_of, short_lengths}
use Rattle.combined.specs.CombinedMap.{combined_map_tests}
use Rattle.combined.proofs.check_combined_map.Goals as goal

-- group and lengths pass: the volume and the length decide
sized : (k : UnitCell) (length : ℕ) {m : ℕ} → k.group < 5 → all_admitted (cell_lengths k) ≡ true
    → m ≡ first (ltb volume_limit (volume_length (cell_group k) (cell_halves k)) ⇒ 9 ∷ not (eqb length (volume_length (cell_group k) (cell_halves k))) ⇒ 6 ∷ [])
    → m ≡ first (combined_map_tests k.group (cell_lengths k) length)
sized k length g h e = pass 8 _ (lt-leb 5 _ g) (pass 3 _ (not_t _ h) e)

pub returns-then-cell-ge5 : goal.returns-then-cell-ge5
returns-then-cell-ge5 c = stop _ (le-leb 5 _ c.if-cell-ge5.true)

pub returns-then-not-all_admitted : goal.returns-then-not-all_admitted
returns-then-not-all_admitted c = pass 8 _ (lt-leb 5 _ c.if-cell-ge5.false) (stop _ (not_f _ (by_false _ _ c.all_admitted.ensures c.if-not-all_admitted.true)))

pub volume_length-needed-requires : goal.volume_length-needed-requires
volume_length-needed-requires c = short_lengths (sizes_of c.if-cell-ge5.false (by_true _ _ c.all_admitted.ensures c.if-not-all_admitted.false))

pub returns-then-needed-gt16777216 : goal.returns-then-needed-gt16777216
returns-then-needed-gt16777216 c =
    let admitted = by_true _ _ c.all_admitted.ensures c.if-not-all_admitted.false in
    sized c.args.cell c.args.length c.if-cell-ge5.false admitted (stop _ (lt-ltb _ _ (subst (λ (n : ℕ). 16777216 < n) c.volume_length-needed.ensures c.if-needed-gt16777216.true)))

pub returns-then-length-needed : goal.returns-then-length-needed
returns-then-length-needed c =
    let admitted = by_true _ _ c.all_admitted.ensures c.if-not-all_admitted.false in
    let small = le-ltb _ _ (subst (λ (n : ℕ). n ≤ 16777216) c.volume_length-needed.ensures c.if-needed-gt16777216.false) in
    sized c.args.cell c.args.length c.if-cell-ge5.false admitted (pass 9 _ small (stop _ (not_f _ (by_ne _ _ _ c.volume_length-needed.ensures c.if-length-needed.true))))

pub returns : goal.returns
returns c =
    let admitted = by_true _ _ c.all_admitted.ensures c.if-not-all_admitted.false in
    let small = le-ltb _ _ (subst (λ (n : ℕ). n ≤ 16777216) c.volume_length-needed.ensures c.if-needed-gt16777216.false) in
    sized c.args.cell c.args.length c.if-cell-ge5.false admitted (pass 9 _ small (pass 6 _ (not_t _ (by_eq _ _ _ c.volume_length-needed.ensures c.if-length-needed.false)) none))
