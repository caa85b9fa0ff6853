-- A walk hands out the records that fill the file, one after another, and then the end.
use mathlib.Core.Path.{◌≡◌, refl, sym, ◌∙◌, ap}
use mathlib.Core.List.{List, ◌∷◌}
use Prim.Native.Nat.{ℕ, zero, suc, ◌+◌, ◌*◌, ◌<◌, ◌≤◌}
use native.Mathlib.Omega.{arith}
use lib.ListN.{length, replicate}
use Rattle.std.specs.Prelude.{None}
use Rattle.file_format.specs.Format.{record_at, records_from}
use Rattle.file_format.specs.Walk.{walk, WalkHandsOutRecords}
use Rattle.file_format.proofs.Reading.{at_end, at_record, after_record, after_end}

-- at the end a walk stays
ended : (file : List ℕ) (q steps : ℕ) → length file < q + 14 → walk file q steps ≡ replicate steps None
unfolding walk
ended file q zero h = refl
ended file q (suc t) h =
    let found = sym (at_end file q h) in
    let later = ap (λ (p : ℕ). walk file p t) (sym (after_end file q h)) ∙ ended file q t h in
    λ i. found i ∷ later i

pub walk_hands_out : WalkHandsOutRecords
unfolding WalkHandsOutRecords walk records_from
walk_hands_out file q zero filled steps =
    let none : 0 + steps ≡ steps = omega arith in
    ap (walk file q) none ∙ ended file q steps (omega arith)
walk_hands_out file q (suc n) filled steps =
    let h : q + 14 ≤ length file = omega arith in
    let one : suc n + steps ≡ suc (n + steps) = omega arith in
    let rest : q + 14 + 14 * n ≡ length file = omega arith in
    let found = sym (at_record file q (record_at file q) refl h) in
    let later = ap (λ (p : ℕ). walk file p (n + steps)) (sym (after_record file q h)) ∙ walk_hands_out file (q + 14) n rest steps in
    ap (walk file q) one ∙ (λ i. found i ∷ later i)
