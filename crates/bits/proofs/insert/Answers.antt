-- The bit tells whether the number is in the set; where it is 0, the sum with 2 ^ k sets it and no other.
use borrow.Author.Tests.{eq-eqb}
use mathlib.Core.Path.{◌≡◌, sym, ap, subst}
use mathlib.Core.Bool.{true}
use Prim.Native.Nat.{◌+◌, ◌/◌, ◌%◌, ◌<◌}
use native.Mathlib.Omega.{arith}
use lib.ListN.{get_or, set}
use lib.Dec.{eqb}
use Rattle.bits.specs.Set.{bit_of, in_set, Inserted}
use Rattle.bits.proofs.Words.{unit, bit_clear, added_fits, inserted_again, inserted_new}
use Rattle.bits.proofs.insert.Goals as goal

-- the bit is 0 where the test fails
clear : (c : goal.Else-old-bit-eq1) → let a = c.args in bit_of (get_or a.set.now (a.q / 64) 0) (a.q % 64) ≡ 0
unfolding bit_of
clear c = let a = c.args in bit_clear (get_or a.set.now (a.q / 64) 0) (a.q % 64) c.if-old-bit-eq1.false

pub returns-then-old-bit-eq1 : goal.returns-then-old-bit-eq1
unfolding in_set bit_of
returns-then-old-bit-eq1 c =
    let a = c.args in
    let e : true ≡ in_set a.set.now a.q = sym (eq-eqb _ 1 c.if-old-bit-eq1.true) in
    (e, inserted_again a.set.now a.q (sym e))

pub overflow_add-set : goal.overflow_add-set
overflow_add-set c =
    let a = c.args in
    let u = unit (a.q % 64) (omega arith) in
    let w = get_or a.set.now (a.q / 64) 0 in
    record { fits = subst (λ n. w + n < 18446744073709551616) (sym u) (added_fits 64 (a.q % 64) w (omega arith) (omega (arith, c.slice_known-1.given (a.q / 64))) (clear c)) }

pub returns : goal.returns
unfolding in_set
returns c =
    let a = c.args in
    let s = a.set.now in
    let w = get_or s (a.q / 64) 0 in
    let n = inserted_new s a.q c.requires (clear c) in
    (ap (λ b. eqb b 1) (sym (clear c)), subst (λ n. Inserted a.q s (set s (a.q / 64) (w + n))) (sym (unit (a.q % 64) (omega arith))) n)
