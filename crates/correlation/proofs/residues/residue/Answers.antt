-- The magnitude's residue, or what is left of it to the prime.
use Rattle.std.proofs.Common.{◌≡◌, ◌∙◌, ap, subst, true, false, ℕ, ◌-◌, ◌%◌, ℤ, pos, nat_abs, w64, to_z, of_z}
use lib.Signed.{lt_z}
use mir.ValLaws.{to_z-of_z}
use Rattle.numbers.specs.Value.{prime}
use Rattle.correlation.proofs.Signs.{rest_is, residue_negative, residue_plain}
use Rattle.correlation.proofs.residues.residue.Goals as goal

pub returns-then-x-lt0 : goal.returns-then-x-lt0
returns-then-x-lt0 c =
    let a = c.args in
    let kept : to_z w64 (of_z w64 a.x) ≡ a.x = to_z-of_z w64 a.x c.ranges.x in
    let below : lt_z a.x (pos 0) ≡ true = subst (λ (z : ℤ). lt_z z (pos 0) ≡ true) kept c.if-x-lt0.true in
    let left : c.reduce.result ≡ (nat_abs a.x - 1) % prime a.m = c.reduce.ensures ∙ rest_is a.m _ ∙ ap (λ (n : ℕ). (n - 1) % prime a.m) (c.magnitude-size.ensures ∙ ap nat_abs kept) in
    ap (λ (p : ℕ). p - 1 - c.reduce.result) c.modulus.ensures.0 ∙ residue_negative (prime a.m) c.reduce.result a.x below left

pub returns-else-x-lt0 : goal.returns-else-x-lt0
returns-else-x-lt0 c =
    let a = c.args in
    let kept : to_z w64 (of_z w64 a.x) ≡ a.x = to_z-of_z w64 a.x c.ranges.x in
    residue_plain (prime a.m) c.reduce-else-x-lt0.result a.x (subst (λ (z : ℤ). lt_z z (pos 0) ≡ false) kept c.if-x-lt0.false)
    (c.reduce-else-x-lt0.ensures ∙ rest_is a.m _ ∙ ap (λ (n : ℕ). n % prime a.m) (c.magnitude-size.ensures ∙ ap nat_abs kept))
