-- The lower half as it is, the upper one less the product of both primes: what the machine keeps of both is the whole number itself.
use Rattle.std.proofs.Common.{◌≡◌, ◌∙◌, sym, subst, ap, ℕ, suc, ◌-◌, ◌<◌, arith, pos, ◌-ℤ◌, w64, to_z}
use lib.IntN.{negsuc}
use mir.Val.{SFits}
use mir.ValLaws.{to_z-of_z, to_z_pos}
use Rattle.signed.proofs.Machine.{below_zero}
use Rattle.signed.proofs.Centred.{centred_low, centred_high}
use Rattle.combined.proofs.chinese.nearest.Goals as goal

-- n less the product, as the machine computes it
less : (n : ℕ) → n < 26126971201 → to_z w64 n -ℤ pos 26126971201 ≡ negsuc (26126971201 - suc n)
less n l = ap (λ z. z -ℤ pos 26126971201) (to_z_pos w64 n (omega arith)) ∙ below_zero n 26126971201 l

pub returns-then-n-le13063485600 : goal.returns-then-n-le13063485600
returns-then-n-le13063485600 c = to_z_pos w64 c.args.n (omega arith) ∙ centred_low 26126971201 c.args.n c.if-n-le13063485600.true

pub returns-else-n-le13063485600 : goal.returns-else-n-le13063485600
returns-else-n-le13063485600 c =
    let l = less c.args.n c.requires in
    to_z-of_z w64 _ (subst (SFits w64) (sym l) (record { sfits = omega arith })) ∙ l ∙ centred_high 26126971201 c.args.n c.if-n-le13063485600.false
