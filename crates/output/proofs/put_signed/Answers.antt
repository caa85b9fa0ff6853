-- The sign decides whether a minus comes before the digits of the magnitude.
use Rattle.std.proofs.Common.{◌≡◌, [], ◌∷◌, sym, ap, ◌∙◌, true, false, ℕ, w64, ℤ, pos, to_z, of_z}
use lib.Signed.{lt_z}
use mir.Val.{SFits}
use mir.ValLaws.{to_z-of_z}
use Rattle.signed.specs.Integers.{nat_abs}
use Rattle.output.specs.Output.{decimal, minus, signed_decimal}
use Rattle.output.proofs.Decimals.{signed_below, signed_above}
use Rattle.output.proofs.Writing.{wrote_append, wrote_as, ends_as, ends_left, ends_right}
use Rattle.output.proofs.put_signed.Goals as goal

-- the text of a number below zero, and of any other
below : (n : ℤ) {size : ℕ} → SFits w64 n → lt_z (to_z w64 (of_z w64 n)) (pos 0) ≡ true → size ≡ nat_abs (to_z w64 (of_z w64 n)) → signed_decimal n ≡ minus ∷ decimal size
below n f e h = ap signed_decimal (sym (to_z-of_z w64 n f)) ∙ signed_below _ e h

above : (n : ℤ) {size : ℕ} → SFits w64 n → lt_z (to_z w64 (of_z w64 n)) (pos 0) ≡ false → size ≡ nat_abs (to_z w64 (of_z w64 n)) → signed_decimal n ≡ decimal size
above n f e h = ap signed_decimal (sym (to_z-of_z w64 n f)) ∙ signed_above _ e h

pub put_byte-digits-requires : goal.put_byte-digits-requires
put_byte-digits-requires c = ends_left (minus ∷ []) (decimal c.magnitude-size.result) (ends_as c.requires (below c.args.n c.ranges.n c.if-n-lt0.true c.magnitude-size.ensures))

pub put_number-requires : goal.put_number-requires
put_number-requires c = ends_right _ c.put_byte-digits.ensures (ends_as c.requires (below c.args.n c.ranges.n c.if-n-lt0.true c.magnitude-size.ensures))

pub put_number-requires-else-n-lt0 : goal.put_number-requires-else-n-lt0
put_number-requires-else-n-lt0 c = ends_as c.requires (above c.args.n c.ranges.n c.if-n-lt0.false c.magnitude-size.ensures)

pub returns-then-n-lt0 : goal.returns-then-n-lt0
returns-then-n-lt0 c = wrote_as (wrote_append c.put_byte-digits.ensures c.put_number.ensures) (sym (below c.args.n c.ranges.n c.if-n-lt0.true c.magnitude-size.ensures))

pub returns-else-n-lt0 : goal.returns-else-n-lt0
returns-else-n-lt0 c = wrote_as c.put_number-else-n-lt0.ensures (sym (above c.args.n c.ranges.n c.if-n-lt0.false c.magnitude-size.ensures))
