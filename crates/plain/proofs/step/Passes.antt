-- What one butterfly of a step computes: the outer sums of the values that it reads times their factors are the places that it fills.
use mathlib.Core.Path.{◌≡◌, sym, ◌∙◌, ap}
use Prim.Native.Nat.{ℕ, ◌+◌, ◌*◌, ◌<◌}
use native.Mathlib.Omega.{arith}
use Rattle.algebra.specs.ring.Ring.{Ops}
use Rattle.algebra.specs.ring.RingLaws.{CRing}
use Rattle.algebra.proofs.ring.Laws.{along}
use Rattle.butterflies.specs.Equation3.{factor, outer}
use Rattle.butterflies.proofs.radix.Spreading.{outer_cong}
use Rattle.plain.specs.Plain.{stepped}
use Rattle.plain.proofs.Equation3.{stepped_at}

-- at place first = q A + 𝐚
pub outer_place : {R : Type 0} {𝓞 : Ops R} (𝓡 : CRing 𝓞) (W : R) (A B M : ℕ) (Y : ℕ → R) (q : ℕ) {𝐚 𝐛 first : ℕ} → 𝐚 < A → first ≡ q * A + 𝐚 → 𝐛 < B →
    outer 𝓞 W B (λ b. factor 𝓞 W A B b 𝐚 (Y (b * (M * A) + first))) 𝐛 ≡ stepped 𝓞 W A B M Y ((q * B + 𝐛) * A + 𝐚)
outer_place {𝓞 = 𝓞} 𝓡 W A B M Y q {𝐚} {𝐛} {first} ha here hb =
    outer_cong 𝓡 W B _ _ 𝐛 (λ b l. ap (factor 𝓞 W A B b 𝐚) (along Y (b * (M * A) + first) ((b * M + q) * A + 𝐚) (omega arith)))
    ∙ sym (stepped_at 𝓡 W A B M Y q ha hb)
