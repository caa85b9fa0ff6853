-- Where the conjugate of a root of unity is its inverse, conjugation counts its powers backwards.
use mathlib.Core.Path.{◌≡◌, sym, ◌∙◌}
use Prim.Native.Nat.{ℕ, ◌-◌, ◌≤◌}
use native.Mathlib.Omega.{arith}
use Rattle.algebra.specs.ring.Ring.{Ops, pow}
use Rattle.algebra.specs.ring.RingLaws.{CRing, Star}
use Rattle.algebra.specs.fourier.Axis.{Root}
use Rattle.algebra.proofs.fourier.Transform.{pow_across}
use Rattle.algebra.proofs.ring.Conj.{conj_pow}

module _ {R : Type 0} {𝓞 : Ops R} {conj : R → R} {i : R} (𝓡 : CRing 𝓞) (𝓢 : Star 𝓞 conj i) where
  pub conj_power : (n : ℕ) (w part : R) → Root 𝓞 n w (conj w) part → (k : ℕ) → k ≤ n → conj (pow 𝓞 w k) ≡ pow 𝓞 w (n - k)
  conj_power n w part 𝓦 k h = conj_pow 𝓡 𝓢 w k ∙ sym (pow_across 𝓡 w (conj w) n 𝓦.inverse 𝓦.cycle (n - k) k 1 (omega arith))
