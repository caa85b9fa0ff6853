-- Pa's zero pairs.
use mathlib.Core.Path.{◌≡◌, sym as inv, ◌∙◌, ap}
use mathlib.Core.Bool.{false}
use Prim.Native.Nat.{ℕ, ◌*◌, ◌<◌}
use Rattle.algebra.specs.ring.Ring.{Ops, gauss, conj}
use Rattle.algebra.specs.ring.RingLaws.{CRing}
use Rattle.algebra.specs.cells.Cell.{J, Pa, neg_i, Cell}
use Rattle.algebra.specs.cells.CellSteps.{Lawful}
use Rattle.algebra.specs.cells.CellPack.{even}
use Rattle.algebra.proofs.ring.GaussRing.{gauss_ring, gauss_star}
use Rattle.algebra.proofs.cells.CellLines.{line_Pa}
use Rattle.algebra.proofs.cells.CellTests.{Positive}
use Rattle.algebra.proofs.cells.CellPack.{pow_even, sign_of}
use Rattle.algebra.proofs.ring.Laws.{self_neg, neg_one_mul}
use Rattle.algebra.proofs.lines.Parts.{half_gauss}

module _ {K : Type 0} {𝓚 : Ops K} (𝓡 : CRing 𝓚) (half : K) (half_two : 𝓚.mul half (𝓚.add 𝓚.one 𝓚.one) ≡ 𝓚.one) where
  open 𝓚 use {zer as k0}
  open gauss 𝓚 use {mul as ◌⊗◌, neg as ⊖◌, zer as 𝟘, one as 𝟙}

  infixl 70 ◌⊗◌
  infix 75 ⊖◌
  module _ (a : J) (long : Positive a) where
    -- Pa: an odd h's line is zero where l is its own negative, at 0 and at A
    pub zero_pair_lem : (F : Cell (K × K)) → Lawful (gauss 𝓚) (conj 𝓚) a Pa F → (h k l : ℕ) → h < 2 * a.0 → k < 2 * a.1 → l < 2 * a.2 → even h ≡ false → neg_i a.2 l ≡ l → F h k l ≡ 𝟘
    zero_pair_lem F o h k l ha kb lc e f = self_neg (gauss_ring 𝓡) (half, k0) (half_gauss 𝓡 half half_two) (F h k l) (ap (λ y. F h k y) (inv f) ∙ line_Pa (gauss_ring 𝓡) (gauss_star 𝓡) a F o h k l ha kb lc ∙ ap (λ y. y ⊗ F h k l) (pow_even 𝓡 h ∙ ap (λ b. sign_of 𝓡 b) e) ∙ neg_one_mul (gauss_ring 𝓡) _)
