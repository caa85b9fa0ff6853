-- The cell that is zero everywhere: it obeys every group, its packed factors are zeros, which refusal 14 lets pass, and its map is zero at every point.
use mathlib.Core.Path.{◌≡◌, refl, sym, ◌∙◌, ap}
use mathlib.Core.Bool.{Bool, true, false}
use Prim.Native.Nat.{ℕ, zero, suc}
use native.Mathlib.Omega.{arith}
use lib.ListN.{replicate, length-replicate}
use Rattle.algebra.specs.ring.Ring.{Ops, gauss, residues}
use Rattle.algebra.specs.ring.RingLaws.{CRing}
use Rattle.algebra.specs.fourier.Axis.{Axis}
use Rattle.algebra.specs.cells.Cell as Cell
use Rattle.algebra.specs.cells.Cell.{J, Group, P1, P2₁, Pm, Pa, P2₁2₁2₁}
use Rattle.algebra.specs.cells.CellPack as Pack
use Rattle.algebra.specs.cells.CellPack.{even, part_of, pack_alt}
use Rattle.algebra.specs.cells.CellSteps.{Lawful}
use Rattle.algebra.proofs.ring.Laws.{neg_zero, zero_mul}
use Rattle.algebra.proofs.fourier.Sums.{sum_all_zero}
use Rattle.algebra.proofs.cells.CellGroup.{implied_zero}
use Rattle.algebra.proofs.cells.CellTests.{Positive}
use Rattle.numbers.specs.Value.{Value, field, conj, ring, value, value_of}
use Rattle.numbers.proofs.Primes.{prime_pos}
use Rattle.numbers.proofs.Residues.{res_ring}
use Rattle.numbers.proofs.Values.{value_path, field_ring, field_star}
use Rattle.slices.proofs.Bounds.{below_replicate}
use Rattle.slices.proofs.Segments.{at_zeros}
use Rattle.cell.specs.Volume.{volume_length, pack_factors, axis, map_of}
use Rattle.cell.specs.Consistency.{consistent_factors}
use Rattle.cell.proofs.VolumeLayout.{place_inside}
use Rattle.cell.proofs.Consistency.{packed_list, factors_consistent}

pub zero_lawful : (μ : ℕ) (g : Group) (a : J) → Lawful (field μ) (conj μ) a g (λ h k l. value μ 0 0)
unfolding gauss residues
zero_lawful μ g a s ms j n = sym (implied_zero (field_ring μ) (field_star μ) a s j)

either : (μ : ℕ) (b : Bool) → ◌≡◌ {A = Value μ} ((value μ 0 0).0, part_of (ring μ) b (value μ 0 0)) (value μ 0 0)
either μ true = refl
either μ false = refl

zero_rotated : (μ : ℕ) (b : Bool) → Pack.times_i (ring μ) b (value μ 0 0) ≡ value μ 0 0
unfolding Pack.times_i residues
zero_rotated μ true = refl
zero_rotated μ false = value_path (neg_zero (res_ring μ)) refl

zero_pair_lem : (μ : ℕ) (g : Group) (a : J) (w h k : ℕ) → Pack.pack_factors (ring μ) g a (λ h k l. value μ 0 0) w h k ≡ value μ 0 0
unfolding Pack.pack_factors pack_alt
zero_pair_lem μ P1 a w h k = refl
zero_pair_lem μ P2₁ a zero h k = either μ (even a.2)
zero_pair_lem μ P2₁ a (suc w) h k = refl
zero_pair_lem μ Pm a w h k = refl
zero_pair_lem μ Pa a w h k = refl
zero_pair_lem μ P2₁2₁2₁ a zero h k = ap (λ (x : Value μ). (x.0, part_of (ring μ) (even a.2) x)) (zero_rotated μ (even h)) ∙ either μ (even a.2)
zero_pair_lem μ P2₁2₁2₁ a (suc w) h k = zero_rotated μ (even h)

-- its packed factors are zeros
pub zero_packed : (μ : ℕ) (g : Group) (a : J) → Positive a → pack_factors g a μ (λ h k l. value μ 0 0) ≡ replicate (volume_length g a) 0
unfolding value_of
zero_packed μ g a long =
    packed_list g a long μ (λ h k l. value μ 0 0) (zero_lawful μ g a) (replicate (volume_length g a) 0) (length-replicate (volume_length g a) 0) (below_replicate (volume_length g a) 0 (prime_pos μ))
    (λ w h k lw lh lk. zero_pair_lem μ g a w h k ∙ ap (value_of μ) (sym (at_zeros _ _ (place_inside g a lw lh (omega arith)))))

-- a volume of zeros holds the factors of a cell
pub zero_consistent : (μ : ℕ) (g : Group) (a : J) → Positive a → consistent_factors g a μ (replicate (volume_length g a) 0) ≡ true
zero_consistent μ g a long =
    (factors_consistent g a long μ (replicate (volume_length g a) 0) (length-replicate (volume_length g a) 0) (below_replicate (volume_length g a) 0 (prime_pos μ))).1
    ((λ h k l. value μ 0 0), zero_lawful μ g a, zero_packed μ g a long)

-- its map is zero at every point
module _ {R : Type 0} {𝓞 : Ops R} (𝓡 : CRing 𝓞) where
  open 𝓞 use {mul as ◌⊗◌, zer as 𝟘}

  infixl 70 ◌⊗◌
  zero_term : (a b c : R) → 𝟘 ⊗ a ⊗ b ⊗ c ≡ 𝟘
  zero_term a b c = ap (λ t. t ⊗ b ⊗ c) (zero_mul 𝓡 a) ∙ ap (λ t. t ⊗ c) (zero_mul 𝓡 b) ∙ zero_mul 𝓡 c

  zero_sums : (X Y Z : Axis R) (x y z : ℕ) → Cell.map_of 𝓞 X Y Z (λ h k l. 𝟘) x y z ≡ 𝟘
  unfolding Cell.map_of
  zero_sums X Y Z x y z = sum_all_zero 𝓡 _ _ (λ h i. sum_all_zero 𝓡 _ _ (λ k i. sum_all_zero 𝓡 _ _ (λ l i. zero_term _ _ _)))

pub zero_map : (μ : ℕ) (a x : J) → Cell.at (map_of μ a (λ h k l. value μ 0 0)) x ≡ value μ 0 0
unfolding gauss residues
zero_map μ a x = zero_sums (field_ring μ) (axis μ a.0) (axis μ a.1) (axis μ a.2) x.0 x.1 x.2
