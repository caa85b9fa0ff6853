-- The packed factors (the paper's box) as pairs of numbers: each line along l packed by its kind.
use Rattle.std.specs.Prelude.{Bool, true, false, not, cond, ◌≡◌, ℕ, zero, suc, ◌*◌, ◌≤◌, ◌<◌, eqb}
use Rattle.algebra.specs.ring.Ring.{Ops}
use Rattle.algebra.specs.cells.Cell.{J, Cell, Group, P1, P2₁, Pm, Pa, P2₁2₁2₁, same_j, planes}

-- packed factors: the pair w of (h, k)
abbrev pub FactorVolume : Type 0 → Type 0
FactorVolume K = ℕ → ℕ → ℕ → K × K

unfoldable pub even : ℕ → Bool
even zero = true
even (suc n) = not (even n)

module _ {K : Type 0} (𝓚 : Ops K) where
  open 𝓚 use {neg as ⊖◌, zer as 𝟘}

  infix 75 ⊖◌
  -- the part of X(A) that can differ from 0: the real one for even A
  abbrev pub part_of : Bool → K × K → K
  part_of true v = v.0
  part_of false v = v.1

  abbrev pub of_part : Bool → K → K × K
  of_part true t = (t, 𝟘)
  of_part false t = (𝟘, t)

  -- an alternating line of half c: pair 0 holds X(0) and the part of X(c)
  unfoldable pub pack_alt : ℕ → (ℕ → K × K) → ℕ → K × K
  pack_alt c X zero = ((X 0).0, part_of (even c) (X c))
  pack_alt c X (suc w) = X (suc w)

  unfoldable pub unpack_alt : ℕ → (ℕ → K × K) → ℕ → K × K
  unpack_alt c pairs zero = ((pairs 0).0, 𝟘)
  unpack_alt c pairs (suc l) = cond (eqb (suc l) c) (of_part (even c) (pairs 0).1) (pairs (suc l))

  -- an odd h's line of P2₁2₁2₁ is stored times i
  unfoldable pub times_i : Bool → K × K → K × K
  times_i true v = v
  times_i false v = (⊖ v.1, v.0)

  unfoldable pub over_i : Bool → K × K → K × K
  over_i true v = v
  over_i false v = (v.1, ⊖ v.0)

  -- the packed factors of a cell, the pair w of (h, k); and the value that a volume holds at a stored place
  unfoldable pub pack_factors : Group → J → Cell (K × K) → FactorVolume K
  pack_factors P1 a F w h k = F h k w
  pack_factors P2₁ a F w h k = pack_alt a.2 (λ l. F h k l) w
  pack_factors Pm a F w h k = F h k w
  pack_factors Pa a F w h k = F h k w
  pack_factors P2₁2₁2₁ a F w h k = pack_alt a.2 (λ l. times_i (even h) (F h k l)) w

  unfoldable pub unpack : Group → J → FactorVolume K → J → K × K
  unpack P1 a B j = B j.2 j.0 j.1
  unpack P2₁ a B j = unpack_alt a.2 (λ w. B w j.0 j.1) j.2
  unpack Pm a B j = B j.2 j.0 j.1
  unpack Pa a B j = B j.2 j.0 j.1
  unpack P2₁2₁2₁ a B j = over_i (even j.0) (unpack_alt a.2 (λ w. B w j.0 j.1) j.2)

  -- B holds the packed factors of the cell F
  abbrev pub PackedIn : Group → J → Cell (K × K) → FactorVolume K → Type 0
  PackedIn g a F B = (w h k : ℕ) →
      w < planes g a.2 →
      h < 2 * a.0 → k ≤ a.1 →
      pack_factors g a F w h k ≡ B w h k

  -- a new pair at the place (w, h, k)
  unfoldable pub upd : FactorVolume K → (w h k : ℕ) → K × K → FactorVolume K
  upd B w h k v w' h' k' = cond (same_j (w, h, k) (w', h', k')) v (B w' h' k')

  -- the value v at the place (h, k, l) of an alternating line: one number at l = 0 and at l = c, else a pair
  unfoldable pub put_alt : ℕ → FactorVolume K → (h k l : ℕ) → K × K → FactorVolume K
  put_alt c B h k zero v = upd B 0 h k (v.0, (B 0 h k).1)
  put_alt c B h k (suc l) v = cond (eqb (suc l) c) (upd B 0 h k ((B 0 h k).0, part_of (even c) v)) (upd B (suc l) h k v)

  unfoldable pub put_factor : Group → J → FactorVolume K → J → K × K → FactorVolume K
  put_factor P1 a B j v = upd B j.2 j.0 j.1 v
  put_factor P2₁ a B j v = put_alt a.2 B j.0 j.1 j.2 v
  put_factor Pm a B j v = upd B j.2 j.0 j.1 v
  put_factor Pa a B j v = upd B j.2 j.0 j.1 v
  put_factor P2₁2₁2₁ a B j v = put_alt a.2 B j.0 j.1 j.2 (times_i (even j.0) v)
