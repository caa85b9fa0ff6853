-- The pass over a batch of packed Hermitian lines, before the short transform of synthesis and after that of analysis:
-- each place of a lane with its mate.
use Rattle.std.specs.Prelude.{◌≡◌, List, ℕ, zero, suc, ◌*◌, ◌-◌, ◌<◌, length}
use Rattle.algebra.specs.ring.Ring.{Ops, pow}
use Rattle.numbers.specs.Value.{prime, Value, Residue, ring, field, conj, i, real, part, half, value_of}
use Rattle.fold_formulas.specs.FoldFormulas.{sum_and_difference}
use Rattle.batches.specs.Lanes.{lane_at, Good}
use Rattle.folded_batches.specs.declared.mixing.Mix.{Mix}
use Rattle.folded_batches.specs.Mixing.{HeldMix, OnParts, Times, TimesConjugate}

-- what multiplies e(t/N): i in synthesis, -i in analysis
abbrev pub turn_for : (m direction : ℕ) → Value m
turn_for m zero = i m
turn_for m (suc direction) = (field m).neg (i m)

-- analysis leaves twice the line
abbrev pub end_for : (m direction : ℕ) → Residue m
end_for m zero = (ring m).one
end_for m (suc direction) = (ring m).add (ring m).one (ring m).one

-- and is divided by twice the length N = 2 A
abbrev pub share_for : (m direction A : ℕ) → Residue m
share_for m zero A = (ring m).one
share_for m (suc direction) A = (ring m).mul (half m) (part m (2 * A))

-- the factors of a value and of its mate, where e is e(t/N)
abbrev pub own_factor : (m direction : ℕ) (e : Value m) → Value m
own_factor m direction e = (field m).add (field m).one ((field m).mul (turn_for m direction) e)

abbrev pub mate_factor : (m direction : ℕ) (e : Value m) → Value m
mate_factor m direction e = (field m).add (field m).one ((field m).neg ((field m).mul (turn_for m direction) e))

-- place t of the line X with its mate, the conjugate of place A - t; at place 0 two reals share a pair
unfoldable pub mated : (m direction A : ℕ) (w : Value m) (X : ℕ → Value m) → ℕ → Value m
mated m direction A w X zero = (field m).mul (real m (end_for m direction)) (sum_and_difference m (X 0))
mated m direction A w X (suc t) =
    (field m).add ((field m).mul (own_factor m direction (pow (field m) w (suc t))) (X (suc t)))
    ((field m).mul (mate_factor m direction (pow (field m) w (suc t))) (conj m (X (A - suc t))))

-- the coefficients of two factors, the second for a conjugate
pub record ComplexMix (m : ℕ) (α β : Value m) (k : Mix) : Type 0 where
  pub held : HeldMix m k
  pub own : Times m k.a1 k.a2 k.a3 k.a4 α
  pub mate : TimesConjugate m k.b1 k.b2 k.b3 k.b4 β

-- those of place 0: c times the sum and the difference
pub record EndMix (m : ℕ) (c : Residue m) (k : Mix) : Type 0 where
  pub held : HeldMix m k
  pub own : OnParts m k.a1 k.a2 k.a3 k.a4 c c c ((ring m).neg c)

-- the lanes of the block y are place t of the lanes of l with its mate
pub record MatedPlace (m direction A : ℕ) (w : Value m) (l : List ℕ) (t : ℕ) (y : List ℕ) : Type 0 where
  pub long : length y ≡ 32
  pub each : (v : ℕ) → v < 16
      → Good m (2 * prime m) (lane_at y 0 v) (mated m direction A w (λ j. value_of m (lane_at l j v)) t)

-- and the first n places of d
pub record MatedLanes (m direction A : ℕ) (w : Value m) (l : List ℕ) (n : ℕ) (d : List ℕ) : Type 0 where
  pub long : length d ≡ 32 * A
  pub each : (t v : ℕ) → t < n → v < 16
      → Good m (2 * prime m) (lane_at d t v) (mated m direction A w (λ j. value_of m (lane_at l j v)) t)
