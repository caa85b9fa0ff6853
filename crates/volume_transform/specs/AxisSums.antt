-- What the volume holds when all lines of an axis have had their turn: after the lines along l the sums over l of the
-- factors themselves, after those along h the sums over h of these. An odd h's line of P2₁2₁2₁ is stored times i,
-- its sum over l is not: it has lost its i in its turn along l.
use Rattle.std.specs.Prelude.{◌≡◌, ◌+◌, ◌*◌, ◌/◌, ◌<◌, ◌≤◌}
use Rattle.algebra.specs.Prelude.{ℕ}
use Rattle.algebra.specs.ring.Ring.{Ops, pow, sum}
use Rattle.algebra.specs.cells.Cell.{J, Group, Cell}
use Rattle.algebra.specs.cells.CellSteps.{Lawful}
use Rattle.numbers.specs.declared.Pair.{Pair}
use Rattle.numbers.specs.Value.{IsModulus, Value, field, conj, pair_of}
use Rattle.roots.specs.Root.{root_of}
use Rattle.slices.specs.Pairs.{at}
use Rattle.lengths.specs.Admitted.{AdmittedLength}
use Rattle.cell.specs.Volume.{layers, pair_place, pack_factors}
use Rattle.cell.specs.Operations.{halves_of}
use Rattle.volume_transform.specs.Axes.{job_turn}
use Rattle.volume_transform.specs.Turns.{turns}

module _ (g : Group) (m n1 n2 n3 : ℕ) (F : Cell (Value m)) where
  abbrev pub a : J
  a = halves_of n1 n2 n3

  -- the sum over all l of F(h, k, l) e(lw/N3)
  abbrev pub sum_over_l : (h k w : ℕ) → Value m
  sum_over_l h k w = sum (field m) n3 (λ l. (field m).mul (F h k l) (pow (field m) (root_of m n3) (l * w)))

  -- and the sum over all h of that times e(hx/N1)
  abbrev pub sum_over_hl : (x k w : ℕ) → Value m
  sum_over_hl x k w = sum (field m) n1 (λ h. (field m).mul (sum_over_l h k w) (pow (field m) (root_of m n1) (h * x)))

  -- the pair of (w, h, k) after the first n turns of a synthesis of the packed factors of F
  abbrev pub pair_after : (n w h k : ℕ) → Pair
  pair_after n w h k = at (turns (job_turn g a m 0) 0 n (pack_factors g a m F)) (pair_place g a w h k)

  -- F is a cell that obeys the group, and its axes can be transformed
  pub record Synthesised : Type 0 where
    pub modulus : IsModulus m
    pub first : AdmittedLength n1
    pub second : AdmittedLength n2
    pub third : AdmittedLength n3
    pub obeys : Lawful (field m) (conj m) a g F

  -- after the N1 (B + 1) lines along l, and after the W (B + 1) along h as well, for every stored plane w and every k
  -- from 0 to B
  pub record SumsLeft : Type 0 where
    pub along_l_lem :
        (w h k : ℕ)
        → w < layers g a
        → h < n1
        → k ≤ n2 / 2
        → pair_after (n1 * (n2 / 2 + 1)) w h k ≡ pair_of (sum_over_l h k w)
    pub along_h_lem :
        (w x k : ℕ)
        → w < layers g a
        → x < n1
        → k ≤ n2 / 2
        → pair_after (n1 * (n2 / 2 + 1) + layers g a * (n2 / 2 + 1)) w x k ≡ pair_of (sum_over_hl x k w)

pub record AxisSums : Type 0 where
  pub left :
      (g : Group) (m n1 n2 n3 : ℕ) (F : Cell (Value m))
      → Synthesised g m n1 n2 n3 F
      → SumsLeft g m n1 n2 n3 F
