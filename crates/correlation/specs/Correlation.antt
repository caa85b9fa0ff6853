-- The correlation of two combined maps of one cell in P1, which is the paper's overlay of two joined maps: at each
-- shift the sum over all points of their products, as whole numbers; the tests of the call in the paper's order, and
-- what it answers and leaves.
use Rattle.std.specs.Prelude.{◌&&◌, ◌||◌, ◌+◌, ◌*◌, ◌%◌, ◌∷◌, ◌++◌, ◌*ℤ◌}
use Rattle.algebra.specs.Prelude.{Bool, not, cond, eqb, ltb, ℕ, zero, suc, List, []}
use Rattle.algebra.specs.Prelude.{length, replicate}
use Rattle.algebra.specs.ring.Ring.{sum}
use Rattle.algebra.specs.cells.Cell.{J, P1}
use Rattle.signed.specs.Integers.{ℤ, nat_abs}
use Rattle.signed.specs.IntegerRing.{integers}
use Rattle.refusals.specs.Refusals.{first, Test, ◌⇒◌, accepted}
use Rattle.lengths.specs.Lengths.{scratch_length, cleared}
use Rattle.cell.specs.Volume.{volume_length}
use Rattle.header.specs.Header.{Header, half_lengths, axis_tests}
use Rattle.combined.specs.CombinedMap.{limit, count_of, pack_signed}
use Rattle.output.specs.Output.{Filled, Filled.written, Filled.not_written}

-- ---- the sum of products

-- the point u + s, going round the cell
abbrev pub shifted_by : (h u s : J) → J
shifted_by h u s = ((u.0 + s.0) % (2 * h.0), (u.1 + s.1) % (2 * h.1), (u.2 + s.2) % (2 * h.2))

-- the sum over all points of the cell
unfoldable pub total_of : J → (J → ℤ) → ℤ
total_of h f =
    sum integers (2 * h.0) (λ x. sum integers (2 * h.1) (λ y. sum integers (2 * h.2) (λ z. f (x, y, z))))

-- at the shift s the sum over all points u of a(u) × b(u + s)
unfoldable pub correlation_at : J → (a b : List ℤ) → J → ℤ
correlation_at h a b s = total_of h (λ u. count_of P1 h a u *ℤ count_of P1 h b (shifted_by h u s))

-- at every shift, in the layout of the maps
abbrev pub correlation : J → (a b : List ℤ) → List ℤ
correlation h a b = pack_signed P1 h (λ x y z. correlation_at h a b (x, y, z))

-- ---- refusal 28

-- the larger of two numbers
abbrev pub larger : ℕ → ℕ → ℕ
larger a b = cond (ltb a b) b a

-- f 0, f 1, .., f (n - 1) by an operation, from 0 on
unfoldable pub over : (ℕ → ℕ → ℕ) → ℕ → (ℕ → ℕ) → ℕ
over op zero f = 0
over op (suc n) f = op (over op n f) (f n)

-- the same over all points of the cell
abbrev pub over_cell : (ℕ → ℕ → ℕ) → J → (J → ℕ) → ℕ
over_cell op h f = over op (2 * h.2) (λ z. over op (2 * h.0) (λ x. over op (2 * h.1) (λ y. f (x, y, z))))

-- the sum of the magnitudes of a map, and the largest
abbrev pub magnitudes : J → List ℤ → ℕ
magnitudes h v = over_cell ◌+◌ h (λ u. nat_abs (count_of P1 h v u))

abbrev pub largest : J → List ℤ → ℕ
largest h v = over_cell larger h (λ u. nat_abs (count_of P1 h v u))

-- a magnitude of either map exceeds the limit, or the sum of those in a times the largest in b does
abbrev pub exceeds : J → (a b : List ℤ) → Bool
exceeds h a b = ltb limit (largest h a) || (ltb limit (largest h b) || ltb limit (magnitudes h a * largest h b))

-- ---- the call

-- P1, three lengths and their factor lists
abbrev pub header_of : (lengths : J) (list1 list2 list3 : List ℕ) → Header
header_of n list1 list2 list3 = record { group = 0; lengths = n; list1 = list1; list2 = list2; list3 = list3 }

-- what the call may write to
pub record Buffers : Type 0 where
  pub output : List ℤ
  pub work1 : List ℕ
  pub work2 : List ℕ
  pub work3 : List ℕ
  pub scratch : List ℕ

-- maps, output and work volumes are exactly as long as the lengths ask for
abbrev pub all_long : (needed a b output work1 work2 work3 : ℕ) → Bool
all_long n a b output work1 work2 work3 =
    eqb a n && (eqb b n && (eqb output n && (eqb work1 n && (eqb work2 n && eqb work3 n))))

-- 6, 13, 28, of buffers of these lengths
abbrev pub buffers_tests : (lengths : J) (a b : List ℤ) (output work1 work2 work3 scratch : ℕ) → List Test
buffers_tests n a b output work1 work2 work3 scratch =
    not (all_long (volume_length P1 (half_lengths n)) (length a) (length b) output work1 work2 work3) ⇒ 6 ∷
    ltb scratch scratch_length ⇒ 13 ∷
    exceeds (half_lengths n) a b ⇒ 28 ∷
    []

-- 3, 4, 5, each over the three axes, 9, then these
abbrev pub correlation_tests : Header → (a b : List ℤ) (output work1 work2 work3 scratch : ℕ) → List Test
correlation_tests c a b output work1 work2 work3 scratch =
    axis_tests c ++ buffers_tests c.lengths a b output work1 work2 work3 scratch

pub record CorrelationOutcome : Type 0 where
  pub answer : Filled
  pub buffers : Buffers

-- the count of numbers and the correlation, the work volumes zero and the scratch cleared
abbrev pub correlated_outcome : (lengths : J) (a b : List ℤ) → Buffers → CorrelationOutcome
correlated_outcome n a b w =
    let count = volume_length P1 (half_lengths n) in
    record {
      answer = written count;
      buffers = record {
        output = correlation (half_lengths n) a b;
        work1 = replicate count 0;
        work2 = replicate count 0;
        work3 = replicate count 0;
        scratch = cleared w.scratch;
      };
    }

-- or a refusal's number and all as it was
unfoldable pub correlation_step : Header → (a b : List ℤ) → Buffers → CorrelationOutcome
correlation_step c a b w =
    accepted
    (first
    (correlation_tests c a b (length w.output) (length w.work1) (length w.work2) (length w.work3)
    (length w.scratch)))
    (correlated_outcome c.lengths a b w)
    (λ n. record { answer = not_written n; buffers = w })
