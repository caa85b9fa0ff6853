-- The steps of the call: the residues of a map's points, the products of two volumes of factors, the magnitudes place
-- by place.
use Rattle.std.specs.Prelude.{◌||◌, ◌+◌, ◌*◌, ◌%◌}
use Rattle.algebra.specs.Prelude.{Bool, cond, ltb, ℕ, suc, List, length, get_or}
use Rattle.algebra.specs.ring.Ring.{Ops}
use Rattle.algebra.specs.cells.Cell.{J, P1, Cell}
use Rattle.numbers.specs.declared.Pair.{Pair}
use Rattle.numbers.specs.Value.{prime, Value, field, conj, real, value}
use Rattle.numbers.specs.Bounds.{res, zero_pair}
use Rattle.signed.specs.Integers.{ℤ, pos, nat_abs, residue_z}
use Rattle.slices.specs.Pairs.{values_of}
use Rattle.combined.specs.CombinedMap.{limit, count_of}
use Rattle.lengths.specs.Lengths.{octal}
use Rattle.cell.specs.declared.operations.UnitCell.{UnitCell}
use Rattle.cell.specs.Operations.{cell_halves}
use Rattle.volume_transform.specs.declared.plan.Plan.{Plan}
use Rattle.volume_transform.specs.Axes.{JobSizes}
use Rattle.correlation.specs.declared.modulo.Axes.{Axes}
use Rattle.correlation.specs.Correlation.{correlation_at, larger, over}

-- the magnitude at a place of the layout, whose rows have N2 = 2 B points and two places more: there it is 0
abbrev pub magnitude_at : (B : ℕ) → List ℤ → ℕ → ℕ
magnitude_at B v n = cond (ltb (n % (2 * suc B)) (2 * B)) (nat_abs (get_or v n (pos 0))) 0

-- the residues of pair j of the layout, the last pair of a row being two zeros
abbrev pub residue_pair : (p B : ℕ) → List ℤ → ℕ → Pair
residue_pair p B v j =
    cond (ltb (j % suc B) B)
    (record { re = residue_z p (get_or v (2 * j) (pos 0)); im = residue_z p (get_or v (2 * j + 1) (pos 0)) }) zero_pair

-- c times the conjugate of the first volume's value times the second's
abbrev pub correlated : (m c : ℕ) → (first second : List ℕ) → ℕ → Value m
correlated m c v w j = (field m).mul (real m (res m c)) ((field m).mul (conj m (values_of m v j)) (values_of m w j))

-- a cell of whole numbers modulo the prime, as real values
abbrev pub residue_cell : (m : ℕ) → Cell ℤ → Cell (Value m)
residue_cell m M x y z = value m (residue_z (prime m) (M x y z)) 0

-- the cell of a map, and of the correlation of two
abbrev pub count_cell : J → List ℤ → Cell ℤ
count_cell h v x y z = count_of P1 h v (x, y, z)

abbrev pub correlation_cell : J → (a b : List ℤ) → Cell ℤ
correlation_cell h a b x y z = correlation_at h a b (x, y, z)

-- how many points the cell has
abbrev pub point_count : J → ℕ
point_count h = 2 * h.0 * (2 * h.1) * (2 * h.2)

-- refusal 28 of maps in rows of 2 B points, place by place
abbrev pub exceeds_at : (B : ℕ) (a b : List ℤ) → Bool
exceeds_at B a b =
    let most = over larger (length b) (magnitude_at B b) in
    ltb limit (over larger (length a) (magnitude_at B a))
    || (ltb limit most || ltb limit (over ◌+◌ (length a) (magnitude_at B a) * most))

-- ---- the axes of a call: lengths, and factor lists in octal digits

abbrev pub axes_cell : Axes → UnitCell
axes_cell x = record { group = 0; n1 = x.n1; n2 = x.n2; n3 = x.n3 }

abbrev pub axes_halves : Axes → J
axes_halves x = cell_halves (axes_cell x)

abbrev pub SoundAxes : Axes → Type 0
SoundAxes x = JobSizes (axes_cell x) x.f1 x.f2 x.f3

abbrev pub axes_of : (lengths : J) (list1 list2 list3 : List ℕ) → Axes
axes_of n l1 l2 l3 = record { n1 = n.0; n2 = n.1; n3 = n.2; f1 = octal l1; f2 = octal l2; f3 = octal l3 }

-- direction 0 for a synthesis, 1 for an analysis
abbrev pub plan_of : (m direction : ℕ) → Axes → Plan
plan_of m direction x = record { m = m; direction = direction; cell = axes_cell x; f1 = x.f1; f2 = x.f2; f3 = x.f3 }
