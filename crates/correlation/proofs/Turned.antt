-- The volumes of a call lent to the lines of its plan: what they ask for, and what all their turns come to.
use mathlib.Core.Path.{◌≡◌, sym, ◌∙◌, ap, ap₂, subst}
use mathlib.Core.List.{List}
use Prim.Native.Nat.{ℕ, ◌<◌, ◌≤◌}
use lib.ListN.{length}
use lib.IntN.{ℤ}
use Rattle.algebra.specs.ring.Ring.{Ops}
use Rattle.algebra.specs.cells.Cell.{P1, Cell}
use Rattle.numbers.specs.Value.{prime, IsModulus, Value, field, conj, real}
use Rattle.numbers.specs.Bounds.{res}
use Rattle.numbers.proofs.Residues.{res_val}
use Rattle.slices.specs.Pairs.{Below, tab, list_of}
use Rattle.lengths.specs.Lengths.{scratch_length}
use Rattle.cell.specs.Volume.{volume_pairs, volume_length, pack_map, pack_factors, factors_of}
use Rattle.cell.proofs.Maps.{obeys_one}
use Rattle.volume_transform.specs.declared.plan.Plan.{Plan}
use Rattle.volume_transform.specs.Axes.{line_count}
use Rattle.volume_transform.specs.Plans.{plan_group, plan_halves, Planned, Fitting, plan_turn}
use Rattle.volume_transform.specs.Turns.{turns}
use Rattle.volume_transform.proofs.sums.Whole.{analysed_cell}
use Rattle.correlation.specs.declared.modulo.Axes.{Axes}
use Rattle.correlation.specs.Steps.{residue_pair, correlated, residue_cell, count_cell, correlation_cell, point_count, axes_halves, SoundAxes, plan_of}
use Rattle.correlation.proofs.Volumes.{filled, multiplied, real_residues}
use Rattle.correlation.proofs.Correlated.{G, correlated_map}

abbrev all_turned : Plan → List ℕ → List ℕ
all_turned p v = turns (plan_turn p) 0 (line_count (plan_group p) (plan_halves p)) v

module _ (m : ℕ) (is : IsModulus m) (x : Axes) (s : SoundAxes x) where
  pub lent : (direction : ℕ) → direction < 2 → (p : Plan) → p ≡ plan_of m direction x → {v : List ℕ} {scratch : ℕ} → length v ≡ volume_length P1 (axes_halves x) → Below (prime m) v → scratch_length ≤ scratch → Planned p × (Fitting p v × (scratch_length ≤ scratch))
  lent direction l p e {v} {scratch} len small room =
      subst (λ (p : Plan). Planned p × (Fitting p v × (scratch_length ≤ scratch))) (sym e)
      (record { modulus = is; directed = l; sizes = s }, (record { long = len; small = small }, room))

  -- the residues of a map, analysed
  pub filled_map : (a : List ℤ) {n : ℕ} {v : List ℕ} → n ≡ volume_pairs P1 (axes_halves x) → v ≡ tab n (residue_pair (prime m) (axes_halves x).1 a) → v ≡ pack_map P1 (axes_halves x) m (residue_cell m (count_cell (axes_halves x) a))
  filled_map a e f = f ∙ ap (λ n. tab n (residue_pair (prime m) (axes_halves x).1 a)) e ∙ filled (axes_halves x) m a

  pub all_analysed : (a : List ℤ) (p : Plan) → p ≡ plan_of m 1 x → {v : List ℕ} → v ≡ pack_map P1 (axes_halves x) m (residue_cell m (count_cell (axes_halves x) a))
      → all_turned p v ≡ pack_factors P1 (axes_halves x) m (factors_of m (axes_halves x) (residue_cell m (count_cell (axes_halves x) a)))
  all_analysed a p e f = ap₂ all_turned e f ∙ analysed_cell P1 m is s.first s.second s.third _ (real_residues (axes_halves x) m (count_cell (axes_halves x) a)) (obeys_one (axes_halves x) m (residue_cell m (count_cell (axes_halves x) a)))

  module _ (a b : List ℤ) where
    abbrev product : Cell (Value m)
    product = G m is s.first s.second s.third a b

    abbrev factors_a : Cell (Value m)
    factors_a = factors_of m (axes_halves x) (residue_cell m (count_cell (axes_halves x) a))

    abbrev factors_b : Cell (Value m)
    factors_b = factors_of m (axes_halves x) (residue_cell m (count_cell (axes_halves x) b))

    -- the product of both maps' factors
    pub multiplied_factors : {n c : ℕ} {v w u : List ℕ} → n ≡ volume_pairs P1 (axes_halves x) → c ≡ (res m (point_count (axes_halves x))).val → v ≡ pack_factors P1 (axes_halves x) m factors_a → w ≡ pack_factors P1 (axes_halves x) m factors_b
        → u ≡ list_of n (correlated m c v w) → u ≡ pack_factors P1 (axes_halves x) m product
    multiplied_factors en ec ev ew eu =
        eu ∙ (λ i. list_of (en i) (correlated m (ec i) (ev i) (ew i)))
        ∙ multiplied (axes_halves x) m (res m (point_count (axes_halves x))).val factors_a factors_b
        ∙ ap (λ d. pack_factors P1 (axes_halves x) m (λ h k l. (field m).mul (real m d) ((field m).mul (conj m (factors_a h k l)) (factors_b h k l)))) (res_val m (res m (point_count (axes_halves x))))

    pub all_synthesised : (p : Plan) → p ≡ plan_of m 0 x → {v : List ℕ} → v ≡ pack_factors P1 (axes_halves x) m product → all_turned p v ≡ pack_map P1 (axes_halves x) m (residue_cell m (correlation_cell (axes_halves x) a b))
    all_synthesised p e f = ap₂ all_turned e f ∙ correlated_map m is s.first s.second s.third a b
