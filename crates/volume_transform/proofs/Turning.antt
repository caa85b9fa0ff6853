-- The loop over the lines of a job.
use mathlib.Core.Path.{◌≡◌, refl, sym, ◌∙◌, ap, subst}
use mathlib.Core.List.{List}
use Prim.Native.Nat.{ℕ, ◌+◌, ◌<◌, ◌≤◌}
use native.Mathlib.Omega.{arith}
use lib.ListN.{length}
use Rattle.algebra.proofs.ring.Laws.{along}
use Rattle.numbers.specs.Value.{prime}
use Rattle.slices.specs.Pairs.{Below}
use Rattle.volume_transform.specs.Lines.{Lent, Kept}
use Rattle.volume_transform.specs.Axes.{line_of_turn}
use Rattle.volume_transform.specs.Plans.{plan_group, plan_halves, Fitting, plan_turn}
use Rattle.volume_transform.specs.declared.plan.Plan.{Plan}
use Rattle.volume_transform.specs.Turns.{turns}
use Rattle.volume_transform.proofs.sums.Turns.{turns_one, turns_add, length_turns, below_turns}

-- n of count turns are done
pub record Turning (step : ℕ → List ℕ → List ℕ) (count n : ℕ) (v₀ v s₀ s fold₀ fold work₀ work : List ℕ) : Type 0 where
  pub le : n ≤ count
  pub is : v ≡ turns step 0 n v₀
  pub same : Kept s₀ s
  pub scratch_long : length s ≡ length s₀
  pub fold_long : length fold ≡ length fold₀
  pub work_long : length work ≡ length work₀

pub turning_start : {step : ℕ → List ℕ → List ℕ} {count : ℕ} {v₀ s₀ fold₀ work₀ : List ℕ} → Turning step count 0 v₀ v₀ s₀ s₀ fold₀ fold₀ work₀ work₀
unfolding turns
turning_start = record { le = omega arith; is = refl; same = refl; scratch_long = refl; fold_long = refl; work_long = refl }

module _ {step : ℕ → List ℕ → List ℕ} {count n : ℕ} {v₀ v s₀ s fold₀ fold work₀ work : List ℕ} where
  -- k more turns
  pub turning_more : {v' s' fold' work' : List ℕ} → Turning step count n v₀ v s₀ s fold₀ fold work₀ work → (k : ℕ) → n + k ≤ count → v' ≡ turns step n k v → Kept s s' → length s' ≡ length s → length fold' ≡ length fold → length work' ≡ length work
      → Turning step count (n + k) v₀ v' s₀ s' fold₀ fold' work₀ work'
  turning_more t k l e same a b c = record {
    le = l;
    is = e ∙ ap (turns step n k) t.is ∙ along (λ q. turns step q k (turns step 0 n v₀)) n (0 + n) (omega arith) ∙ sym (turns_add step 0 n k v₀);
    same = same ∙ t.same;
    scratch_long = a ∙ t.scratch_long;
    fold_long = b ∙ t.fold_long;
    work_long = c ∙ t.work_long;
  }

  pub turning_next : {v' s' fold' work' : List ℕ} → Turning step count n v₀ v s₀ s fold₀ fold work₀ work → n < count → v' ≡ step n v → Kept s s' → length s' ≡ length s → length fold' ≡ length fold → length work' ≡ length work
      → Turning step count (n + 1) v₀ v' s₀ s' fold₀ fold' work₀ work'
  turning_next t l e same a b c = turning_more t 1 (omega arith) (e ∙ sym (turns_one step n v)) same a b c

  pub turning_done : Turning step count n v₀ v s₀ s fold₀ fold work₀ work → count ≤ n → v ≡ turns step 0 count v₀
  turning_done t l = t.is ∙ along (λ k. turns step 0 k v₀) n count (omega (arith, t.le))

  pub turning_lent : Turning step count n v₀ v s₀ s fold₀ fold work₀ work → Lent s₀ fold₀ work₀ → Lent s fold work
  turning_lent t l = record { scratch_fits = omega (arith, t.scratch_long, l.scratch_fits); fold_fits = omega (arith, t.fold_long, l.fold_fits); work_fits = omega (arith, t.work_long, l.work_fits) }

-- the volume of a job remains one
module _ (p : Plan) {count n : ℕ} {v₀ v s₀ s fold₀ fold work₀ work : List ℕ} (t : Turning (plan_turn p) count n v₀ v s₀ s fold₀ fold work₀ work) where
  pub turning_length : length v ≡ length v₀
  turning_length = ap length t.is ∙ length_turns (plan_group p) (plan_halves p) p.m p.direction (line_of_turn (plan_group p) (plan_halves p) p.direction) n v₀

  pub turning_fits : Fitting p v₀ → Fitting p v
  turning_fits f = record {
    long = turning_length ∙ f.long;
    small = subst (Below (prime p.m)) (sym t.is) (below_turns (plan_group p) (plan_halves p) p.m p.direction (line_of_turn (plan_group p) (plan_halves p) p.direction) n v₀ f.small);
  }
