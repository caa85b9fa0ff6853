-- What follows from the agreement with the model, after any list of calls on the job and the volume of a sound model: every number of a map is the triple sum over F,
-- all images of a point carry the same number, and a record is refused by 24 exactly if F at its index is not zero.
use mathlib.Core.Path.{◌≡◌, refl, sym, ap, ◌∙◌, subst}
use mathlib.Core.Logic.{◌↔◌}
use mathlib.Core.Bool.{Bool, true, false, not}
use mathlib.Core.List.{List, [], ◌∷◌}
use Prim.Native.Nat.{ℕ, zero, suc}
use native.Mathlib.Omega.{arith}
use lib.Dec.{eqb}
use borrow.Author.Tests.{not-false, eq-eqb}
use Rattle.algebra.specs.cells.Cell.{Sym, ops, point_image}
use Rattle.algebra.specs.orbits.Orbit.{Mem}
use Rattle.algebra.proofs.cells.CellSym.{point_inside}
use Rattle.numbers.specs.Value.{value, conj}
use Rattle.refusals.specs.Refusals.{Test, ◌⇒◌, first, accepted}
use Rattle.refusals.proofs.Tests.{none, not_t, pass, passed}
use Rattle.cell.specs.Volume.{group_of}
use Rattle.cell.specs.Consistency.{same_value}
use Rattle.cell.proofs.Tests.{true_iff}
use Rattle.cell.proofs.Reading.{same_iff}
use Rattle.cell.proofs.Maps.{ops_plain}
use Rattle.job.specs.declared.Job.{Job}
use Rattle.job.specs.declared.Reflection.{Reflection}
use Rattle.job.specs.declared.GridPoint.{GridPoint}
use Rattle.job.specs.Job.{Header, half_lengths, map_held, within, index, position, done, density, refused, Outcome, record_step, point_step}
use Rattle.model.specs.Model.{Model, group, half, factor_of, density_of, signed_real, Call, recording, read_point, model_tests, model_said, model_volume, model_job}
use Rattle.demands.specs.Demands.{Ran, run, model_ran, model_end}
use Rattle.model.proofs.Sound.{LawfulModel, within_inside, inside_within, map_obeys_group, density_real}
use Rattle.model.proofs.OneCall.{one_call, accepted_call}
use Rattle.demands.proofs.Lists.{every_list, end_sound, end_header}

-- ---- refusals by their number

-- a test of another number was not the first
pub not_this : (b : Bool) (k n : ℕ) (ts : List Test) → (k ≡ n → ⊥) → first (b ⇒ k ∷ ts) ≡ n → first ts ≡ n
unfolding first
not_this true k n ts f e = absurd (f e)
not_this false k n ts f e = e

pub refused_number : (n k : ℕ) → accepted n done refused ≡ refused k → n ≡ k
refused_number zero k e = let z : ◌≡◌ {A = ℕ} 0 1 = cc in absurd (omega arith)
refused_number (suc n) k e = cc

refused_by : (n : ℕ) → (0 ≡ n → ⊥) → accepted n done refused ≡ refused n
refused_by zero f = absurd (f refl)
refused_by (suc n) f = refl

-- ---- of a sound model

module _ {μ : ℕ} (m : Model μ) (sound : LawfulModel m) where
  point_said : (x : GridPoint) → (point_step (model_job m) x (model_volume m)).answer ≡ model_said m (read_point x)
  point_said x = ap (λ (o : Outcome). o.answer) (one_call m sound (read_point x)).0

  pub record_said : (k : Reflection) (x y : ℕ) → (record_step (model_job m) k x y (model_volume m)).answer ≡ model_said m (recording k x y)
  record_said k x y = ap (λ (o : Outcome). o.answer) (one_call m sound (recording k x y)).0

  pub point_is_sum : m.state ≡ map_held → (x : GridPoint) → within m.header.lengths (position x) ≡ true →
      ((point_step (model_job m) x (model_volume m)).answer ≡ density (signed_real μ (density_of m (position x)))) × ((density_of m (position x)).1.val ≡ 0)
  point_is_sum s x w = (
    ap (λ (o : Outcome). o.answer) (accepted_call m sound (read_point x) (pass 22 _ (not_t _ (eq-eqb _ _ s)) (pass 10 _ (not_t _ w) none))),
    density_real m sound (position x) (within_inside m sound (position x) w),
  )

  image_said : (q : Sym) → Mem q (ops (group m)) → (x y : GridPoint) → within m.header.lengths (position x) ≡ true → position y ≡ point_image (half m) q (position x) → model_said m (read_point y) ≡ model_said m (read_point x)
  unfolding model_said
  image_said q mq x y w e =
      let n = within_inside m sound (position x) w in
      let v : within m.header.lengths (position y) ≡ true = ap (within m.header.lengths) e ∙ inside_within m sound _ (point_inside (half m) q (position x) n) in
      let u = v ∙ sym w in
      let d : density_of m (position y) ≡ density_of m (position x) = ap (density_of m) e ∙ map_obeys_group m sound q mq (position x) n ∙ ops_plain (conj μ) (group m) q mq _ in
      λ i. accepted (first (not (eqb m.state map_held) ⇒ 22 ∷ not (u i) ⇒ 10 ∷ [])) (density (signed_real μ (d i))) refused

  image_alike : (q : Sym) → Mem q (ops (group m)) → (x y : GridPoint) → within m.header.lengths (position x) ≡ true → position y ≡ point_image (half m) q (position x) →
      (point_step (model_job m) y (model_volume m)).answer ≡ (point_step (model_job m) x (model_volume m)).answer
  image_alike q mq x y w e = point_said y ∙ image_said q mq x y w e ∙ sym (point_said x)

  -- 24 is the last test of a record
  occupied : (k : Reflection) (x y : ℕ) → first (model_tests m (recording k x y)) ≡ 24 → factor_of m (index k) ≡ value μ 0 0 → ⊥
  occupied k x y e z =
      let last = not_this _ 12 24 _ (λ q. omega arith) (not_this _ 7 24 _ (λ q. omega arith) (not_this _ 10 24 _ (λ q. omega arith) (not_this _ 21 24 _ (λ q. omega arith) e))) in
      let same = (true_iff (same_value (factor_of m (index k)) (value μ 0 0))).1 ((same_iff μ _ _).1 z) in
      let n : ◌≡◌ {A = ℕ} 0 24 = pass 24 [] (not_t _ same) none ∙ last in
      omega arith

  pub vacant : (k : Reflection) (x y : ℕ) → 0 ≡ first (model_tests m (recording k x y)) → factor_of m (index k) ≡ value μ 0 0
  vacant k x y e = (same_iff μ _ _).0 ((true_iff (same_value (factor_of m (index k)) (value μ 0 0))).0 (not-false _ (passed (model_tests m (recording k x y)) tt e).1.1.1.1.0))

  occupied_by : (k : Reflection) (x y : ℕ) → let a = (record_step (model_job m) k x y (model_volume m)).answer in
      ((n : ℕ) → a ≡ refused n → n ≡ 24) → ((a ≡ refused 24) ↔ (factor_of m (index k) ≡ value μ 0 0 → ⊥))
  unfolding model_said
  occupied_by k x y only = (
    λ e. occupied k x y (refused_number _ _ (sym (record_said k x y) ∙ e)),
    λ f.
        let n = first (model_tests m (recording k x y)) in
        let r = record_said k x y ∙ refused_by n (λ e. f (vacant k x y e)) in
        r ∙ ap refused (only n r),
  )

-- ---- after any list of calls on the job and the volume of a sound model

module _ {μ : ℕ} (m : Model μ) (sound : LawfulModel m) (j : Job) (v : List ℕ) (is-job : j ≡ model_job m) (is_volume : v ≡ model_volume m) (l : List Call) where
  pub runs : run j v l ≡ model_ran m l
  runs = (λ i. run (is-job i) (is_volume i) l) ∙ every_list m sound l

  -- what is said of the opening's header holds of the header at the end
  at_end : (P : Header → Type 0) → P m.header → P (model_end m l).header
  at_end P = subst P (sym (end_header m l))

  pub triple_sums : (run j v l).job.state ≡ map_held → (x : GridPoint) → within m.header.lengths (position x) ≡ true →
      ((point_step (run j v l).job x (run j v l).volume).answer ≡ density (signed_real μ (density_of (model_end m l) (position x)))) × ((density_of (model_end m l) (position x)).1.val ≡ 0)
  triple_sums s x w =
      let r = point_is_sum (model_end m l) (end_sound m sound l) (sym (ap (λ (r : Ran). r.job.state) runs) ∙ s) x (at_end (λ h. within h.lengths (position x) ≡ true) w) in
      (ap (λ (r : Ran). (point_step r.job x r.volume).answer) runs ∙ r.0, r.1)

  pub images_alike : (q : Sym) → Mem q (ops (group m)) → (x y : GridPoint) → within m.header.lengths (position x) ≡ true → position y ≡ point_image (half m) q (position x) →
      (point_step (run j v l).job y (run j v l).volume).answer ≡ (point_step (run j v l).job x (run j v l).volume).answer
  images_alike q mq x y w e =
      ap (λ (r : Ran). (point_step r.job y r.volume).answer) runs
      ∙ image_alike (model_end m l) (end_sound m sound l) q (at_end (λ h. Mem q (ops (group_of h.group))) mq) x y (at_end (λ h. within h.lengths (position x) ≡ true) w) (at_end (λ h. position y ≡ point_image (half_lengths h.lengths) q (position x)) e)
      ∙ sym (ap (λ (r : Ran). (point_step r.job x r.volume).answer) runs)

  pub occupied_exactly : (k : Reflection) (x y : ℕ) → let a = (record_step (run j v l).job k x y (run j v l).volume).answer in
      ((n : ℕ) → a ≡ refused n → n ≡ 24) → ((a ≡ refused 24) ↔ (factor_of (model_end m l) (index k) ≡ value μ 0 0 → ⊥))
  occupied_exactly k x y =
      subst (λ (r : Ran). ((n : ℕ) → (record_step r.job k x y r.volume).answer ≡ refused n → n ≡ 24) → (((record_step r.job k x y r.volume).answer ≡ refused 24) ↔ (factor_of (model_end m l) (index k) ≡ value μ 0 0 → ⊥)))
      (sym runs) (occupied_by (model_end m l) (end_sound m sound l) k x y)
