-- The records of a file are taken exactly if their numbers are residues, each lies in the cell and agrees with itself, and no two are of one orbit.
use mathlib.Core.Path.{◌≡◌, refl, sym, ◌∙◌, ap, subst}
use mathlib.Core.Bool.{Bool, true, false, ◌&&◌}
use mathlib.Core.List.{List, [], ◌∷◌, map}
use Prim.Native.Nat.{ℕ, ◌<◌}
use lib.Dec.{T, ltb}
use lib.ListN.{length}
use borrow.Author.Tests.{not-false, ltb-true, lt-ltb}
use Rattle.algebra.specs.cells.Cell.{J, Inside, Sym, full, factor_acts, some, same_orbit}
use Rattle.algebra.specs.orbits.Orbit.{Mem, first as first_of, later, Acts}
use Rattle.algebra.specs.orbits.OrbitLaws.{Off, OffAll, Sound}
use Rattle.algebra.proofs.ring.Bool.{same_test, some_at, some_by}
use Rattle.algebra.proofs.ring.Members.{none, mem_cons}
use Rattle.algebra.proofs.cells.CellGroup.{orbit_iff}
use Rattle.numbers.specs.Value.{prime, Value, field, conj, value}
use Rattle.refusals.specs.Refusals.{first, accepted}
use Rattle.refusals.proofs.Tests.{both, passed, not_t, pass, none as no_test}
use Rattle.cell.proofs.Records.{agrees_iff}
use Rattle.file_format.specs.declared.FileRecord.{FileRecord}
use Rattle.factor_file.specs.File.{index_in, judge_tests, Judgement, taken, refused_at, judged}
use Rattle.factor_file.proofs.Judging.{taken_first}
use Rattle.model.specs.Model.{Model, group, half}
use Rattle.model.proofs.Sound.{LawfulModel, halves_positive, within_inside, inside_within}
use Rattle.demands.specs.Demands.{entry}

-- the operations on the factors of a model
abbrev pub acts_on : (μ : ℕ) → J → Acts Sym J (Value μ)
acts_on μ a = factor_acts (field μ) (conj μ) a

-- records inside the cell of a model that agree with themselves, no two of one orbit
abbrev pub DifferentIn : {μ : ℕ} → Model μ → List FileRecord → Type 0
DifferentIn {μ} m cs = Sound (acts_on μ (half m)) (Inside (half m)) (full (group m)) (map (entry μ) cs)

abbrev pub BelowPrime : (μ : ℕ) → List FileRecord → Type 0
BelowPrime μ cs = (c : FileRecord) → Mem c cs → (c.a < prime μ) × (c.b < prime μ)

-- .. and none of an orbit of these indices
abbrev OffBefore : {μ : ℕ} → Model μ → List J → List FileRecord → Type 0
OffBefore {μ} m before cs = (i : J) → Mem i before → OffAll (acts_on μ (half m)) (full (group m)) i (map (entry μ) cs)

module _ {μ : ℕ} (m : Model μ) (sound : LawfulModel m) where
  pub record JudgedTaken (before : List J) (cs : List FileRecord) : Type 0 where
    pub below : BelowPrime μ cs
    pub different : DifferentIn m cs
    pub off : OffBefore m before cs

  abbrev seen_in : List J → J → Bool
  seen_in before j = some before (λ i. same_orbit (group m) (half m) i j)

  not_seen : (before : List J) (i j : J) → seen_in before j ≡ false → Mem i before → Off (acts_on μ (half m)) (full (group m)) i j
  unfolding factor_acts
  not_seen before i j e mi s ms q = subst T e (some_by before _ i mi ((orbit_iff (group m) (half m) i j).1 (s, ms, q)))

  pub unseen : (before : List J) (j : J) → ((i : J) → Mem i before → Off (acts_on μ (half m)) (full (group m)) i j) → seen_in before j ≡ false
  unfolding factor_acts
  unseen before j f = same_test (seen_in before j) false (λ t. let r = some_at before _ t in let o = (orbit_iff (group m) (half m) r.0 j).0 r.2 in f r.0 r.1 o.0 o.1 o.2) (λ t. absurd t)

  pub judged_different : (before : List J) (cs : List FileRecord) → judged μ m.header.group m.header.lengths before cs ≡ taken → JudgedTaken before cs
  unfolding judged Sound OffAll factor_acts
  judged_different before [] e = record { below = λ c i. none i; different = tt; off = λ i mi. tt }
  judged_different before (c ∷ cs) e =
      let q = taken_first μ m.header.group m.header.lengths before c cs e in
      let t = passed (judge_tests μ m.header.group m.header.lengths before (index_in c) c.a c.b) tt q.0 in
      let b = both (ltb c.a (prime μ)) (ltb c.b (prime μ)) (not-false _ t.1.0) in
      let r = judged_different (index_in c ∷ before) cs q.1 in
      record {
        below = mem_cons (λ c. (c.a < prime μ) × (c.b < prime μ)) (ltb-true _ _ b.0, ltb-true _ _ b.1) r.below;
        different = ((within_inside m sound (index_in c) (not-false _ t.0), (agrees_iff (group m) (half m) (halves_positive m sound) μ (index_in c) (value μ c.a c.b)).0 (not-false _ t.1.1.0)), r.off (index_in c) first_of, r.different);
        off = λ i mi. (not_seen before i (index_in c) t.1.1.1.0 mi, r.off i (later mi));
      }

  pub different_judged : (before : List J) (cs : List FileRecord) → BelowPrime μ cs → DifferentIn m cs → OffBefore m before cs → judged μ m.header.group m.header.lengths before cs ≡ taken
  unfolding judged Sound OffAll factor_acts
  different_judged before [] small o off = refl
  different_judged before (c ∷ cs) small o off =
      ap (λ n. accepted n (judged μ m.header.group m.header.lengths (index_in c ∷ before) cs) (λ k. refused_at k (length before))) (sym passes)
      ∙ different_judged (index_in c ∷ before) cs (λ d i. small d (later i)) o.2 (mem_cons (λ i. OffAll (acts_on μ (half m)) (full (group m)) i (map (entry μ) cs)) o.1 (λ i mi. (off i mi).1))
    where
      below : (ltb c.a (prime μ) && ltb c.b (prime μ)) ≡ true
      below =
          let u = lt-ltb c.a (prime μ) (small c first_of).0 in
          let v = lt-ltb c.b (prime μ) (small c first_of).1 in
          λ i. u i && v i

      passes : 0 ≡ first (judge_tests μ m.header.group m.header.lengths before (index_in c) c.a c.b)
      passes =
          pass 10 _ (not_t _ (inside_within m sound (index_in c) o.0.0))
          (pass 7 _ (not_t _ below)
          (pass 12 _ (not_t _ ((agrees_iff (group m) (half m) (halves_positive m sound) μ (index_in c) (value μ c.a c.b)).1 o.0.1))
          (pass 24 _ (unseen before (index_in c) (λ i mi. (off i mi).0))
          no_test)))
