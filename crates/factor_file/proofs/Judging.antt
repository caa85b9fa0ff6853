-- The records of a file judged, by marks at the places of orbits; and recorded, where all are taken.
use mathlib.Core.Path.{◌≡◌, refl, sym, ◌∙◌, ap, subst}
use mathlib.Core.Bool.{Bool, true, false}
use mathlib.Core.List.{List, [], ◌∷◌}
use Prim.Native.Nat.{ℕ, zero, suc, ◌+◌, ◌<◌}
use native.Mathlib.Omega.{arith}
use native.Mathlib.Decide.{ℕ_discrete}
use lib.Dec.{T}
use lib.ListN.{length, get_or, set, replicate}
use lib.Seq.{get_or-set_same, get_or-set_other}
use Rattle.algebra.specs.cells.Cell.{J, Inside, Group, some, same_orbit}
use Rattle.algebra.specs.orbits.Orbit.{Mem, first as first_of, later}
use Rattle.algebra.proofs.ring.Bool.{same_test, some_at, some_by}
use Rattle.algebra.proofs.ring.Members.{none, mem_cons}
use Rattle.algebra.proofs.cells.CellTests.{Positive}
use Rattle.slices.proofs.Bounds.{below_replicate}
use Rattle.refusals.specs.declared.Refusal.{Refusal}
use Rattle.refusals.specs.Refusals.{number_of, first, accepted}
use Rattle.refusals.proofs.Tests.{fails}
use Rattle.cell.specs.Volume.{volume_length}
use Rattle.cell.specs.OrbitPlace.{orbit_place}
use Rattle.cell.specs.declared.operations.UnitCell.{UnitCell}
use Rattle.cell.specs.Operations.{cell_group, cell_halves, cell_lengths, triple_of, Sizes, Within}
use Rattle.cell.specs.declared.operations.Index.{Index}
use Rattle.cell.specs.Consistency.{record_on}
use Rattle.cell.proofs.OrbitPlaces.{orbit_place_low, same_place}
use Rattle.numbers.specs.Value.{value}
use Rattle.file_format.specs.declared.FileRecord.{FileRecord}
use Rattle.std.specs.Prelude.{Some, None}
use Rattle.file_format.specs.Format.{records_in, shape_tests, count_at}
use Rattle.file_format.specs.Walk.{found_at, place_after}
use Rattle.factor_file.specs.File.{index_in, judge_tests, Judgement, taken, refused_at, judged, record_all_on}
use Rattle.factor_file.specs.Marks.{Marked}
use Rattle.factor_file.proofs.Walking.{Walked, left, walk_start, walk_end, walk_next}

-- ---- the halves of a cell's lengths, and an index within them

pub cell_positive : {c : UnitCell} → Sizes c → Positive (cell_halves c)
cell_positive s = (omega (arith, s.first.low), omega (arith, s.second.low), omega (arith, s.third.low))

pub cell_inside : {c : UnitCell} → Sizes c → {j : Index} → Within c j → Inside (cell_halves c) (triple_of j)
cell_inside s w = (omega (arith, s.first.even, w.h), omega (arith, s.second.even, w.k), omega (arith, s.third.even, w.l))

-- ---- the marks

-- no mark on a volume of zeros
pub none_marked : (g : Group) (a : J) (n : ℕ) {v : List ℕ} → v ≡ replicate n 0 → Marked g a v []
none_marked g a n {v} e = record {
  inside = λ i m. none m;
  hit = λ i m. none m;
  only = λ q z. absurd (z (let l = subst (λ u. get_or u q 0 < 1) (sym e) ((below_replicate n 0 (omega arith)).each q) in omega arith));
}

module _ (g : Group) (a : J) (long : Positive a) (v : List ℕ) (before : List J) (marks : Marked g a v before) (j : J) (inside : Inside a j) where
  abbrev seen : Bool
  seen = some before (λ i. same_orbit g a i j)

  -- the mark at the place of an orbit tells whether it was seen
  pub mark_seen : (get_or v (orbit_place g a j) 0 ≡ 0 → ⊥) → seen ≡ true
  mark_seen z =
      let r = marks.only (orbit_place g a j) z in
      same_test seen true (λ t. tt) (λ t. some_by before _ r.0 r.1 ((same_place g a long r.0 j (marks.inside r.0 r.1) inside).0 r.2))

  pub mark_unseen : get_or v (orbit_place g a j) 0 ≡ 0 → seen ≡ false
  mark_unseen z = same_test seen false (λ t.
      let r = some_at before _ t in
      marks.hit r.0 r.1 (ap (λ q. get_or v q 0) ((same_place g a long r.0 j (marks.inside r.0 r.1) inside).1 r.2) ∙ z)) (λ t. absurd t)

  -- one more
  pub mark_set : length v ≡ volume_length g a → {place : ℕ} → place ≡ orbit_place g a j → Marked g a (set v place 1) (j ∷ before)
  mark_set len {place} e =
      let own : get_or (set v place 1) place 0 ≡ 1 = get_or-set_same v place 1 0 (omega (arith, orbit_place_low g a long j inside)) in
      record {
        inside = mem_cons (Inside a) inside marks.inside;
        hit = mem_cons (λ i. get_or (set v place 1) (orbit_place g a i) 0 ≡ 0 → ⊥) (λ z. let o = ap (λ q. get_or (set v place 1) q 0) e in omega (arith, own, o, z)) (λ i m. old i m own (ℕ_discrete (orbit_place g a i) place));
        only = λ q z. new q z (ℕ_discrete q place);
      }
    where
      old : (i : J) → Mem i before → get_or (set v place 1) place 0 ≡ 1 → Dec (orbit_place g a i ≡ place) → get_or (set v place 1) (orbit_place g a i) 0 ≡ 0 → ⊥
      old i m own (yes q) z = let o = ap (λ q. get_or (set v place 1) q 0) q in omega (arith, own, o, z)
      old i m own (no q) z = marks.hit i m (sym (get_or-set_other v place (orbit_place g a i) 1 0 q) ∙ z)

      new : (q : ℕ) → (get_or (set v place 1) q 0 ≡ 0 → ⊥) → Dec (q ≡ place) → (i : J) × Mem i (j ∷ before) × (orbit_place g a i ≡ q)
      new q z (yes p) = (j, first_of, sym e ∙ sym p)
      new q z (no p) = let r = marks.only q (λ y. z (get_or-set_other v place q 1 0 p ∙ y)) in (r.0, later r.1, r.2)

-- ---- the records judged one after another

-- `place` records were taken, their orbits are marked, and what is left decides
pub record Judging (μ : ℕ) (cell : UnitCell) (file marks : List ℕ) (at place : ℕ) : Type 0 where
  pub before : List J
  pub walked : Walked file at place
  pub count : length before ≡ place
  pub rest : judged μ cell.group (cell_lengths cell) [] (records_in file) ≡ judged μ cell.group (cell_lengths cell) before (left file at place)
  pub marked : Marked (cell_group cell) (cell_halves cell) marks before

pub judging_start : (μ : ℕ) (cell : UnitCell) (file : List ℕ) {marks : List ℕ} {at : ℕ} → at ≡ count_at file + 4 → Marked (cell_group cell) (cell_halves cell) marks [] → Judging μ cell file marks at 0
judging_start μ cell file e m = let w = walk_start file e in record { before = []; walked = w.0; count = refl; rest = ap (judged μ cell.group (cell_lengths cell) []) w.1; marked = m }

module _ {μ : ℕ} {cell : UnitCell} {file marks : List ℕ} {at place : ℕ} (s : Judging μ cell file marks at place) (sound : 0 ≡ first (shape_tests file)) where
  abbrev whole : Judgement
  whole = judged μ cell.group (cell_lengths cell) [] (records_in file)

  pub judging_end : None ≡ found_at file at → taken ≡ whole
  unfolding judged
  judging_end e = sym (s.rest ∙ ap (judged μ cell.group (cell_lengths cell) s.before) (walk_end s.walked sound e))

  module _ (c : FileRecord) (found : Some c ≡ found_at file at) {after : ℕ} (on : after ≡ place_after file at) where
    abbrev number : ℕ
    number = first (judge_tests μ cell.group (cell_lengths cell) s.before (index_in c) c.a c.b)

    abbrev next : Judgement
    next = judged μ cell.group (cell_lengths cell) (index_in c ∷ s.before) (left file after (place + 1))

    opened : whole ≡ accepted number next (λ k. refused_at k place)
    unfolding judged
    opened = s.rest ∙ ap (judged μ cell.group (cell_lengths cell) s.before) (walk_next s.walked sound c found on).1 ∙ ap (λ n. accepted number next (λ k. refused_at k n)) s.count

    pub judging_next : {marks' : List ℕ} → 0 ≡ number → Marked (cell_group cell) (cell_halves cell) marks' (index_in c ∷ s.before) → Judging μ cell file marks' after (place + 1)
    judging_next z m = record {
      before = index_in c ∷ s.before;
      walked = (walk_next s.walked sound c found on).0;
      count = omega (arith, s.count);
      rest = opened ∙ ap (λ n. accepted n next (λ k. refused_at k place)) (sym z);
      marked = m;
    }

    pub judging_refused : (r : Refusal) → number_of r ≡ number → refused_at (number_of r) place ≡ whole
    judging_refused r e = fails r number next (λ k. refused_at k place) e ∙ sym opened

-- ---- records that were all taken

-- the first of them passed its tests, and so do the others
pub taken_first : (μ group : ℕ) (n : J) (before : List J) (c : FileRecord) (cs : List FileRecord) → judged μ group n before (c ∷ cs) ≡ taken → (0 ≡ first (judge_tests μ group n before (index_in c) c.a c.b)) × (judged μ group n (index_in c ∷ before) cs ≡ taken)
unfolding judged
taken_first μ group n before c cs e = by (first (judge_tests μ group n before (index_in c) c.a c.b)) (judged μ group n (index_in c ∷ before) cs) e
  where
    by : (k : ℕ) (next : Judgement) → accepted k next (λ k. refused_at k (length before)) ≡ taken → (0 ≡ k) × (next ≡ taken)
    by zero next e = (refl, e)
    by (suc k) next e = absurd (let z : ◌≡◌ {A = ℕ} 0 1 = cc in omega arith)

-- what is left is to be recorded
pub record Recording (μ : ℕ) (cell : UnitCell) (file whole v : List ℕ) (at : ℕ) : Type 0 where
  pub place : ℕ
  pub before : List J
  pub walked : Walked file at place
  pub passes : judged μ cell.group (cell_lengths cell) before (left file at place) ≡ taken
  pub rest : whole ≡ record_all_on (cell_group cell) (cell_halves cell) μ (left file at place) v

pub recording_start : (μ : ℕ) (cell : UnitCell) (file v : List ℕ) {at : ℕ} → at ≡ count_at file + 4 → judged μ cell.group (cell_lengths cell) [] (records_in file) ≡ taken → Recording μ cell file (record_all_on (cell_group cell) (cell_halves cell) μ (records_in file) v) v at
recording_start μ cell file v e t = let w = walk_start file e in
    record {
      place = 0;
      before = [];
      walked = w.0;
      passes = ap (judged μ cell.group (cell_lengths cell) []) (sym w.1) ∙ t;
      rest = ap (λ cs. record_all_on (cell_group cell) (cell_halves cell) μ cs v) w.1;
    }

module _ {μ : ℕ} {cell : UnitCell} {file whole v : List ℕ} {at : ℕ} (s : Recording μ cell file whole v at) (sound : 0 ≡ first (shape_tests file)) where
  pub recording_end : None ≡ found_at file at → v ≡ whole
  unfolding record_all_on
  recording_end e = sym (s.rest ∙ ap (λ cs. record_all_on (cell_group cell) (cell_halves cell) μ cs v) (walk_end s.walked sound e))

  module _ (c : FileRecord) (found : Some c ≡ found_at file at) {after : ℕ} (on : after ≡ place_after file at) where
    first_passes : (0 ≡ first (judge_tests μ cell.group (cell_lengths cell) s.before (index_in c) c.a c.b)) × (judged μ cell.group (cell_lengths cell) (index_in c ∷ s.before) (left file after (s.place + 1)) ≡ taken)
    first_passes = taken_first μ cell.group (cell_lengths cell) s.before c _ (ap (judged μ cell.group (cell_lengths cell) s.before) (sym (walk_next s.walked sound c found on).1) ∙ s.passes)

    pub recording_passes : 0 ≡ first (judge_tests μ cell.group (cell_lengths cell) s.before (index_in c) c.a c.b)
    recording_passes = first_passes.0

    pub recording_next : {v' : List ℕ} → v' ≡ record_on (cell_group cell) (cell_halves cell) μ (index_in c) (value μ c.a c.b) v → Recording μ cell file whole v' after
    unfolding record_all_on
    recording_next e = record {
      place = s.place + 1;
      before = index_in c ∷ s.before;
      walked = (walk_next s.walked sound c found on).0;
      passes = first_passes.1;
      rest = s.rest ∙ ap (λ cs. record_all_on (cell_group cell) (cell_halves cell) μ cs v) (walk_next s.walked sound c found on).1 ∙ ap (record_all_on (cell_group cell) (cell_halves cell) μ (left file after (s.place + 1))) (sym e);
    }
