-- The folds with the tables of a direction, as the turns of lines and rows: what a batch of folded lines leaves is the turns of its lines.
use mathlib.Core.Path.{◌≡◌, refl, sym, ◌∙◌, ap, subst}
use mathlib.Core.Bool.{Bool, true, false, cond}
use mathlib.Core.List.{List}
use Prim.Native.Nat.{ℕ, zero, suc, ◌+◌, ◌*◌, ◌<◌, ◌≤◌}
use native.Mathlib.Omega.{arith}
use lib.Dec.{ltb}
use lib.ListN.{length}
use borrow.Author.Tests.{ltb-true}
use Rattle.algebra.specs.lines.Kinds.{Kind, Kind.hermitian, slots}
use Rattle.numbers.specs.declared.Pair.{Pair}
use Rattle.numbers.specs.Value.{prime, Value, value_of, pair_of}
use Rattle.slices.specs.Pairs.{at, values_of, Below}
use Rattle.slices.specs.Sweep.{sweep, on_lists, along_last}
use Rattle.slices.proofs.Pairs.{tab_cong}
use Rattle.slices.proofs.Values.{list_cong}
use Rattle.slices.proofs.Bounds.{small_at}
use Rattle.lengths.specs.Lengths.{kind_of}
use Rattle.lengths.specs.Admitted.{Factored}
use Rattle.fold_formulas.specs.FoldFormulas.{Frame, Tangents, folded}
use Rattle.line.specs.Line.{transform}
use Rattle.line.specs.Tables.{TablesOf}
use Rattle.line.proofs.kinds.Transforms.{folded_is_transform}
use Rattle.line.proofs.kinds.Dispatch.{half_positive, half_divides, frame_of, half_list}
use Rattle.cell.specs.Volume.{over_i, times_i}
use Rattle.batches.specs.Reduction.{ShiftedTable}
use Rattle.batches.specs.Groups.{neighbours, LinesBelow}
use Rattle.folded_batches.specs.FoldedGroups.{folded_stored, folded_lines}
use Rattle.cell.specs.Rows.{packed_row, unpacked_row}
use Rattle.folded_batches.specs.Rows.{folded_row, folded_rows}
use Rattle.volume_transform.specs.Axes.{turned_stored, turned_row}
use Rattle.volume_transform.specs.Lines.{SoundLine, TablesFor}
use Rattle.volume_transform.specs.Groups.{SpacedLines, lines_turn, rows_turned}
use Rattle.volume_transform.specs.declared.plan.Line.{Line}

-- an alternating line has half as many pairs as values
pub alternating_count : (x : Line) {lanes : ℕ} {v : List ℕ} → SpacedLines x lanes v → x.kind ≡ 3 → x.count ≡ x.half
unfolding slots
alternating_count x h e = h.counted ∙ ap (λ k. slots (kind_of k) x.half) e

module _ (x : Line) {re im tan : List ℕ} (tables : TablesFor x re im tan) (other : x.kind ≡ 0 → ⊥) (sound : SoundLine x) where
  abbrev m : ℕ
  m = x.m

  -- the fold of a direction is the transform
  by_fold : (d : ℕ) → x.direction ≡ d → (k : Kind) (X : ℕ → Value m) (s : ℕ) → s < slots k x.half → folded m d x.half re im tan k X s ≡ transform m k d x.half X s
  by_fold d e k X s l =
      folded_is_transform m sound.modulus x.half (half_positive x.half sound.size) (half_divides x.half sound.size) d
      (subst (λ d. TablesOf m d re im tan) e (tables.folding other)) k X s l

  -- ---- a line as it is stored

  stored_by : (d : ℕ) → x.direction ≡ d → (k : Kind) (b : Bool) (l : List ℕ) → folded_stored m d b x.half re im tan k l ≡ turned_stored m x.half d b k l
  stored_by zero e k b l = list_cong m (slots k x.half) _ _ (λ s ls. ap (over_i m b) (by_fold 0 e k (values_of m l) s ls))
  stored_by (suc zero) e k b l = list_cong m (slots k x.half) _ _ (λ s ls. by_fold 1 e k (λ s. times_i m b (values_of m l s)) s ls)
  stored_by (suc (suc d)) e k b l = absurd (omega (arith, sound.directed))

  -- what a batch of them asks for
  pub folds_ready : (q : ℕ) {sre sim : List ℕ} → q ≡ m → ShiftedTable q re im sre sim → Frame q x.half re im × Tangents q tan × ShiftedTable q re im sre sim × Factored x.factors x.half
  folds_ready q {sre} {sim} em shifted = (
    subst (λ q. Frame q x.half re im) (sym em) (frame_of x.half sound.size sound.modulus tables.powers),
    subst (λ q. Tangents q tan) (sym em) (tables.folding other).small,
    shifted,
    half_list x.half sound.size sound.list,
  )

  pub lines_ready : (q n lanes : ℕ) (v : List ℕ) → q ≡ m → x.count ≡ n → SpacedLines x lanes v
      → (2 * (x.start + n * x.stride + lanes) ≤ length v + 2 * x.stride) × LinesBelow q x.start x.stride n lanes v
  lines_ready q n lanes v em en h = subst
      (λ n. (2 * (x.start + n * x.stride + lanes) ≤ length v + 2 * x.stride) × LinesBelow q x.start x.stride n lanes v) en
      (h.fits, record { each = λ u j lu lj. small_at (prime q) v _ (subst (λ q. Below (prime q) v) (sym em) h.below) })

  -- as many lines as there are lanes, of the kind said in another way, and of the modulus as the code has it
  pub lines_turned : (q lanes : ℕ) (v : List ℕ) {k : Kind} {b : Bool} {v' : List ℕ} → q ≡ m → kind_of x.kind ≡ k → x.rotated ≡ b → x.count ≡ slots (kind_of x.kind) x.half
      → v' ≡ folded_lines q x.direction b x.half re im tan k x.start x.stride lanes v → v' ≡ lines_turn x lanes v
  lines_turned q lanes v {k} {b} {v'} em ek eb ec h =
      h
      ∙ ap (λ q. folded_lines q x.direction b x.half re im tan k x.start x.stride lanes v) em
      ∙ (λ i. folded_lines m x.direction (sym eb i) x.half re im tan (sym ek i) x.start x.stride lanes v)
      ∙ (λ i. sweep (neighbours x.start x.stride (sym ec i) lanes) (on_lists (neighbours x.start x.stride (sym ec i) lanes) (λ y l. stored_by x.direction refl (kind_of x.kind) x.rotated l i)) lanes v)

  -- ---- a row

  -- pairs that are the same where they are read
  under : (b : Bool) (u w z : Pair) → (b ≡ true → u ≡ w) → cond b u z ≡ cond b w z
  under true u w z h = h refl
  under false u w z h = refl

  unpacked_same : (u w : ℕ → Pair) → ((s : ℕ) → s < x.half → u s ≡ w s) → (t : ℕ) → unpacked_row x.half u t ≡ unpacked_row x.half w t
  unfolding unpacked_row
  unpacked_same u w h zero = ap (λ (q : Pair). record { re = q.re; im = 0 }) (h 0 (half_positive x.half sound.size))
  unpacked_same u w h (suc t) =
      under (ltb (suc t) x.half) _ _ _ (λ l. h (suc t) (ltb-true (suc t) x.half l))
      ∙ ap (λ (q : Pair). cond (ltb (suc t) x.half) (w (suc t)) (record { re = q.im; im = 0 })) (h 0 (half_positive x.half sound.size))

  row_by : (d : ℕ) → x.direction ≡ d → (l : List ℕ) → folded_row m d x.half re im tan l ≡ turned_row m x.half d l
  unfolding slots
  row_by zero e l = tab_cong (suc x.half) _ _ (λ t lt. under (ltb t x.half) _ _ _ (λ b. ap pair_of (by_fold 0 e hermitian (λ s. value_of m (packed_row x.half (at l) s)) t (ltb-true t x.half b))))
  row_by (suc zero) e l = tab_cong (suc x.half) _ _ (λ t lt. unpacked_same _ _ (λ s ls. ap pair_of (by_fold 1 e hermitian (values_of m l) s ls)) t)
  row_by (suc (suc d)) e l = absurd (omega (arith, sound.directed))

  pub rows_turned_lem : (q lanes : ℕ) (d : List ℕ) {d' : List ℕ} → q ≡ m → x.count ≡ x.half + 1 → d' ≡ folded_rows q x.direction x.half re im tan lanes d → d' ≡ rows_turned x lanes d
  rows_turned_lem q lanes d {d'} em ec h =
      h
      ∙ ap (λ q. folded_rows q x.direction x.half re im tan lanes d) em
      ∙ (λ i. sweep (along_last (wide i) lanes) (on_lists (along_last (wide i) lanes) (λ y l. row_by x.direction refl l i)) lanes d)
    where
      wide : suc x.half ≡ x.count
      wide = omega (arith, ec)
