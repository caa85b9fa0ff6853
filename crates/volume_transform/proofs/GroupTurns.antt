-- The turn of a group: what the batch leaves is the turns of its lines, one after the other.
use mathlib.Core.Path.{◌≡◌, refl, sym, ◌∙◌, ap, subst}
use mathlib.Core.Logic.{◌⊎◌, inl, inr, ⊎_elim}
use mathlib.Core.Bool.{false, cond}
use mathlib.Core.List.{List, ◌++◌}
use Prim.Native.Nat.{ℕ, ◌+◌, ◌*◌, ◌-◌, ◌/◌, ◌<◌, ◌≤◌}
use native.Mathlib.Omega.{arith}
use borrow.Author.Tests.{eq-eqb, ne_eqb}
use lib.ListN.{length, drop}
use lib.Seq.{drop-drop, drop_at}
use Rattle.algebra.specs.ring.Ring.{pow, dft}
use Rattle.algebra.specs.lines.Kinds.{slots}
use Rattle.algebra.proofs.ring.Laws.{along}
use Rattle.numbers.specs.Value.{prime, Value, Residue, ring, field, real, part}
use Rattle.numbers.specs.Bounds.{res}
use Rattle.numbers.proofs.Residues.{res_by, res_ring}
use Rattle.numbers.proofs.Values.{real_times}
use Rattle.slices.specs.Pairs.{values_of, list_of, Below}
use Rattle.slices.specs.Sweep.{sweep, on_lists}
use Rattle.slices.proofs.Bounds.{small_at}
use Rattle.slices.proofs.Pairs.{lt_or_ge}
use Rattle.slices.proofs.Values.{list_cong}
use Rattle.lengths.specs.Lengths.{kind_of}
use Rattle.roots.specs.Table.{table_root}
use Rattle.line.specs.Line.{transformed}
use Rattle.line.proofs.kinds.Dispatch.{plain_by, plain_back_by}
use Rattle.batches.specs.Reduction.{Holds}
use Rattle.batches.specs.Groups.{neighbours, scaled_transform, turned_lines}
use Rattle.volume_transform.specs.Lines.{SoundLine, stored_turn, shifted, Kept, TablesFor}
use Rattle.volume_transform.specs.Axes.{turned_row}
use Rattle.volume_transform.specs.Plans.{Fitting, plan_turn}
use Rattle.volume_transform.specs.Groups.{GatheredGroup, RowGroup, SpacedLines, RowLines, PlacedGroup, PlainLines, rows_from, lines_turn, rows_turn, group_turned, scale_for}
use Rattle.volume_transform.specs.Turns.{turns}
use Rattle.volume_transform.specs.declared.plan.Plan.{Plan}
use Rattle.volume_transform.specs.declared.plan.Line.{Line}
use Rattle.volume_transform.proofs.row.TurnLaws.{turned_packed, stored_plain}
use Rattle.volume_transform.proofs.sums.Turns.{turns_sweep}

-- ---- the last factor

module _ {m : ℕ} where
  pub shift_over : (n : ℕ) {c r k : ℕ} → c ≡ (res m 4294967296).val → r ≡ (part m n).val → k ≡ ((ring m).mul (res m c) (res m r)).val → Holds m k (part m n)
  shift_over n {c} {r} ec er ek = record {
    is =
        res_by m ((ring m).mul (res m c) (res m r)) ek ∙ (λ i. (ring m).mul (res_by m (res m 4294967296) ec i) (res_by m (part m n) er i));
  }

  pub scale_as : (n : ℕ) {d direction c : ℕ} → direction ≡ d → Holds m c (scale_for m d n) → Holds m c (scale_for m direction n)
  scale_as n {c = c} e h = subst (λ d. Holds m c (scale_for m d n)) (sym e) h

-- ---- a plain line by the transform of a batch

one_times : (m : ℕ) (z : Value m) → (field m).mul (real m (ring m).one) z ≡ z
one_times m z = real_times m (ring m).one z ∙ λ i. ((res_ring m).one_mul z.0 i, (res_ring m).one_mul z.1 i)

module _ (x : Line) {re im tan : List ℕ} (tables : TablesFor x re im tan) (sound : SoundLine x) (plain : x.kind ≡ 0) (unrotated : x.rotated ≡ false) (counted : x.count ≡ 2 * x.half) where
  abbrev m : ℕ
  m = x.m

  abbrev transform_of : List ℕ → ℕ → ℕ → Value m
  transform_of l n = dft (field m) n (pow (field m) (table_root m re im) (2880 / n)) (values_of m l)

  forth : x.direction ≡ 0 → (l : List ℕ) → scaled_transform m (table_root m re im) (scale_for m x.direction x.count) x.count l ≡ transformed m x.kind x.direction (2 * x.half) l
  forth e l = plain_by x.half sound.size m sound.modulus x.kind l tables plain e
      (ap (λ d. scaled_transform m (table_root m re im) (scale_for m d x.count) x.count l) e
      ∙ list_cong m x.count _ (transform_of l x.count) (λ t lt. one_times m (transform_of l x.count t))
      ∙ ap (λ n. list_of n (transform_of l n)) counted)

  back : x.direction ≡ 1 → (l : List ℕ) → scaled_transform m (table_root m re im) (scale_for m x.direction x.count) x.count l ≡ transformed m x.kind x.direction (2 * x.half) l
  back e l = plain_back_by x.half sound.size m sound.modulus x.kind l tables plain e
      (ap (λ d. scaled_transform m (table_root m re im) (scale_for m d x.count) x.count l) e
      ∙ ap (λ n. list_of n (λ t. (field m).mul (real m (part m n)) (transform_of l n t))) counted)

  -- it is what a line's turn makes of it
  pub batch_turn : (l : List ℕ) → scaled_transform m (table_root m re im) (scale_for m x.direction x.count) x.count l ≡ stored_turn x l
  unfolding slots
  batch_turn l = stored_plain m x.half (kind_of x.kind) {count = x.count} (counted ∙ ap (λ k. slots (kind_of k) x.half) (sym plain)) x.direction unrotated l
      (⊎_elim
      (λ (lt : x.direction < 1). forth (omega arith) l)
      (λ (ge : 1 ≤ x.direction). back (omega (arith, sound.directed)) l)
      (lt_or_ge x.direction 1)
      ∙ turned_packed m x.half x.kind x.direction l)

  pub group_turned_lem : (lanes : ℕ) (v : List ℕ) {v' : List ℕ} (k : ℕ) {c : ℕ} → k ≡ m → ((z : Residue k) → Holds k c z → v' ≡ turned_lines k (table_root k re im) z x.start x.stride x.count lanes v)
      → Holds k c (scale_for k x.direction x.count) → v' ≡ lines_turn x lanes v
  group_turned_lem lanes v {v'} k {c} e = subst
      (λ k. ((z : Residue k) → Holds k c z → v' ≡ turned_lines k (table_root k re im) z x.start x.stride x.count lanes v) → Holds k c (scale_for k x.direction x.count) → v' ≡ lines_turn x lanes v)
      (sym e)
      (λ left held. left (scale_for m x.direction x.count) held ∙ λ i.
      sweep (neighbours x.start x.stride x.count lanes) (on_lists (neighbours x.start x.stride x.count lanes) (λ y l. batch_turn l i)) lanes v)

-- ---- the turns of a group

module _ (x : Line) (lanes : ℕ) (v : List ℕ) where
  pub rows_are : x.kind ≡ 1 → rows_turn x lanes v ≡ group_turned x lanes v
  rows_are e = ap (λ b. cond b (rows_turn x lanes v) (lines_turn x lanes v)) (sym (eq-eqb _ _ e))

  pub lines_are : (x.kind ≡ 1 → ⊥) → lines_turn x lanes v ≡ group_turned x lanes v
  lines_are n = ap (λ b. cond b (rows_turn x lanes v) (lines_turn x lanes v)) (sym (ne_eqb _ _ n))

-- the numbers of a volume, and the line itself of one further on
below : (p : Plan) (x : Line) {v : List ℕ} → Fitting p v → x.m ≡ p.m → Below (prime x.m) v
below p x {v} f e = subst (λ m. Below (prime m) v) (sym e) f.small

sound_as : (x : Line) (k : ℕ) → SoundLine (shifted x k) → SoundLine x
sound_as x k s = record { modulus = s.modulus; directed = s.directed; known = s.known; size = s.size; list = s.list }

-- where its lines lie, and that they can be transformed
module _ (p : Plan) {n lanes : ℕ} (x : Line) (some : 0 < lanes) {v : List ℕ} (f : Fitting p v) (few : lanes ≤ 16) where
  gathered_ready : GatheredGroup p n x lanes → (x.kind ≡ 1 → ⊥) × SpacedLines x lanes v
  gathered_ready h =
      let first = h.each 0 some in
      let last : lanes - 1 < lanes = omega arith in (
        first.other,
        record {
          sound = sound_as x _ first.placed.sound;
          room = h.room;
          counted = first.placed.counted;
          low = first.placed.low;
          few = few;
          wide = h.wide;
          fits = omega (arith, (h.each (lanes - 1) last).placed.fits, f.long);
          below = below p x f first.modulus;
        },
      )

  row_ready : RowGroup p n x lanes → RowLines x lanes v
  row_ready h =
      let first = h.each 0 some in
      let last : lanes - 1 < lanes = omega arith in
      let end = (h.each (lanes - 1) last).placed in record {
        sound = sound_as x _ first.placed.sound;
        room = h.room;
        hermitian = first.placed.hermitian;
        counted = first.placed.counted;
        few = few;
        fits = last_row x.start x.count (length v) some end.fits f.long;
        low = last_row x.start x.count 23904460800 some end.low refl;
        below = below p x f first.modulus;
      }
    where
      last_row : (s c most : ℕ) {len : ℕ} → 0 < lanes → 2 * (s + (lanes - 1) * c) + 2 * c ≤ len → most ≡ len → 2 * s + 2 * (lanes * c) ≤ most
      last_row s c most pos h e = omega (arith, h, e, one_more c)
        where
          one_more : (c : ℕ) → lanes * c ≡ (lanes - 1) * c + c
          one_more c = along (λ k. k * c) lanes (lanes - 1 + 1) (omega arith) ∙ omega arith

  pub group_ready : GatheredGroup p n x lanes ⊎ RowGroup p n x lanes → PlacedGroup x lanes v
  group_ready (inl h) = inl (gathered_ready h)
  group_ready (inr h) = inr (row_ready h)

  pub group_turns : GatheredGroup p n x lanes ⊎ RowGroup p n x lanes → group_turned x lanes v ≡ turns (plan_turn p) n lanes v
  group_turns (inl h) =
      sym (lines_are x lanes v (h.each 0 some).other)
      ∙ sym (turns_sweep (plan_turn p) (neighbours x.start x.stride x.count lanes) (λ y. stored_turn x) n lanes v (λ y l d. sym ((h.each y l).turn d)))
  group_turns (inr h) =
      sym (rows_are x lanes v (h.each 0 some).placed.hermitian)
      ∙ sym (turns_sweep (plan_turn p) (rows_from x.start x.count lanes) (λ y. turned_row x.m x.half x.direction) n lanes v (λ y l d. sym ((h.each y l).turn d)))

-- as the code tells them apart
module _ (x : Line) {lanes : ℕ} {v : List ℕ} where
  pub rows_of : PlacedGroup x lanes v → x.kind ≡ 1 → RowLines x lanes v
  rows_of (inl s) e = absurd (s.0 e)
  rows_of (inr r) e = r

  pub lines_of_lem : PlacedGroup x lanes v → (x.kind ≡ 1 → ⊥) → SpacedLines x lanes v
  lines_of_lem (inl s) n = s.1
  lines_of_lem (inr r) n = absurd (n r.hermitian)

pub beyond_two : (kind : ℕ) → (kind ≡ 0 → ⊥) → (kind ≡ 1 → ⊥) → (kind ≡ 2 → ⊥) → 2 < kind
beyond_two kind a b c = omega arith

-- plain lines have a pair for each value, and in a volume of residues their numbers are residues
pub plain_lines_of : (x : Line) {lanes : ℕ} {v : List ℕ} → SpacedLines x lanes v → x.kind ≡ 0 → PlainLines x lanes v
unfolding slots
plain_lines_of x {lanes} {v} h e = record {
  sound = h.sound;
  plain = e;
  unrotated = h.room.unrotated (λ k. omega (arith, k, e));
  counted = h.counted ∙ ap (λ k. slots (kind_of k) x.half) e;
  short = h.room.short e;
  few = h.few;
  wide = h.wide;
  fits = h.fits;
  below = record { each = λ u j lu lj. small_at _ v _ h.below };
}

-- ---- the scratch beyond its first 11,520 numbers

pub lent_kept : (s r : List ℕ) {size : ℕ} → size ≤ 11520 → length r ≡ size → Kept s (r ++ drop size s)
lent_kept s r {size} low long =
    along (λ n. drop n (r ++ drop size s)) 11520 (size + (11520 - size)) (omega arith)
    ∙ sym (drop-drop (11520 - size) size (r ++ drop size s))
    ∙ ap (drop (11520 - size)) (drop_at r (drop size s) size long)
    ∙ drop-drop (11520 - size) size s
    ∙ along (λ n. drop n s) (size + (11520 - size)) 11520 (omega arith)
