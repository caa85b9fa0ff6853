-- A line in a call of its own: what was tested are the line's numbers, and what is left is its turn, or what was there.
use mathlib.Core.Path.{◌≡◌, refl, sym, ◌∙◌, ap, ap₂, subst}
use mathlib.Core.Logic.{inl, inr}
use mathlib.Core.Bool.{Bool, true, false, not, cond}
use mathlib.Core.List.{List, ◌++◌}
use Prim.Native.Nat.{ℕ, ◌+◌, ◌*◌, ◌≤◌}
use native.Mathlib.Omega.{arith}
use lib.ListN.{length, take, drop, replicate, length-append, length-drop}
use borrow.Author.Tests.{not-true, not-false}
use Rattle.numbers.specs.Value.{prime, IsModulus}
use Rattle.numbers.proofs.Primes.{prime_pos}
use Rattle.slices.specs.Pairs.{at, fills, Below, all_below}
use Rattle.slices.specs.Segments.{segment}
use Rattle.slices.proofs.Pairs.{tab_cong}
use Rattle.slices.proofs.Segments.{segment_tab, take_fills}
use Rattle.slices.proofs.Bounds.{below_all_below}
use Rattle.lengths.specs.Lengths.{kind_of, scratch_length, cleared}
use Rattle.lengths.proofs.Counts.{slots_le}
use Rattle.line.specs.Tables.{LineTables}
use Rattle.line.proofs.Whole.{rest_of}
use Rattle.line.proofs.kinds.Dispatch.{prefix_length, half_positive}
use Rattle.volume_transform.specs.Lines.{SoundLine, Beside, Spaced, Placed, TablesFor, OwnTurn, numbers_in}
use Rattle.volume_transform.specs.declared.plan.Line.{Line}
use Rattle.volume_transform.proofs.row.RowLaws.{row_pairs}

-- the numbers of a row are the part of the volume that is lent
pub row_numbers : (x : Line) (v : List ℕ) → Beside (length v) x → segment (2 * x.start) (2 * x.start + 2 * x.count) v ≡ numbers_in x v
row_numbers x v b = segment_tab (row_pairs x v b) ∙ tab_cong x.count _ _ (λ j l. ap (at v) (sym (ap (λ s. x.start + j * s) b.next ∙ neighbour j)))
  where
    neighbour : (j : ℕ) → x.start + j * 1 ≡ x.start + j
    neighbour j = omega arith

-- those of a line that stands apart are what was gathered
pub gathered_numbers : {len : ℕ} (x : Line) (v l l₀ : List ℕ) → Spaced len x → 2 * x.count ≤ length l₀ → l ≡ fills (λ j. at v (x.start + j * x.stride)) x.count l₀ → take (2 * x.count) l ≡ numbers_in x v
gathered_numbers x v l l₀ s fits e = ap (take (2 * x.count)) e ∙ take_fills _ x.count l₀ fits

-- a line has its place in a volume either way, and can be transformed
pub placed_sound : {len : ℕ} (x : Line) → Placed len x → SoundLine x
placed_sound x (inl s) = s.1.sound
placed_sound x (inr b) = b.sound

-- slices that are long enough for all kinds of line of the length
pub packed_fits : {len n : ℕ} (x : Line) → Spaced len x → 4 * x.half ≤ n → 2 * x.count ≤ n
packed_fits x s h = omega (arith, s.counted, slots_le (kind_of x.kind) x.half (omega (arith, half_positive x.half s.sound.size)))

pub fold_room : (x : Line) → SoundLine x → (s : List ℕ) → scratch_length ≤ length s → 2 * x.half ≤ length (take 5760 s)
fold_room x h s l = omega (arith, prefix_length 5760 s (omega arith), h.size.short)

-- the scratch whose first part was lent as the fold
pub returned_long : (s fold : List ℕ) → scratch_length ≤ length s → length fold ≡ length (take 5760 s) → scratch_length ≤ length (fold ++ drop 5760 s)
returned_long s fold h e = simp (length-append, length-drop) (omega (arith, e, prefix_length 5760 s (omega arith)))

-- a list whose first part was lent keeps its length
pub part_back : (r l : List ℕ) (n : ℕ) → n ≤ length l → length r ≡ length (take n l) → length (r ++ drop n l) ≡ length l
part_back r l n h e = simp (length-append, length-drop) (omega (arith, e, prefix_length n l h))

module _ (x : Line) (v : List ℕ) {m : ℕ} (em : m ≡ x.m) where
  pub modulus_of : IsModulus x.m → IsModulus m
  modulus_of is = subst IsModulus (sym em) is

  pub tables_for : {re im tan : List ℕ} → x.direction ≡ 0 → LineTables m x.kind 0 re im tan → TablesFor x re im tan
  tables_for {re} {im} {tan} e t = subst (λ d. LineTables x.m x.kind d re im tan) (sym e) (subst (λ m. LineTables m x.kind 0 re im tan) em t)

  module _ {r : Bool} {q : ℕ} {l : List ℕ} (n : l ≡ numbers_in x v) (eq : q ≡ prime m) (e : r ≡ all_below q l) where
    told : r ≡ all_below (prime x.m) (numbers_in x v)
    told = e ∙ ap₂ all_below (eq ∙ ap prime em) n

    pub own_below : r ≡ true → Below (prime x.m) l
    own_below f = subst (Below (prime x.m)) (sym n) (below_all_below (prime x.m) (numbers_in x v) (prime_pos x.m) (sym told ∙ f))

    pub own_refused : {turned : List ℕ → List ℕ} {s : List ℕ} → r ≡ false → OwnTurn turned x false v v s s
    own_refused t = record { tested = sym t ∙ told; volume = refl; lent = refl }

    -- the fold was the scratch's first part, and the scratch was cleared
    pub own_done : {turned : List ℕ → List ℕ} {v' s' : List ℕ} (s fold : List ℕ) → r ≡ true → v' ≡ turned v → scratch_length ≤ length s → length fold ≡ length (take 5760 s) → s' ≡ replicate scratch_length 0 ++ drop scratch_length (fold ++ drop 5760 s) → OwnTurn turned x true v v' s s'
    unfolding cleared
    own_done s fold f ev long ef es = record {
      tested = sym f ∙ told;
      volume = ev;
      lent = es ∙ ap (λ (t : List ℕ). replicate scratch_length 0 ++ t) (rest_of fold s long ef);
    }

-- the same turn, said in another way
pub own_as : {step turned : List ℕ → List ℕ} {x : Line} {r : Bool} {v v' s s' : List ℕ} → step v ≡ turned v → OwnTurn step x r v v' s s' → OwnTurn turned x r v v' s s'
own_as {step} {turned} {x} {r} {v} {v'} e o = record { tested = o.tested; volume = changed r o.volume; lent = o.lent }
  where
    changed : (r : Bool) → v' ≡ cond r (step v) v → v' ≡ cond r (turned v) v
    changed true h = h ∙ e
    changed false h = h
