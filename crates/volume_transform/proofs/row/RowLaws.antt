-- A row along k that is lent as a part of the volume: what it is after the numbers of its ends have moved, and what the volume then holds.
use mathlib.Core.Path.{◌≡◌, refl, sym, ◌∙◌, ap, subst}
use mathlib.Core.Logic.{inl, inr}
use mathlib.Core.List.{List, ◌++◌}
use Prim.Native.Nat.{ℕ, zero, suc, ◌+◌, ◌*◌}
use native.Mathlib.Omega.{arith}
use lib.ListN.{length, take, drop, get_or, set, length-append, length-drop, length-set}
use Rattle.algebra.specs.lines.Kinds.{Kind.hermitian, slots}
use Rattle.numbers.specs.Value.{prime, IsModulus}
use Rattle.numbers.specs.Bounds.{Small}
use Rattle.numbers.proofs.Primes.{prime_pos}
use Rattle.slices.specs.Pairs.{at, puts, Below}
use Rattle.slices.specs.Segments.{segment, set_segment, WholePairs}
use Rattle.slices.proofs.Pairs.{length_puts, length_tab}
use Rattle.slices.proofs.Segments.{length_pairs, set_segment_puts, segment_tab}
use Rattle.slices.proofs.Bounds.{below_set, below_take, below_tab}
use Rattle.lengths.specs.Lengths.{kind_of}
use Rattle.line.proofs.kinds.Dispatch.{prefix_length}
use Rattle.lengths.specs.Admitted.{AdmittedLength}
use Rattle.volume_transform.specs.Axes.{turned_line, turned_row}
use Rattle.volume_transform.specs.Lines.{opened, closed, SoundLine, Spaced, Beside, Placed, LineBelow, turned_packed, row_turn}
use Rattle.volume_transform.specs.declared.plan.Line.{Line}
use Rattle.volume_transform.proofs.row.TurnLaws.{length_turned, row_forward, row_inverse}

-- ---- the ends of a row

pub length_opened : (direction n : ℕ) (l : List ℕ) → length (opened direction n l) ≡ length l
length_opened zero n l = simp length-set
length_opened (suc d) n l = refl

pub below_opened : {p : ℕ} (direction n : ℕ) (l : List ℕ) → Below p l → Below p (opened direction n l)
below_opened zero n l h = below_set 1 (get_or l n 0) h (h.each n)
below_opened (suc d) n l h = h

-- by the direction that the code has tested
pub not_opened : (direction n : ℕ) (l : List ℕ) → (direction ≡ 0 → ⊥) → l ≡ opened direction n l
not_opened zero n l e = absurd (e refl)
not_opened (suc d) n l e = refl

pub otherwise_closed : (direction n : ℕ) (l : List ℕ) → (direction ≡ 0 → ⊥) → set (set (set l n (get_or l 1 0)) (n + 1) 0) 1 0 ≡ closed direction n l
otherwise_closed zero n l e = absurd (e refl)
otherwise_closed (suc d) n l e = refl

whole_row : (m : ℕ) → IsModulus m → (b : ℕ) → AdmittedLength (2 * b) → (direction : ℕ) (l r : List ℕ) → length l ≡ 2 * (b + 1) → r ≡ turned_line m b direction hermitian (take (2 * b) (opened direction (2 * b) l))
    → closed direction (2 * b) (r ++ drop (2 * b) (opened direction (2 * b) l)) ≡ turned_row m b direction l
whole_row m is b size zero l r long turned = row_forward m is b size l r long turned
whole_row m is b size (suc d) l r long turned = row_inverse m is b size l r long turned

-- a row l that became l₁ when it was opened, whose packed line then became r
module _ (x : Line) (h : x.kind ≡ 1) where
  abbrev size : ℕ
  size = 2 * x.half

  pub opened_packed : (l l₁ : List ℕ) → length l ≡ 2 * (x.half + 1) → Below (prime x.m) l → l₁ ≡ opened x.direction size l → (length (take size l₁) ≡ 2 * slots (kind_of x.kind) x.half) × Below (prime x.m) (take size l₁)
  unfolding slots
  opened_packed l l₁ long small e = (
    prefix_length size l₁ (omega (arith, ap length e ∙ length_opened x.direction size l, long)) ∙ ap (λ k. 2 * slots (kind_of k) x.half) (sym h),
    below_take size (subst (Below (prime x.m)) (sym e) (below_opened x.direction size l small)),
  )

  module _ (l l₁ r : List ℕ) (long : length l ≡ 2 * (x.half + 1)) (e : l₁ ≡ opened x.direction size l) (turned : r ≡ turned_packed x (take size l₁)) where
    packed : r ≡ turned_line x.m x.half x.direction hermitian (take size (opened x.direction size l))
    packed = turned ∙ ap (λ k. turned_line x.m x.half x.direction (kind_of k) (take size l₁)) h ∙ ap (λ q. turned_line x.m x.half x.direction hermitian (take size q)) e

    pub row_returned : length (r ++ drop size l₁) ≡ size + 2
    unfolding slots
    row_returned = simp (length-append, length-drop) (omega (arith, ap length packed ∙ length_turned x.m x.half x.direction hermitian _, ap length e ∙ length_opened x.direction size l, long))

  pub row_whole : SoundLine x → (l l₁ r l₂ : List ℕ) → length l ≡ 2 * (x.half + 1) → l₁ ≡ opened x.direction size l → r ≡ turned_packed x (take size l₁) → l₂ ≡ closed x.direction size (r ++ drop size l₁) → l₂ ≡ turned_row x.m x.half x.direction l
  row_whole ok l l₁ r l₂ long e turned closing =
      closing ∙ ap (λ q. closed x.direction size (r ++ drop size q)) e
      ∙ whole_row x.m ok.modulus x.half ok.size x.direction l r long (packed l l₁ r long e turned)

-- ---- the row in the volume

module _ (x : Line) (v : List ℕ) (h : Beside (length v) x) where
  pub row_pairs : WholePairs x.start x.count (2 * x.start) (2 * x.start + 2 * x.count) v
  row_pairs = record { start = refl; end = omega arith; inside = h.fits }

  pub row_long : length (segment (2 * x.start) (2 * x.start + 2 * x.count) v) ≡ 2 * (x.half + 1)
  row_long = length_pairs row_pairs ∙ ap (λ n. 2 * n) h.counted

  pub row_below : LineBelow x v → Below (prime x.m) (segment (2 * x.start) (2 * x.start + 2 * x.count) v)
  row_below small = subst (Below (prime x.m)) (sym (segment_tab row_pairs)) (below_tab (prime x.m) x.count _ (prime_pos x.m)
      (λ j l. subst (λ (q : ℕ). Small (prime x.m) (at v q)) (ap (λ s. x.start + j * s) h.next ∙ neighbour j) (small.each j l)))
    where
      neighbour : (j : ℕ) → x.start + j * 1 ≡ x.start + j
      neighbour j = omega arith

  length_row : (direction : ℕ) (l : List ℕ) → length (turned_row x.m x.half direction l) ≡ 2 * x.count
  length_row zero l = length_tab _ (suc x.half) ∙ omega (arith, h.counted)
  length_row (suc d) l = length_tab _ (suc x.half) ∙ omega (arith, h.counted)

  pub row_placed : (r : List ℕ) → r ≡ turned_row x.m x.half x.direction (segment (2 * x.start) (2 * x.start + 2 * x.count) v) → set_segment (2 * x.start) (2 * x.start + 2 * x.count) v r ≡ row_turn x v
  row_placed r e =
      set_segment_puts row_pairs r (ap length e ∙ length_row x.direction _)
      ∙ ap (λ l. puts (λ j. x.start + j) (at l) x.count v) (e ∙ ap (turned_row x.m x.half x.direction) (segment_tab row_pairs))

  pub part_same : (r : List ℕ) → r ≡ turned_row x.m x.half x.direction (segment (2 * x.start) (2 * x.start + 2 * x.count) v) → length (set_segment (2 * x.start) (2 * x.start + 2 * x.count) v r) ≡ length v
  part_same r e = ap length (row_placed r e) ∙ length_puts (λ j. x.start + j) _ x.count v

-- ---- a line of any kind

module _ {len : ℕ} (x : Line) where
  pub beside : Placed len x → x.kind ≡ 1 → Beside len x
  beside (inl s) e = absurd (s.0 e)
  beside (inr b) e = b

  pub spaced : Placed len x → (x.kind ≡ 1 → ⊥) → Spaced len x
  spaced (inl s) n = s.1
  spaced (inr b) n = absurd (n b.hermitian)
