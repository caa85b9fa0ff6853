-- What the code of a turn leaves is the turn: a line that was gathered, transformed in the scratch and scattered, and a row that was lent as a part of the volume.
use mathlib.Core.Path.{◌≡◌, refl, sym, ◌∙◌, ap, subst}
use mathlib.Core.Logic.{⊎_elim}
use mathlib.Core.Bool.{Bool, true, false, cond}
use mathlib.Core.List.{List, ◌++◌}
use Prim.Native.Nat.{ℕ, zero, suc, ◌+◌, ◌*◌, ◌-◌, ◌/◌, ◌<◌, ◌≤◌}
use native.Mathlib.Omega.{arith}
use lib.ListN.{length, take, drop, get_or, set, length-append, length-drop, length-set}
use lib.Dec.{ltb}
use lib.Seq.{drop-drop, drop_at, get_or-set_same, get_or-set_other}
use borrow.Author.Tests.{lt-ltb, le-ltb}
use Rattle.algebra.specs.lines.Kinds.{Kind, Kind.hermitian, slots, forward, inverse}
use Rattle.algebra.proofs.ring.Laws.{along}
use Rattle.numbers.specs.declared.Pair.{Pair}
use Rattle.numbers.specs.Value.{prime, IsModulus, field, conj, i, half, real, value_of, pair_of}
use Rattle.numbers.specs.Bounds.{Small, zero_pair}
use Rattle.numbers.proofs.Primes.{prime_pos}
use Rattle.numbers.proofs.Values.{field_ring, field_star, pair_path}
use Rattle.slices.specs.Pairs.{values_of, list_of, at, tab, put, puts, fills, Below}
use Rattle.algebra.specs.fourier.Axis.{AxisLaws}
use Rattle.slices.proofs.Pairs.{lt_or_ge, puts_ext, is_tab, at_tab, length_put, at_put_same, at_put_other}
use Rattle.slices.proofs.Segments.{at_take, at_append_left, take_fills, drop_fills}
use Rattle.slices.proofs.Values.{length_list, below_list, list_cong, values_list}
use Rattle.slices.proofs.Bounds.{below_tab}
use Rattle.lengths.specs.Lengths.{kind_of, pair_count}
use Rattle.line.specs.Line.{transformed}
use Rattle.lengths.specs.Admitted.{AdmittedLength}
use Rattle.line.proofs.kinds.Transforms.{half_length}
use Rattle.line.proofs.kinds.Dispatch.{half_positive, half_divides}
use Rattle.line.proofs.kinds.Axes.{own, axis_own}
use Rattle.line.proofs.kinds.Reading.{forward_cong, back_cong}
use Rattle.cell.proofs.LineReading.{by_half}
use Rattle.cell.specs.Volume.{axis}
use Rattle.cell.specs.Rows.{packed_row, unpacked_row}
use Rattle.volume_transform.specs.Axes.{turned_line, turned_stored, forward_values, inverse_values, forward_row, inverse_row}
use Rattle.volume_transform.specs.Lines.{Kept, SoundLine, Lent, Room}
use Rattle.volume_transform.specs.declared.plan.Line.{Line}

-- what a volume's lines are lent is long enough for each of them
pub room : (x : Line) {s fold work : List ℕ} → SoundLine x → Lent s fold work → Room x fold work
room x h l = (omega (arith, h.size.short, l.fold_fits), omega (arith, h.size.short, l.work_fits))

-- ---- a packed line

pub length_turned : (m a direction : ℕ) (k : Kind) (l : List ℕ) → length (turned_line m a direction k l) ≡ 2 * slots k a
length_turned m a zero k l = length_list m _ _
length_turned m a (suc d) k l = length_list m _ _

pub below_turned : (m a direction : ℕ) (k : Kind) (l : List ℕ) → Below (prime m) (turned_line m a direction k l)
below_turned m a zero k l = below_list m _ _
below_turned m a (suc d) k l = below_list m _ _

length_stored : (m a direction : ℕ) (b : Bool) (k : Kind) (l : List ℕ) → length (turned_stored m a direction b k l) ≡ 2 * slots k a
length_stored m a zero b k l = length_list m _ _
length_stored m a (suc d) b k l = length_list m _ _

-- what the line crate calls the transform
pub turned_packed : (m a kind direction : ℕ) (l : List ℕ) → transformed m kind direction (2 * a) l ≡ turned_line m a direction (kind_of kind) l
unfolding transformed
turned_packed m a kind direction l = along (λ c. turned_line m c direction (kind_of kind) l) (2 * a / 2) a (half_length a)

pub line_length : (a kind : ℕ) {n : ℕ} → n ≡ 2 * slots (kind_of kind) a → n ≡ 2 * pair_count kind (2 * a)
line_length a kind h = h ∙ along (λ c. 2 * slots (kind_of kind) c) a (2 * a / 2) (sym (half_length a))

-- ---- gathered, transformed, scattered

module _ (m a direction : ℕ) (b : Bool) (k : Kind) (count : ℕ) (p : ℕ → ℕ) (v s₀ s₁ : List ℕ) (counted : count ≡ slots k a) (low : count ≤ 2880) (fits : 2 * count ≤ length s₀) (gathered : s₁ ≡ fills (λ j. at v (p j)) count s₀) where
  lent : take (2 * count) s₁ ≡ tab count (λ j. at v (p j))
  lent = ap (take (2 * count)) gathered ∙ take_fills (λ j. at v (p j)) count s₀ (omega arith)

  pub returned_fits : (r t : List ℕ) → r ≡ turned_stored m a direction b k (take (2 * count) s₁) → 2 * count ≤ length (r ++ t)
  returned_fits r t e = omega (arith, length-append r t, ap length e ∙ length_stored m a direction b k _, counted)

  pub below_lent : ((j : ℕ) → j < count → Small (prime m) (at v (p j))) → Below (prime m) (take (2 * count) s₁)
  below_lent h = subst (Below (prime m)) (sym lent) (below_tab (prime m) count _ (prime_pos m) h)

  module _ (r s₂ v' : List ℕ) (turned : r ≡ turned_stored m a direction b k (take (2 * count) s₁)) (returned : s₂ ≡ r ++ drop (2 * count) s₁) (scattered : v' ≡ puts p (at s₂) count v) where
    long : length r ≡ 2 * count
    long = ap length turned ∙ length_stored m a direction b k _ ∙ ap (λ n. 2 * n) (sym counted)

    pub turned_line_lem : v' ≡ puts p (at (turned_stored m a direction b k (tab count (λ j. at v (p j))))) count v
    turned_line_lem =
        scattered
        ∙ puts_ext p (at s₂) (at r) count v (λ j l. ap (λ s. at s j) returned ∙ at_append_left r (drop (2 * count) s₁) j (omega (arith, long)))
        ∙ ap (λ s. puts p (at s) count v) (turned ∙ ap (turned_stored m a direction b k) lent)

    pub kept : Kept s₀ s₂
    kept =
        ap (drop 11520) (returned ∙ ap (λ t. r ++ t) (ap (drop (2 * count)) gathered ∙ drop_fills (λ j. at v (p j)) count s₀ (omega arith)))
        ∙ along (λ n. drop n (r ++ drop (2 * count) s₀)) 11520 (2 * count + (11520 - 2 * count)) (omega arith)
        ∙ sym (drop-drop (11520 - 2 * count) (2 * count) (r ++ drop (2 * count) s₀))
        ∙ ap (drop (11520 - 2 * count)) (drop_at r (drop (2 * count) s₀) (2 * count) long)
        ∙ drop-drop (11520 - 2 * count) (2 * count) s₀
        ∙ along (λ n. drop n s₀) (2 * count + (11520 - 2 * count)) 11520 (omega arith)

-- the laws of an axis of an admitted length
module _ (m : ℕ) (is : IsModulus m) (b : ℕ) (size : AdmittedLength (2 * b)) where
  laws : AxisLaws (field m) (conj m) (i m) (real m (half m)) (axis m b) (own m is b (half_positive b size) (half_divides b size))
  laws = axis_own m is b (half_positive b size) (half_divides b size)

-- ---- a line that is stored times i

module _ (m a : ℕ) (k : Kind) {count : ℕ} (counted : count ≡ slots k a) {b : Bool} where
  pub stored_plain : (direction : ℕ) → b ≡ false → (l : List ℕ) {r : List ℕ} → r ≡ turned_line m a direction k l → r ≡ turned_stored m a direction b k l
  stored_plain zero e l f = f ∙ ap (λ b. turned_stored m a 0 b k l) (sym e)
  stored_plain (suc d) e l f = f ∙ ap (λ b. turned_stored m a 1 b k l) (sym e)

  -- synthesis: the transform, then over i
  pub stored_forward : (direction : ℕ) → direction ≡ 0 → b ≡ true → (l : List ℕ) {r q : List ℕ} → r ≡ turned_line m a direction k l → q ≡ list_of count (λ t. (field m).mul ((field m).neg (i m)) (values_of m r t)) → q ≡ turned_stored m a direction b k l
  stored_forward direction z e l {r} {q} f g =
      g ∙ ap (λ n. list_of n (λ t. (field m).mul ((field m).neg (i m)) (values_of m r t))) counted
      ∙ list_cong m (slots k a) _ _ (λ t lt. ap ((field m).mul ((field m).neg (i m))) (ap (λ x. values_of m x t) (f ∙ ap (λ d. turned_line m a d k l) z) ∙ values_list m (slots k a) _ t lt))
      ∙ ap (λ b. turned_stored m a 0 b k l) (sym e) ∙ ap (λ d. turned_stored m a d b k l) (sym z)

  -- analysis: times i, then the transform
  pub stored_back : IsModulus m → AdmittedLength (2 * a) → (direction : ℕ) → direction ≡ 1 → b ≡ true → (l : List ℕ) {r q : List ℕ} → r ≡ list_of count (λ t. (field m).mul (i m) (values_of m l t)) → q ≡ turned_line m a direction k r → q ≡ turned_stored m a direction b k l
  stored_back is size direction z e l {r} {q} f g =
      g ∙ ap (λ d. turned_line m a d k r) z
      ∙ list_cong m (slots k a) _ _ (back_cong (field_ring m) (field_star m) (laws m is a size) k _ _ (λ s ls. ap (λ x. values_of m x s) (f ∙ ap (λ n. list_of n (λ t. (field m).mul (i m) (values_of m l t))) counted) ∙ values_list m (slots k a) _ s ls))
      ∙ ap (λ b. turned_stored m a 1 b k l) (sym e) ∙ ap (λ d. turned_stored m a d b k l) (sym z)

-- ---- a row along k

-- a pair after a store of one number
at_set_other : (l : List ℕ) (n x t : ℕ) → (2 * t ≡ n → ⊥) → (2 * t + 1 ≡ n → ⊥) → at (set l n x) t ≡ at l t
unfolding at
at_set_other l n x t e o = pair_path (get_or-set_other l n (2 * t) x 0 e) (get_or-set_other l n (2 * t + 1) x 0 o)

module _ (m : ℕ) (is : IsModulus m) (b : ℕ) (size : AdmittedLength (2 * b)) where
  module _ (l r : List ℕ) (long : length l ≡ 2 * (b + 1)) (turned : r ≡ turned_line m b 0 hermitian (take (2 * b) (set l 1 (get_or l (2 * b) 0)))) where
    abbrev l₁ : List ℕ
    l₁ = set l 1 (get_or l (2 * b) 0)

    abbrev l₂ : List ℕ
    l₂ = set (set (r ++ drop (2 * b) l₁) (2 * b) 0) (2 * b + 1) 0

    half_length_r : length r ≡ 2 * b
    unfolding slots
    half_length_r = ap length turned ∙ length_turned m b 0 hermitian _

    packed_row_at : (s : ℕ) → s < b → value_of m (at (take (2 * b) l₁) s) ≡ value_of m (packed_row b (at l) s)
    unfolding packed_row at
    packed_row_at zero h = ap (value_of m) (at_take b l₁ 0 h ∙ pair_path (get_or-set_other l 1 0 _ 0 (λ e. omega arith)) (get_or-set_same l 1 _ 0 (omega arith)))
    packed_row_at (suc s) h = ap (value_of m) (at_take b l₁ (suc s) h ∙ at_set_other l 1 _ (suc s) (λ e. omega arith) (λ e. omega arith))

    pub row_forward : l₂ ≡ forward_row m b l
    unfolding slots put
    row_forward = is_tab (suc b) l₂ _ whole (λ t lt. ⊎_elim
        (λ (h : t < b).
        at_put_other (r ++ drop (2 * b) l₁) b t zero_pair (λ e. omega arith)
        ∙ at_append_left r (drop (2 * b) l₁) t (omega (arith, half_length_r))
        ∙ ap (λ x. at x t) turned
        ∙ at_tab _ b t h
        ∙ ap pair_of (forward_cong (field_ring m) (field_star m) (laws m is b size) hermitian _ _ packed_row_at t h)
        ∙ rw (lt-ltb t b h) refl)
        (λ (h : b ≤ t).
        subst (λ t. at l₂ t ≡ cond (ltb t b) (pair_of (forward_values m b hermitian (λ s. value_of m (packed_row b (at l) s)) t)) zero_pair) {x = b} {y = t} (omega arith)
        (at_put_same (r ++ drop (2 * b) l₁) b zero_pair (omega (arith, returned_long)) ∙ rw (le-ltb b b (omega arith)) refl))
        (lt_or_ge t b))
      where
        returned_long : length (r ++ drop (2 * b) l₁) ≡ 2 * (b + 1)
        returned_long = simp (length-append, length-drop, length-set) (omega (arith, half_length_r, long))

        whole : length l₂ ≡ 2 * suc b
        whole = length_put (r ++ drop (2 * b) l₁) b zero_pair ∙ returned_long ∙ omega arith

  module _ (l r : List ℕ) (long : length l ≡ 2 * (b + 1)) (turned : r ≡ turned_line m b 1 hermitian (take (2 * b) l)) where
    abbrev k₁ : List ℕ
    k₁ = r ++ drop (2 * b) l

    abbrev k₂ : List ℕ
    k₂ = set (set (set k₁ (2 * b) (get_or k₁ 1 0)) (2 * b + 1) 0) 1 0

    abbrev pairs : ℕ → Pair
    pairs t = pair_of (inverse_values m b hermitian (values_of m l) t)

    half_counted : length r ≡ 2 * b
    unfolding slots
    half_counted = ap length turned ∙ length_turned m b 1 hermitian _

    returned_long : length k₁ ≡ 2 * (b + 1)
    returned_long = simp (length-append, length-drop) (omega (arith, half_counted, long))

    at_returned : (t : ℕ) → t < b → at k₁ t ≡ pairs t
    unfolding slots
    at_returned t h =
        at_append_left r (drop (2 * b) l) t (omega (arith, half_counted))
        ∙ ap (λ x. at x t) turned
        ∙ at_tab _ b t h
        ∙ ap pair_of (back_cong (field_ring m) (field_star m) (laws m is b size) hermitian _ _ (λ s hs. ap (value_of m) (at_take b l s hs)) t h)

    abbrev k₃ : List ℕ
    k₃ = set k₁ (2 * b) (get_or k₁ 1 0)

    abbrev k₄ : List ℕ
    k₄ = set k₃ (2 * b + 1) 0

    first_pair_lem : at k₂ 0 ≡ unpacked_row b pairs 0
    unfolding unpacked_row at
    first_pair_lem = pair_path
        (get_or-set_other k₄ 1 0 0 0 (λ e. omega arith) ∙ get_or-set_other k₃ (2 * b + 1) 0 0 0 (λ e. omega arith) ∙ get_or-set_other k₁ (2 * b) 0 (get_or k₁ 1 0) 0 (λ e. omega (arith, half_positive b size)) ∙ ap (λ x. x.re) (at_returned 0 (half_positive b size)))
        (get_or-set_same k₄ 1 0 0 (simp length-set (omega (arith, returned_long))))

    last_pair : at k₂ b ≡ record { re = (pairs 0).im; im = 0 }
    unfolding at
    last_pair = pair_path
        (get_or-set_other k₄ 1 (2 * b) 0 0 (λ e. omega arith) ∙ get_or-set_other k₃ (2 * b + 1) (2 * b) 0 0 (λ e. omega arith) ∙ get_or-set_same k₁ (2 * b) (get_or k₁ 1 0) 0 (omega (arith, returned_long)) ∙ ap (λ x. x.im) (at_returned 0 (half_positive b size)))
        (get_or-set_other k₄ 1 (2 * b + 1) 0 0 (λ e. omega (arith, half_positive b size)) ∙ get_or-set_same k₃ (2 * b + 1) 0 0 (simp length-set (omega (arith, returned_long))))

    between_pairs : (t : ℕ) → 0 < t → t < b → at k₂ t ≡ pairs t
    between_pairs t p h =
        at_set_other k₄ 1 0 t (λ e. omega arith) (λ e. omega arith) ∙ at_set_other k₃ (2 * b + 1) 0 t (λ e. omega arith) (λ e. omega arith)
        ∙ at_set_other k₁ (2 * b) (get_or k₁ 1 0) t (λ e. omega arith) (λ e. omega arith) ∙ at_returned t h

    parted_last : (c : ℕ) → 0 < c → unpacked_row c pairs c ≡ record { re = (pairs 0).im; im = 0 }
    unfolding unpacked_row
    parted_last zero p = absurd (omega arith)
    parted_last (suc c) p = rw (le-ltb (suc c) (suc c) (omega arith))

    parted_between : (t : ℕ) → 0 < t → t < b → unpacked_row b pairs t ≡ pairs t
    unfolding unpacked_row
    parted_between zero p h = absurd (omega arith)
    parted_between (suc t) p h = rw (lt-ltb (suc t) b h)

    pub row_inverse : k₂ ≡ inverse_row m b l
    row_inverse = is_tab (suc b) k₂ (unpacked_row b pairs) (simp length-set (omega (arith, returned_long)))
        (by_half b (λ t. at k₂ t ≡ unpacked_row b pairs t) first_pair_lem (last_pair ∙ sym (parted_last b (half_positive b size))) (λ t p h. between_pairs t p h ∙ sym (parted_between t p h)))
