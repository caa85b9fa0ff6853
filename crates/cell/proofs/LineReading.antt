-- A line of the packed factors, whatever the group: the values that its pairs stand for, by kind, and the pairs that its values are packed in.
-- The line has the half c; q w is the value of its pair w, counted from 0 also where the kind leaves the first pair out.
use mathlib.Core.Path.{◌≡◌, refl, sym, ◌∙◌, ap, ap₂, subst}
use mathlib.Core.Bool.{cond}
use Prim.Native.Nat.{ℕ, zero, suc, ◌+◌, ◌*◌, ◌-◌, ◌<◌, ◌≤◌}
use native.Mathlib.Omega.{arith}
use native.Mathlib.Decide.{ℕ_discrete}
use lib.Dec.{T, T_not, eqb, eqb→eq, eqb_refl}
use borrow.Author.Tests.{lt-ltb, le-ltb, le-leb}
use Rattle.algebra.specs.ring.Ring.{pow, residues}
use Rattle.algebra.specs.lines.Kinds.{unfold_by, Kind, Kind.plain, Kind.alternating, Kind.symmetric, Kind.antisymmetric, slots, unfold_before, pack_before}
use Rattle.algebra.specs.cells.CellPack.{even, part_of, of_part, pack_alt, unpack_alt}
use Rattle.algebra.proofs.ring.Bool.{split}
use Rattle.algebra.proofs.ring.Laws.{along}
use Rattle.algebra.proofs.cells.CellPack.{unit_is, unit_part, pack_alternating}
use Rattle.algebra.proofs.lines.Unfold.{unfold_zero, unfold_low, unfold_middle, unfold_high}
use Rattle.numbers.specs.Value.{Value, field, i, half, real, value}
use Rattle.numbers.specs.Value as Value
use Rattle.numbers.proofs.Residues.{res_ring}
use Rattle.numbers.proofs.Parts.{re_value, im_value}
use Rattle.cell.specs.Volume.{first_pair, packed}
use Rattle.algebra.specs.cells.Cell.{J, Group}

-- the places of the stored half: its two ends, and those between
pub by_half : (c : ℕ) (P : ℕ → Type 0) → P 0 → P c → ((l : ℕ) → 0 < l → l < c → P l) → (l : ℕ) → l < suc c → P l
by_half c P p0 pc pm l h = go (ℕ_discrete l 0) (ℕ_discrete l c)
  where
    go : Dec (l ≡ 0) → Dec (l ≡ c) → P l
    go (yes e) d = subst P (sym e) p0
    go (no n) (yes e) = subst P (sym e) pc
    go (no n) (no d) = pm l (omega arith) (omega arith)

-- a place beyond the middle by its mirror image
unfold_mirror : {R : Type 0} (c : ℕ) (first middle : R) (f : ℕ → R → R) (p : ℕ → R) (l u : ℕ) → c < l → 0 < u → l + u ≡ 2 * c → unfold_by c first middle f p l ≡ f u (unfold_by c first middle f p u)
unfold_mirror c first middle f p l u h pos e = unfold_high c first middle f p l u h e ∙ ap (f u) (sym (unfold_low c first middle f p u pos (omega arith)))

module _ (m c : ℕ) where
  -- the line of the pairs q
  abbrev pub read_line : Kind → (ℕ → Value m) → ℕ → Value m
  read_line kind q l = unfold_before (field m) (Value.conj m) (i m) (real m (half m)) c kind (λ w. q (first_pair kind + w)) l

  -- ---- the stored half

  pub read_plain : (q : ℕ → Value m) (l : ℕ) → read_line plain q l ≡ q l
  unfolding unfold_before
  read_plain q l = along q (0 + l) l (omega arith)

  -- an alternating line: its first value is the first number of pair 0, its middle one the second number, times 1 or i
  module _ (q : ℕ → Value m) where
    pub alternating_first : read_line alternating q 0 ≡ ((q 0).0, (Value.ring m).zer)
    unfolding unfold_before residues
    alternating_first = unfold_zero c _ _ _ (λ w. q (0 + w)) ∙ re_value m (q 0)

    pub alternating_middle : 0 < c → read_line alternating q c ≡ of_part (Value.ring m) (even c) (q 0).1
    unfolding unfold_before residues
    alternating_middle pos =
        unfold_middle c _ _ _ (λ w. q (0 + w)) pos
        ∙ ap₂ (field m).mul (unit_is (res_ring m) (real m (half m)) c c) (im_value m (q 0))
        ∙ unit_part (res_ring m) (even c) (q 0).1

    pub alternating_low : (l : ℕ) → 0 < l → l < c → read_line alternating q l ≡ q l
    unfolding unfold_before
    alternating_low l p h = unfold_low c _ _ _ (λ w. q (0 + w)) l p h ∙ along q (0 + l) l (omega arith)

    pub read_alternating : 0 < c → (l : ℕ) → l < suc c → read_line alternating q l ≡ unpack_alt (Value.ring m) c q l
    unfolding unpack_alt
    read_alternating pos zero h = alternating_first
    read_alternating pos (suc l) h = split (eqb (suc l) c)
        (λ b. read_line alternating q (suc l) ≡ cond b (of_part (Value.ring m) (even c) (q 0).1) (q (suc l)))
        (λ t. ap (read_line alternating q) (eqb→eq (suc l) c t) ∙ alternating_middle pos)
        (λ t. alternating_low (suc l) (omega arith) (below (λ e. T_not (eqb (suc l) c) t (subst (λ y. T (eqb (suc l) y)) e (eqb_refl (suc l))))))
      where
        below : (suc l ≡ c → ⊥) → suc l < c
        below e = omega arith

  pub read_symmetric : 0 < c → (q : ℕ → Value m) (l : ℕ) → l < suc c → read_line symmetric q l ≡ q l
  unfolding unfold_before
  read_symmetric pos q = by_half c (λ l. read_line symmetric q l ≡ q l)
      (unfold_zero c _ _ _ (λ w. q (0 + w)))
      (unfold_middle c _ _ _ (λ w. q (0 + w)) pos ∙ along q (0 + c) c (omega arith))
      (λ l p h. unfold_low c _ _ _ (λ w. q (0 + w)) l p h ∙ along q (0 + l) l (omega arith))

  -- an antisymmetric line: its pairs 1 to c - 1, and zero at both ends
  pub read_first : (q : ℕ → Value m) → read_line antisymmetric q 0 ≡ (field m).zer
  unfolding unfold_before
  read_first q = unfold_zero c _ _ _ (λ t. q (1 + (t - 1)))

  pub read_last : 0 < c → (q : ℕ → Value m) → read_line antisymmetric q c ≡ (field m).zer
  unfolding unfold_before
  read_last pos q = unfold_middle c _ _ _ (λ t. q (1 + (t - 1))) pos

  pub read_between : (q : ℕ → Value m) (l : ℕ) → 0 < l → l < c → read_line antisymmetric q l ≡ q l
  unfolding unfold_before
  read_between q l p h = unfold_low c _ _ _ (λ t. q (1 + (t - 1))) l p h ∙ along q (1 + (l - 1)) l (omega arith)

  pub read_antisymmetric : 0 < c → (q : ℕ → Value m) → q 0 ≡ (field m).zer → q c ≡ (field m).zer → (l : ℕ) → l < suc c → read_line antisymmetric q l ≡ q l
  read_antisymmetric pos q e0 ec = by_half c (λ l. read_line antisymmetric q l ≡ q l) (read_first q ∙ sym e0) (read_last pos q ∙ sym ec) (read_between q)

  -- ---- beyond it, by the kind's rule

  module _ (q : ℕ → Value m) (l u : ℕ) (high : c < l) (pos : 0 < u) (e : l + u ≡ 2 * c) where
    pub mirror_alternating : read_line alternating q l ≡ (field m).mul (pow (field m) ((field m).neg (field m).one) u) (Value.conj m (read_line alternating q u))
    unfolding unfold_before
    mirror_alternating = unfold_mirror c _ _ _ (λ w. q (0 + w)) l u high pos e

    pub mirror_symmetric : read_line symmetric q l ≡ read_line symmetric q u
    unfolding unfold_before
    mirror_symmetric = unfold_mirror c _ _ _ (λ w. q (0 + w)) l u high pos e

    pub mirror_antisymmetric : read_line antisymmetric q l ≡ (field m).neg (read_line antisymmetric q u)
    unfolding unfold_before
    mirror_antisymmetric = unfold_mirror c _ _ _ (λ t. q (1 + (t - 1))) l u high pos e

-- ---- and back

module _ (g : Group) (a : J) (m : ℕ) (X : ℕ → Value m) where
  -- the pairs that belong to the line
  pub packed_in : (kind : Kind) (w : ℕ) → first_pair kind ≤ w → w < first_pair kind + slots kind a.2 → packed g a m kind X w ≡ pack_before (field m) (Value.conj m) (i m) (real m (half m)) a.2 kind X (w - first_pair kind)
  unfolding packed
  packed_in kind w lo hi = rw (le-leb (first_pair kind) w lo, lt-ltb w (first_pair kind + slots kind a.2) hi)

  pub packed_plain : (w : ℕ) → w < 2 * a.2 → packed g a m plain X w ≡ X w
  unfolding slots pack_before
  packed_plain w h = packed_in plain w (omega arith) (omega arith) ∙ along X (w - 0) w (omega arith)

  pub packed_symmetric : (w : ℕ) → w < suc a.2 → packed g a m symmetric X w ≡ X w
  unfolding slots pack_before
  packed_symmetric w h = packed_in symmetric w (omega arith) (omega arith) ∙ along X (w - 0) w (omega arith)

  -- an alternating line whose ends have their part alone
  pub packed_alternating : X 0 ≡ ((X 0).0, (Value.ring m).zer) → X a.2 ≡ of_part (Value.ring m) (even a.2) (part_of (Value.ring m) (even a.2) (X a.2))
      → (w : ℕ) → w < a.2 → packed g a m alternating X w ≡ pack_alt (Value.ring m) a.2 X w
  unfolding slots
  packed_alternating e0 ec w h =
      packed_in alternating w (omega arith) (omega arith)
      ∙ along (λ k. pack_before (field m) (Value.conj m) (i m) (real m (half m)) a.2 alternating X k) (w - 0) w (omega arith)
      ∙ pack_alternating (res_ring m) (real m (half m)) a.2 X e0 ec w

  -- an antisymmetric line: no pair of its own at both ends
  pub packed_first : packed g a m antisymmetric X 0 ≡ value m 0 0
  unfolding packed
  packed_first = refl

  pub packed_last : 0 < a.2 → packed g a m antisymmetric X a.2 ≡ value m 0 0
  unfolding packed slots
  packed_last pos = rw (le-leb 1 a.2 pos, le-ltb a.2 (1 + (a.2 - 1)) (omega arith))

  pub packed_antisymmetric : 0 < a.2 → X 0 ≡ value m 0 0 → X a.2 ≡ value m 0 0 → (w : ℕ) → w < suc a.2 → packed g a m antisymmetric X w ≡ X w
  unfolding slots pack_before
  packed_antisymmetric pos e0 ec = by_half a.2 (λ w. packed g a m antisymmetric X w ≡ X w) (packed_first ∙ sym e0) (packed_last pos ∙ sym ec)
      (λ w p h. packed_in antisymmetric w (omega arith) (omega arith) ∙ along X (suc (w - 1)) w (omega arith))
