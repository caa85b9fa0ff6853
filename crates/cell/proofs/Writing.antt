-- A value written at a stored place of the list is written into the theory's packed factors, and so is a record with all its images.
use mathlib.Core.Path.{◌≡◌, refl, sym, ◌∙◌, ap, subst}
use mathlib.Core.Bool.{Bool, true, false, ◌||◌, not, cond}
use mathlib.Core.List.{List, [], ◌∷◌}
use Prim.Native.Nat.{ℕ, zero, suc, ◌+◌, ◌*◌, ◌<◌}
use native.Mathlib.Omega.{arith}
use lib.Dec.{T, T_not, eqb}
use lib.ListN.{length, set, length-set}
use lib.Seq.{get_or-set_other, set-get_or}
use borrow.Author.Tests.{eq-eqb, ne_eqb}
use Rattle.algebra.specs.ring.Ring.{Ops}
use Rattle.algebra.specs.lines.Kinds.{Kind, Kind.plain, Kind.hermitian, Kind.antihermitian, Kind.alternating, Kind.symmetric, Kind.antisymmetric}
use Rattle.algebra.specs.orbits.Orbit.{Mem, first, later}
use Rattle.algebra.specs.orbits.OrbitLaws.{put_all}
use Rattle.algebra.specs.cells.Cell.{J, Inside, Sym, Group, P1, P2₁, Pm, Pa, P2₁2₁2₁, image_of, implied_value, same_j, span, planes, factor_acts, stored_t}
use Rattle.algebra.specs.cells.CellPlaces.{Stored}
use Rattle.algebra.specs.cells.CellPack.{FactorVolume, even, part_of, upd, put_alt, put_factor}
use Rattle.algebra.proofs.ring.Bool.{split, split_both}
use Rattle.algebra.proofs.ring.Paths.{triple}
use Rattle.algebra.proofs.cells.CellSym.{image_inside}
use Rattle.algebra.proofs.cells.CellGroup.{same_j_eq, same_j_refl}
use Rattle.algebra.proofs.cells.CellTests.{stored_iff}
use Rattle.numbers.specs.declared.Pair.{Pair}
use Rattle.numbers.specs.Value.{prime, Value, Residue, field, conj, ring, value_of, pair_of}
use Rattle.numbers.specs.Bounds.{Small}
use Rattle.numbers.proofs.Residues.{res_val}
use Rattle.numbers.proofs.Values.{value_path, value_pair, small_pair}
use Rattle.slices.specs.Pairs.{at, put, Below}
use Rattle.slices.proofs.Pairs.{length_put, at_put_same, at_put_other}
use Rattle.slices.proofs.Rows.{block_inj}
use Rattle.slices.proofs.Bounds.{below_set, below_put}
use Rattle.cell.specs.Volume.{line_kind, times_i, first_pair, pair_place, rows, columns, layers, volume_length}
use Rattle.cell.specs.Consistency.{write_alternating, write_line, write, written_pair, write_images}
use Rattle.cell.proofs.VolumeLayout.{place_inside}
use Rattle.cell.proofs.LineReading.{by_half}
use Rattle.cell.proofs.RotatedLines.{times_is}
use Rattle.cell.proofs.Reading.{pairs_in}

-- one number of a pair, set: the other stays
set_first : (v : List ℕ) (p n : ℕ) → set v (2 * p) n ≡ put v p (record { re = n; im = (at v p).im })
unfolding put at
set_first v p n = sym (ap (set (set v (2 * p) n) (2 * p + 1)) (sym (get_or-set_other v (2 * p) (2 * p + 1) n 0 (λ e. omega arith))) ∙ set-get_or (set v (2 * p) n) (2 * p + 1) 0)

set_second : (v : List ℕ) (p n : ℕ) → set v (2 * p + 1) n ≡ put v p (record { re = (at v p).re; im = n })
unfolding put at
set_second v p n = sym (ap (λ u. set u (2 * p + 1) n) (set-get_or v (2 * p) 0))

module _ (g : Group) (a : J) (m : ℕ) where
  -- the list stands for the packed factors B
  abbrev pub Holds : List ℕ → FactorVolume (Residue m) → Type 0
  Holds v B = (w h k : ℕ) → w < layers g a → h < rows g a → k < columns g a → pairs_in g a m v w h k ≡ B w h k

  -- a pair that is stored
  put_holds : (v : List ℕ) (B : FactorVolume (Residue m)) → length v ≡ volume_length g a → Holds v B → (w h k : ℕ) → w < layers g a → h < rows g a → k < columns g a → (y : Pair) (x : Value m) → value_of m y ≡ x → Holds (put v (pair_place g a w h k) y) (upd (ring m) B w h k x)
  unfolding upd
  put_holds v B len e w h k lw lh lk y x new w' h' k' lw' lh' lk' = split (same_j (w, h, k) (w', h', k'))
      (λ b. pairs_in g a m (put v (pair_place g a w h k) y) w' h' k' ≡ cond b x (B w' h' k'))
      (λ t. ap (λ (q : J). value_of m (at (put v (pair_place g a w h k) y) (pair_place g a q.0 q.1 q.2))) (sym (same_j_eq (w, h, k) (w', h', k') t)) ∙ ap (value_of m) (at_put_same v (pair_place g a w h k) y (omega (arith, place_inside g a lw lh lk))) ∙ new)
      (λ t. ap (value_of m) (at_put_other v (pair_place g a w h k) (pair_place g a w' h' k') y (λ q. T_not (same_j (w, h, k) (w', h', k')) t (apart q))) ∙ e w' h' k' lw' lh' lk')
    where
      apart : pair_place g a w' h' k' ≡ pair_place g a w h k → T (same_j (w, h, k) (w', h', k'))
      apart q = let s = block_inj w' w lh' lh lk' lk q in subst (λ i. T (same_j (w, h, k) i)) (triple (sym s.0) (sym s.1) (sym s.2)) (same_j_refl (w, h, k))

  -- a pair that is not stored, since it stands there already
  same_holds : (v : List ℕ) (B : FactorVolume (Residue m)) → Holds v B → (w h k : ℕ) (x : Value m) → B w h k ≡ x → Holds v (upd (ring m) B w h k x)
  unfolding upd
  same_holds v B e w h k x old w' h' k' lw' lh' lk' = split (same_j (w, h, k) (w', h', k')) (λ b. pairs_in g a m v w' h' k' ≡ cond b x (B w' h' k'))
      (λ t. e w' h' k' lw' lh' lk' ∙ ap (λ (q : J). B q.0 q.1 q.2) (sym (same_j_eq (w, h, k) (w', h', k') t)) ∙ old)
      (λ t. e w' h' k' lw' lh' lk')

  -- an index whose pair is left out: an end of an antisymmetric line
  abbrev pub LeftOut : J → Type 0
  LeftOut j = (line_kind g j.0 ≡ antisymmetric) × T (eqb j.2 0 || eqb j.2 a.2)

  -- these pairs are zero
  abbrev pub Empty : FactorVolume (Residue m) → Type 0
  Empty B = (j : J) → Inside a j → Stored g a j → LeftOut j → B j.2 j.0 j.1 ≡ (field m).zer

-- ---- an alternating line: one number of pair 0 at each end, else a pair

module _ {K : Type 0} (𝓚 : Ops K) (c : ℕ) (B : FactorVolume K) (h k : ℕ) (x : K × K) where
  put_middle : (l : ℕ) → 0 < l → l ≡ c → put_alt 𝓚 c B h k l x ≡ upd 𝓚 B 0 h k ((B 0 h k).0, part_of 𝓚 (even c) x)
  unfolding put_alt
  put_middle zero p e = absurd (omega arith)
  put_middle (suc l) p e = rw (eq-eqb (suc l) c e)

  put_low : (l : ℕ) → 0 < l → l < c → put_alt 𝓚 c B h k l x ≡ upd 𝓚 B l h k x
  unfolding put_alt
  put_low zero p e = absurd (omega arith)
  put_low (suc l) p e = rw (ne_eqb (suc l) c (λ q. omega arith))

module _ (a : J) (m : ℕ) (pos : 0 < a.2) (v : List ℕ) (B : FactorVolume (Residue m)) (len : length v ≡ volume_length P2₁ a) (e : Holds P2₁ a m v B) (h k : ℕ) (lh : h < rows P2₁ a) (lk : k < columns P2₁ a) (x : Value m) where
  abbrev shared : ℕ
  shared = pair_place P2₁ a 0 h k

  new_first : value_of m (record { re = x.0.val; im = (at v shared).im }) ≡ (x.0, (B 0 h k).1)
  unfolding value_of planes
  new_first = value_path (res_val m x.0) (ap (λ z. z.1) (e 0 h k pos lh lk))

  new_second : (b : Bool) → value_of m (record { re = (at v shared).re; im = cond b x.0.val x.1.val }) ≡ ((B 0 h k).0, part_of (ring m) b x)
  unfolding value_of planes
  new_second true = value_path (ap (λ z. z.0) (e 0 h k pos lh lk)) (res_val m x.0)
  new_second false = value_path (ap (λ z. z.0) (e 0 h k pos lh lk)) (res_val m x.1)

  alternating_holds : (l : ℕ) → l < suc a.2 → Holds P2₁ a m (write_alternating P2₁ a v h k l (pair_of x)) (put_alt (ring m) a.2 B h k l x)
  unfolding write_alternating put_alt planes pair_of
  alternating_holds = by_half a.2 (λ l. Holds P2₁ a m (write_alternating P2₁ a v h k l (pair_of x)) (put_alt (ring m) a.2 B h k l x))
      (rw set_first (put_holds P2₁ a m v B len e 0 h k pos lh lk _ _ new_first))
      (rw (ne_eqb a.2 0 (λ q. omega arith), eq-eqb a.2 a.2 refl, put_middle (ring m) a.2 B h k x a.2 pos refl, set_second) (put_holds P2₁ a m v B len e 0 h k pos lh lk _ _ (new_second (even a.2))))
      (λ l p q. rw (ne_eqb l 0 (λ z. omega arith), ne_eqb l a.2 (λ z. omega arith), put_low (ring m) a.2 B h k x l p q) (put_holds P2₁ a m v B len e l h k q lh lk (pair_of x) x (value_pair m x)))

-- ---- a place of any group, and a record

module _ (a : J) (m : ℕ) (pos : 0 < a.2) (v : List ℕ) where
  write_holds : (g : Group) → length v ≡ volume_length g a → (B : FactorVolume (Residue m)) → Holds g a m v B → (j : J) → Inside a j → Stored g a j → (x : Value m) → (LeftOut g a m j → B j.2 j.0 j.1 ≡ x) → Holds g a m (write g a v j (written_pair g a m j x)) (put_factor (ring m) g a B j x)
  unfolding write write_alternating put_factor span planes
  write_holds P1 len B e j n s x old = put_holds P1 a m v B len e j.2 j.0 j.1 s.1 n.0 (omega (arith, s.0)) (pair_of x) x (value_pair m x)
  write_holds P2₁ len B e j n s x old = alternating_holds a m pos v B len e j.0 j.1 n.0 (omega (arith, s.0)) x j.2 s.1
  write_holds Pm len B e j n s x old = put_holds Pm a m v B len e j.2 j.0 j.1 s.1 n.0 (omega (arith, s.0)) (pair_of x) x (value_pair m x)
  write_holds Pa len B e j n s x old = mirror (even j.0) refl
    where
      new : Holds Pa a m (put v (pair_place Pa a j.2 j.0 j.1) (pair_of x)) (upd (ring m) B j.2 j.0 j.1 x)
      new = put_holds Pa a m v B len e j.2 j.0 j.1 s.1 n.0 (omega (arith, s.0)) (pair_of x) x (value_pair m x)

      mirror : (b : Bool) → even j.0 ≡ b → Holds Pa a m (write_line Pa a (cond b symmetric antisymmetric) v j (pair_of x)) (upd (ring m) B j.2 j.0 j.1 x)
      mirror true q = new
      mirror false q = split (eqb j.2 0 || eqb j.2 a.2) (λ b. Holds Pa a m (cond b v (put v (pair_place Pa a j.2 j.0 j.1) (pair_of x))) (upd (ring m) B j.2 j.0 j.1 x))
          (λ t. same_holds Pa a m v B e j.2 j.0 j.1 x (old (ap (λ b. cond b symmetric antisymmetric) q, t)))
          (λ t. new)
  write_holds P2₁2₁2₁ len B e j n s x old =
      subst (λ y. Holds P2₁2₁2₁ a m (write_alternating P2₁2₁2₁ a v j.0 j.1 j.2 (written_pair P2₁2₁2₁ a m j x)) (put_alt (ring m) a.2 B j.0 j.1 j.2 y)) (times_is m (even j.0) x)
      (alternating_holds a m pos v B len e j.0 j.1 n.0 (omega (arith, s.0)) (times_i m (not (even j.0)) x) j.2 s.1)

-- the pairs that are left out stay zero
module _ (a : J) (m : ℕ) where
  other_line : {K : Kind} → first_pair K ≡ 0 → K ≡ antisymmetric → ⊥
  other_line z e = omega (arith, z, ap first_pair e)

  put_empty : (g : Group) (B : FactorVolume (Residue m)) → Empty g a m B → (i : J) (x : Value m) → (LeftOut g a m i → x ≡ (field m).zer) → Empty g a m (put_factor (ring m) g a B i x)
  unfolding put_factor upd
  put_empty P1 B e i x q j n s l = absurd (other_line refl l.0)
  put_empty P2₁ B e i x q j n s l = absurd (other_line refl l.0)
  put_empty Pm B e i x q j n s l = absurd (other_line refl l.0)
  put_empty Pa B e i x q j n s l = split (same_j (i.2, i.0, i.1) (j.2, j.0, j.1)) (λ b. cond b x (B j.2 j.0 j.1) ≡ (field m).zer)
      (λ t. let p = same_j_eq (i.2, i.0, i.1) (j.2, j.0, j.1) t in q (subst (LeftOut Pa a m) (triple (sym (ap (λ (y : J). y.1) p)) (sym (ap (λ (y : J). y.2) p)) (sym (ap (λ (y : J). y.0) p))) l))
      (λ t. e j n s l)
  put_empty P2₁2₁2₁ B e i x q j n s l = absurd (other_line refl l.0)

cond_keeps : {A : Type 0} (P : A → Type 0) (b : Bool) {x y : A} → P x → P y → P (cond b x y)
cond_keeps P true p q = p
cond_keeps P false p q = q

abbrev AsLong : List ℕ → List ℕ → Type 0
AsLong v u = length u ≡ length v

module _ (g : Group) (a : J) where
  length_alternating : (v : List ℕ) (h k l : ℕ) (x : Pair) → length (write_alternating g a v h k l x) ≡ length v
  unfolding write_alternating
  length_alternating v h k l x = cond_keeps (AsLong v) (eqb l 0) (length-set v _ _) (cond_keeps (AsLong v) (eqb l a.2) (length-set v _ _) (length_put v _ x))

  length_line : (K : Kind) (v : List ℕ) (j : J) (x : Pair) → length (write_line g a K v j x) ≡ length v
  length_line plain v j x = length_put v _ x
  length_line hermitian v j x = length_put v _ x
  length_line antihermitian v j x = length_put v _ x
  length_line alternating v j x = length_alternating v j.0 j.1 j.2 x
  length_line symmetric v j x = length_put v _ x
  length_line antisymmetric v j x = cond_keeps (AsLong v) (eqb j.2 0 || eqb j.2 a.2) refl (length_put v _ x)

  length_write : (v : List ℕ) (j : J) (x : Pair) → length (write g a v j x) ≡ length v
  unfolding write
  length_write v j x = length_line (line_kind g j.0) v j x

  module _ {p : ℕ} where
    below_alternating : (v : List ℕ) (h k l : ℕ) (x : Pair) → Below p v → Small p x → Below p (write_alternating g a v h k l x)
    unfolding write_alternating
    below_alternating v h k l x b s = cond_keeps (Below p) (eqb l 0) (below_set _ _ b s.re) (cond_keeps (Below p) (eqb l a.2) (below_set _ _ b (cond_keeps (λ q. q < p) (even l) s.re s.im)) (below_put _ b s))

    below_line : (K : Kind) (v : List ℕ) (j : J) (x : Pair) → Below p v → Small p x → Below p (write_line g a K v j x)
    below_line plain v j x b s = below_put _ b s
    below_line hermitian v j x b s = below_put _ b s
    below_line antihermitian v j x b s = below_put _ b s
    below_line alternating v j x b s = below_alternating v j.0 j.1 j.2 x b s
    below_line symmetric v j x b s = below_put _ b s
    below_line antisymmetric v j x b s = cond_keeps (Below p) (eqb j.2 0 || eqb j.2 a.2) b (below_put _ b s)

    below_write : (v : List ℕ) (j : J) (x : Pair) → Below p v → Small p x → Below p (write g a v j x)
    unfolding write
    below_write v j x b s = below_line (line_kind g j.0) v j x b s

  module _ (m : ℕ) (j : J) (x : Value m) where
    pub length_images : (l : List Sym) (v : List ℕ) → length (write_images g a m l j x v) ≡ length v
    unfolding write_images
    length_images [] v = refl
    length_images (s ∷ l) v = length_images l _ ∙ cond_keeps (AsLong v) (stored_t g a (image_of a s j)) (length_write v (image_of a s j) _) refl

    pub below_images : (l : List Sym) (v : List ℕ) → Below (prime m) v → Below (prime m) (write_images g a m l j x v)
    unfolding write_images
    below_images [] v b = b
    below_images (s ∷ l) v b = below_images l _ (cond_keeps (Below (prime m)) (stored_t g a (image_of a s j)) (below_write v (image_of a s j) _ b (small_pair m _)) b)

    -- a list that stands for B stands, after the record, for what the theory's record makes of B, if a value where a pair is left out is zero
    pub images_hold : 0 < a.2 → Inside a j → (l : List Sym) → ((s : Sym) → Mem s l → LeftOut g a m (image_of a s j) → implied_value (field m) (conj m) s j x ≡ (field m).zer)
        → (v : List ℕ) → length v ≡ volume_length g a → (B : FactorVolume (Residue m)) → Holds g a m v B → Empty g a m B
        → Holds g a m (write_images g a m l j x v) (put_all (factor_acts (field m) (conj m) a) (put_factor (ring m) g a) (stored_t g a) l B j x)
    unfolding write_images put_all factor_acts
    images_hold pos n [] quiet v len B e z = e
    images_hold pos n (s ∷ l) quiet v len B e z = images_hold pos n l (λ t i. quiet t (later i)) _
        (cond_keeps (AsLong v) (stored_t g a (image_of a s j)) (length_write v (image_of a s j) _) refl ∙ len)
        _
        (split_both (Holds g a m) (stored_t g a (image_of a s j)) (λ t. write_holds a m pos v g len B e (image_of a s j) (image_inside a s j n) ((stored_iff g a (image_of a s j)).0 t) (implied_value (field m) (conj m) s j x) (λ o. z (image_of a s j) (image_inside a s j n) ((stored_iff g a (image_of a s j)).0 t) o ∙ sym (quiet s first o))) (λ t. e))
        (cond_keeps (Empty g a m) (stored_t g a (image_of a s j)) (put_empty a m g B z (image_of a s j) (implied_value (field m) (conj m) s j x) (quiet s first)) z)
