-- A cell of a group is packed in B exactly if it has, at every stored place, the value that B holds there.
use mathlib.Core.Path.{◌≡◌, refl, sym as inv, ◌∙◌, ap, ap₂, subst}
use mathlib.Core.Logic.{◌↔◌}
use mathlib.Core.Bool.{Bool, true, false, not, cond}
use mathlib.Core.List.{[], ◌∷◌}
use Prim.Native.Nat.{ℕ, zero, suc, ◌*◌, ◌≤◌, ◌<◌}
use native.Mathlib.Omega.{arith}
use lib.Dec.{T, eqb, eqb→eq, eqb_refl, T_not}
use Rattle.algebra.specs.ring.Ring.{Ops, pow, gauss, conj, imag}
use Rattle.algebra.specs.ring.RingLaws.{CRing}
use Rattle.algebra.specs.lines.Kinds.{unit, pack_by, Kind.alternating, pack_before}
use Rattle.algebra.specs.cells.Cell.{J, Inside, Group, P1, P2₁, Pm, Pa, P2₁2₁2₁, neg_i, span, planes, Cell, at}
use Rattle.algebra.specs.cells.CellPlaces.{Stored}
use Rattle.algebra.specs.cells.CellSteps.{Lawful}
use Rattle.algebra.specs.cells.CellPack.{even, part_of, of_part, pack_alt, unpack_alt, times_i, over_i, pack_factors, unpack, PackedIn, FactorVolume}
use Rattle.algebra.proofs.ring.Paths.{pair}
use Rattle.algebra.proofs.ring.Bool.{split}
use Rattle.algebra.proofs.ring.Solver.{ring, quote}
use Rattle.algebra.proofs.ring.GaussRing.{gauss_ring, gauss_star}
use Rattle.algebra.proofs.cells.CellAxis.{neg_zero, neg_pos}
use Rattle.algebra.proofs.cells.CellLines.{line_P2₁, line_4}
use Rattle.algebra.proofs.cells.CellTests.{Positive}
use Rattle.algebra.proofs.ring.Laws.{self_neg}

not_not : (b : Bool) → not (not b) ≡ b
not_not true = refl
not_not false = refl

module _ {K : Type 0} {𝓚 : Ops K} (𝓡 : CRing 𝓚) where
  open 𝓚 use {add as ◌+'◌, mul as ◌*'◌, neg as -'◌, zer as k0, one as k1}
  open gauss 𝓚 use {add as ◌⊕◌, mul as ◌⊗◌, neg as ⊖◌, zer as 𝟘, one as 𝟙}

  infixl 65 ◌⊕◌
  infixl 70 ◌⊗◌
  infix 75 ⊖◌
  infixl 65 ◌+'◌
  infixl 70 ◌*'◌
  infix 75 -'◌
  abbrev V2 : Type 0
  V2 = K × K

  abbrev pub sign_of : Bool → V2
  sign_of true = 𝟙
  sign_of false = ⊖ 𝟙

  pub pow_even : (c : ℕ) → pow (gauss 𝓚) (⊖ 𝟙) c ≡ sign_of (even c)
  unfolding pow even
  pow_even zero = refl
  pow_even (suc c) = ap (λ y. (⊖ 𝟙) ⊗ y) (pow_even c) ∙ step (even c)
    where
      step : (b : Bool) → (⊖ 𝟙) ⊗ sign_of b ≡ sign_of (not b)
      step true = ring (gauss_ring 𝓡) [] (search quote depth 40 fits 9999) refl
      step false = ring (gauss_ring 𝓡) [] (search quote depth 40 fits 9999) refl

  -- i and -i undo each other
  pub over_times : (b : Bool) (v : V2) → over_i 𝓚 b (times_i 𝓚 b v) ≡ v
  unfolding over_i times_i
  over_times true v = refl
  over_times false v = pair refl (ring 𝓡 (v.1 ∷ []) (search quote depth 40 fits 9999) refl)

  pub times_over : (b : Bool) (v : V2) → times_i 𝓚 b (over_i 𝓚 b v) ≡ v
  unfolding over_i times_i
  times_over true v = refl
  times_over false v = pair (ring 𝓡 (v.0 ∷ []) (search quote depth 40 fits 9999) refl) refl

  -- they are the products by i and by -i
  pub imag_times : (v : V2) → imag 𝓚 ⊗ v ≡ times_i 𝓚 false v
  unfolding times_i gauss imag
  imag_times v = pair (ring 𝓡 (v.0 ∷ v.1 ∷ []) (search quote depth 40 fits 9999) refl) (ring 𝓡 (v.0 ∷ v.1 ∷ []) (search quote depth 40 fits 9999) refl)

  pub imag_over : (v : V2) → (⊖ imag 𝓚) ⊗ v ≡ over_i 𝓚 false v
  unfolding over_i gauss imag
  imag_over v = pair (ring 𝓡 (v.0 ∷ v.1 ∷ []) (search quote depth 40 fits 9999) refl) (ring 𝓡 (v.0 ∷ v.1 ∷ []) (search quote depth 40 fits 9999) refl)

  -- an alternating line
  abbrev Alt : ℕ → (ℕ → V2) → Type 0
  Alt c X = (l : ℕ) → l < 2 * c → X (neg_i c l) ≡ pow (gauss 𝓚) (⊖ 𝟙) l ⊗ conj 𝓚 (X l)

  -- where b is the parity of c, what the rule says of X(c)
  at_self : (c : ℕ) (X : ℕ → V2) → Alt c X → (l : ℕ) → l < 2 * c → neg_i c l ≡ l → X l ≡ sign_of (even l) ⊗ conj 𝓚 (X l)
  at_self c X al l h e = ap X (inv e) ∙ al l h ∙ ap (λ y. y ⊗ conj 𝓚 (X l)) (pow_even l)

  -- ---- an alternating line, as the kinds pack it: X(c) is 1 or i times a real value, by the parity of c

  abbrev one_or_i : Bool → V2
  one_or_i b = cond b 𝟙 (imag 𝓚)

  pub unit_is : (half : V2) (c n : ℕ) → unit (gauss 𝓚) (conj 𝓚) (imag 𝓚) half c n ≡ one_or_i (even n)
  unfolding unit even
  unit_is half c zero = refl
  unit_is half c (suc zero) = refl
  unit_is half c (suc (suc n)) = unit_is half c n ∙ ap one_or_i (inv (not_not (even n)))

  pub unit_part : (b : Bool) (t : K) → one_or_i b ⊗ (t, k0) ≡ of_part 𝓚 b t
  unfolding gauss imag
  unit_part true t = pair (ring 𝓡 (t ∷ []) (search quote depth 40 fits 9999) refl) (ring 𝓡 (t ∷ []) (search quote depth 40 fits 9999) refl)
  unit_part false t = pair (ring 𝓡 (t ∷ []) (search quote depth 40 fits 9999) refl) (ring 𝓡 (t ∷ []) (search quote depth 40 fits 9999) refl)

  pack_part : (b : Bool) (x t : K) → (x, k0) ⊕ imag 𝓚 ⊗ (conj 𝓚 (one_or_i b) ⊗ of_part 𝓚 b t) ≡ (x, t)
  unfolding gauss imag conj
  pack_part true x t = pair (ring 𝓡 (x ∷ t ∷ []) (search quote depth 40 fits 9999) refl) (ring 𝓡 (x ∷ t ∷ []) (search quote depth 40 fits 9999) refl)
  pack_part false x t = pair (ring 𝓡 (x ∷ t ∷ []) (search quote depth 40 fits 9999) refl) (ring 𝓡 (x ∷ t ∷ []) (search quote depth 40 fits 9999) refl)

  pub pack_alternating : (half : V2) (c : ℕ) (X : ℕ → V2) → X 0 ≡ ((X 0).0, k0) → X c ≡ of_part 𝓚 (even c) (part_of 𝓚 (even c) (X c))
      → (w : ℕ) → pack_before (gauss 𝓚) (conj 𝓚) (imag 𝓚) half c alternating X w ≡ pack_alt 𝓚 c X w
  unfolding pack_before pack_by pack_alt
  pack_alternating half c X e0 ec zero =
      ap₂ (λ x y. x ⊕ imag 𝓚 ⊗ y) e0 (ap₂ (λ u y. conj 𝓚 u ⊗ y) (unit_is half c c) ec)
      ∙ pack_part (even c) (X 0).0 (part_of 𝓚 (even c) (X c))
  pack_alternating half c X e0 ec (suc w) = refl

  module _ (half : K) (half_two : half *' (k1 +' k1) ≡ k1) where
    pub self_sign : (b : Bool) (v : V2) → v ≡ sign_of b ⊗ conj 𝓚 v → v ≡ of_part 𝓚 b (part_of 𝓚 b v)
    unfolding gauss conj
    self_sign true v e = pair refl (self_neg 𝓡 half half_two v.1 (ap (λ y. y.1) e ∙ ring 𝓡 (v.0 ∷ v.1 ∷ []) (search quote depth 40 fits 9999) refl))
    self_sign false v e = pair (self_neg 𝓡 half half_two v.0 (ap (λ y. y.0) e ∙ ring 𝓡 (v.0 ∷ v.1 ∷ []) (search quote depth 40 fits 9999) refl)) refl

    -- it is real at 0, and at c it has one part alone
    module _ (c : ℕ) (pos : 0 < c) (X : ℕ → V2) (al : Alt c X) where
      pub real_0 : X 0 ≡ ((X 0).0, k0)
      unfolding even
      real_0 = self_sign true (X 0) (at_self c X al 0 (omega arith) (neg_zero c))

      pub part_c : X c ≡ of_part 𝓚 (even c) (part_of 𝓚 (even c) (X c))
      part_c = self_sign (even c) (X c) (at_self c X al c (omega arith) (neg_pos c c pos (omega arith) ∙ omega arith))

    module _ (c : ℕ) (pos : 0 < c) (X S : ℕ → V2) (al : Alt c X) where
      end : (l : ℕ) → suc l ≡ c → unpack_alt 𝓚 c S (suc l) ≡ of_part 𝓚 (even c) (S 0).1
      unfolding unpack_alt
      end l e = split (eqb (suc l) c) (λ b. cond b (of_part 𝓚 (even c) (S 0).1) (S (suc l)) ≡ of_part 𝓚 (even c) (S 0).1) (λ t. refl) (λ t. absurd (T_not (eqb (suc l) c) t (subst (λ y. T (eqb (suc l) y)) e (eqb_refl (suc l)))))

      mid : (l : ℕ) → suc l < c → unpack_alt 𝓚 c S (suc l) ≡ S (suc l)
      unfolding unpack_alt
      mid l h = split (eqb (suc l) c) (λ b. cond b (of_part 𝓚 (even c) (S 0).1) (S (suc l)) ≡ S (suc l)) (λ t. absurd (omega (arith, eqb→eq (suc l) c t))) (λ t. refl)

      zero_pair_lem : unpack_alt 𝓚 c S 0 ≡ ((S 0).0, k0)
      unfolding unpack_alt
      zero_pair_lem = refl

      part_of_part : (b : Bool) (t : K) → part_of 𝓚 b (of_part 𝓚 b t) ≡ t
      part_of_part true t = refl
      part_of_part false t = refl

      down : ((w : ℕ) → w < c → pack_alt 𝓚 c X w ≡ S w) → (l : ℕ) → l < suc c → X l ≡ unpack_alt 𝓚 c S l
      unfolding pack_alt unpack_alt
      down e zero h = real_0 c pos X al ∙ pair (ap (λ y. y.0) (e 0 pos)) refl
      down e (suc l) h = split (eqb (suc l) c) (λ b. X (suc l) ≡ cond b (of_part 𝓚 (even c) (S 0).1) (S (suc l))) (λ t. ap X (eqb→eq (suc l) c t) ∙ part_c c pos X al ∙ ap (λ y. of_part 𝓚 (even c) y.1) (e 0 pos)) (λ t. e (suc l) (less (λ q. T_not (eqb (suc l) c) t (subst (λ y. T (eqb (suc l) y)) q (eqb_refl (suc l))))))
        where
          less : (suc l ≡ c → ⊥) → suc l < c
          less n = omega arith

      up : ((l : ℕ) → l < suc c → X l ≡ unpack_alt 𝓚 c S l) → (w : ℕ) → w < c → pack_alt 𝓚 c X w ≡ S w
      unfolding pack_alt
      up f (suc w) h = f (suc w) (omega arith) ∙ mid w h
      up f zero h = pair (ap (λ y. y.0) (f 0 (omega arith) ∙ zero_pair_lem)) (ap (part_of 𝓚 (even c)) (f c (omega arith) ∙ last c refl) ∙ part_of_part (even c) (S 0).1)
        where
          last : (d : ℕ) → d ≡ c → unpack_alt 𝓚 c S d ≡ of_part 𝓚 (even c) (S 0).1
          last zero e = absurd (omega arith)
          last (suc d) e = end d e

    pub rotated : (b : Bool) (s v : V2) → times_i 𝓚 b (sign_of b ⊗ (s ⊗ conj 𝓚 v)) ≡ s ⊗ conj 𝓚 (times_i 𝓚 b v)
    unfolding times_i gauss conj
    rotated true s v = pair (ring 𝓡 (s.0 ∷ s.1 ∷ v.0 ∷ v.1 ∷ []) (search quote depth 40 fits 9999) refl) (ring 𝓡 (s.0 ∷ s.1 ∷ v.0 ∷ v.1 ∷ []) (search quote depth 40 fits 9999) refl)
    rotated false s v = pair (ring 𝓡 (s.0 ∷ s.1 ∷ v.0 ∷ v.1 ∷ []) (search quote depth 40 fits 9999) refl) (ring 𝓡 (s.0 ∷ s.1 ∷ v.0 ∷ v.1 ∷ []) (search quote depth 40 fits 9999) refl)

    pub rotated_back : (b : Bool) (s v : V2) → over_i 𝓚 b (s ⊗ conj 𝓚 v) ≡ sign_of b ⊗ (s ⊗ conj 𝓚 (over_i 𝓚 b v))
    rotated_back b s v = ap (λ y. over_i 𝓚 b (s ⊗ conj 𝓚 y)) (inv (times_over b v)) ∙ ap (over_i 𝓚 b) (inv (rotated b s (over_i 𝓚 b v))) ∙ over_times b _

    -- the packed factors of a cell of the group
    module _ (a : J) (long : Positive a) where
      abbrev Holds : Group → Cell (K × K) → FactorVolume K → Type 0
      Holds g F B = (j : J) → Inside a j → Stored g a j → at F j ≡ unpack 𝓚 g a B j

      low : (k : ℕ) → k ≤ a.1 → k < 2 * a.1
      low k h = omega (arith, long.1)

      pub alt_1 : (F : Cell (K × K)) → Lawful (gauss 𝓚) (conj 𝓚) a P2₁ F → (h k : ℕ) → h < 2 * a.0 → k < 2 * a.1 → Alt a.2 (λ l. F h k l)
      alt_1 F o h k ha kb l lc = line_P2₁ (gauss_ring 𝓡) (gauss_star 𝓡) a F o h k l ha kb lc

      pub alt_4 : (F : Cell (K × K)) → Lawful (gauss 𝓚) (conj 𝓚) a P2₁2₁2₁ F → (h k : ℕ) → h < 2 * a.0 → k < 2 * a.1 → Alt a.2 (λ l. times_i 𝓚 (even h) (F h k l))
      alt_4 F o h k ha kb l lc = ap (times_i 𝓚 (even h)) (line_4 (gauss_ring 𝓡) (gauss_star 𝓡) a F o h k l ha kb lc ∙ ap (λ y. y ⊗ (pow (gauss 𝓚) (⊖ 𝟙) l ⊗ conj 𝓚 (F h k l))) (pow_even h)) ∙ rotated (even h) (pow (gauss 𝓚) (⊖ 𝟙) l) (F h k l)

      pub pack_iff : (g : Group) (F : Cell (K × K)) (B : FactorVolume K) → Lawful (gauss 𝓚) (conj 𝓚) a g F → PackedIn 𝓚 g a F B ↔ Holds g F B
      unfolding pack_factors unpack span planes
      pack_iff P1 F B o = (λ e j n s. e j.2 j.0 j.1 s.1 n.0 s.0, λ f w h k wc ha kb. f (h, k, w) (ha, low k kb, wc) (kb, wc))
      pack_iff P2₁ F B o = (
        λ e j n s. down a.2 long.2 (λ l. F j.0 j.1 l) (λ w. B w j.0 j.1) (alt_1 F o j.0 j.1 n.0 (low j.1 s.0)) (λ w wc. e w j.0 j.1 wc n.0 s.0) j.2 s.1,
        λ f w h k wc ha kb. up a.2 long.2 (λ l. F h k l) (λ w. B w h k) (alt_1 F o h k ha (low k kb)) (λ l lc. f (h, k, l) (ha, low k kb, omega (arith, long.2)) (kb, lc)) w wc,
      )
      pack_iff Pm F B o = (λ e j n s. e j.2 j.0 j.1 s.1 n.0 s.0, λ f w h k wc ha kb. f (h, k, w) (ha, low k kb, omega (arith, long.2)) (kb, wc))
      pack_iff Pa F B o = (λ e j n s. e j.2 j.0 j.1 s.1 n.0 s.0, λ f w h k wc ha kb. f (h, k, w) (ha, low k kb, omega (arith, long.2)) (kb, wc))
      pack_iff P2₁2₁2₁ F B o = (
        λ e j n s. inv (over_times (even j.0) _) ∙ ap (over_i 𝓚 (even j.0)) (down a.2 long.2 (λ l. times_i 𝓚 (even j.0) (F j.0 j.1 l)) (λ w. B w j.0 j.1) (alt_4 F o j.0 j.1 n.0 (low j.1 s.0)) (λ w wc. e w j.0 j.1 wc n.0 s.0) j.2 s.1),
        λ f w h k wc ha kb. up a.2 long.2 (λ l. times_i 𝓚 (even h) (F h k l)) (λ w. B w h k) (alt_4 F o h k ha (low k kb)) (λ l lc. ap (times_i 𝓚 (even h)) (f (h, k, l) (ha, low k kb, omega (arith, long.2)) (kb, lc)) ∙ times_over (even h) _) w wc,
      )
