-- The place of an orbit, as the code finds it: the place of one index, the lower of two, and the least so far.
use mathlib.Core.Path.{◌≡◌, refl, sym, ◌∙◌, ap}
use mathlib.Core.Bool.{Bool, true, false}
use mathlib.Core.List.{List}
use Prim.Native.Nat.{ℕ, ◌+◌, ◌*◌, ◌<◌, ◌≤◌}
use native.Mathlib.Omega.{arith}
use lib.Dec.{eqb}
use lib.ListN.{length, get_or, drop}
use borrow.Author.Tests.{lt-ltb, le-ltb}
use Rattle.algebra.specs.lines.Kinds.{Kind, Kind.plain, Kind.hermitian, Kind.antihermitian, Kind.alternating, Kind.symmetric, Kind.antisymmetric}
use Rattle.algebra.specs.cells.Cell.{J, Sym, one, Group, P1, P2₁, Pm, Pa, P2₁2₁2₁, planes, image_of, stored_t}
use Rattle.cell.specs.Volume.{line_kind, pair_place, volume_length}
use Rattle.cell.specs.OrbitPlace.{place_in_line, number_place, lower, least_place}
use Rattle.cell.proofs.Scans.{rest_opens, rest_ends}

-- the length of a volume, as the place of the pair behind its last one
pub layers_few : (g : Group) (c : ℕ) → 1 ≤ c → c ≤ 1440 → planes g c ≤ 2880
unfolding planes
layers_few P1 c l h = omega arith
layers_few P2₁ c l h = omega arith
layers_few Pm c l h = omega arith
layers_few Pa c l h = omega arith
layers_few P2₁2₁2₁ c l h = omega arith

pub place_behind : (g : Group) (a : J) {w q : ℕ} → w ≡ planes g a.2 → q ≡ pair_place g a w 0 0 → 2 * q ≡ volume_length g a
place_behind g a {w} {q} e f = ap (λ q. 2 * q) (f ∙ ap (λ w. pair_place g a w 0 0) e) ∙ omega arith

module _ (g : Group) (a j : J) {q : ℕ} where
  pub last_place : line_kind g j.0 ≡ alternating → eqb j.2 a.2 ≡ true → q ≡ pair_place g a 0 j.0 j.1 → 2 * q + 1 ≡ number_place g a j
  unfolding number_place
  last_place k l e = rw (k, l) (ap (λ q. 2 * q + 1) e)

  pub own_place : (line_kind g j.0 ≡ alternating → eqb j.2 a.2 ≡ false) → q ≡ pair_place g a j.2 j.0 j.1 → 2 * q ≡ number_place g a j
  unfolding number_place
  own_place f e = ap (λ q. 2 * q) e ∙ by (line_kind g j.0) f
    where
      by : (K : Kind) → (K ≡ alternating → eqb j.2 a.2 ≡ false) → 2 * pair_place g a j.2 j.0 j.1 ≡ place_in_line g a K j.0 j.1 j.2
      by plain f = refl
      by hermitian f = refl
      by antihermitian f = refl
      by alternating f = rw (f refl) refl
      by symmetric f = refl
      by antisymmetric f = refl

module _ (g : Group) (a i : J) (place : ℕ) {t : Bool} (e : t ≡ stored_t g a i) where
  pub not_stored : t ≡ false → place ≡ lower g a i place
  unfolding lower
  not_stored f = rw (sym e ∙ f) refl

  pub own_lower : t ≡ true → {q : ℕ} → q ≡ number_place g a i → q < place → q ≡ lower g a i place
  unfolding lower
  own_lower f p l = rw (sym e ∙ f, lt-ltb (number_place g a i) place (rw p at l)) p

  pub other_lower : t ≡ true → {q : ℕ} → q ≡ number_place g a i → place ≤ q → place ≡ lower g a i place
  unfolding lower
  other_lower f p l = rw (sym e ∙ f, le-ltb (number_place g a i) place (rw p at l)) refl

-- a loop over the operations: in its turn n the images of the rest are still to come
module _ (g : Group) (a j : J) (l : List Sym) {count : ℕ} (size : count ≡ length l) (n place : ℕ) {r : ℕ} (done : r ≡ least_place g a (drop n l) j place) where
  pub least_next : {s : Sym} {i : J} {q : ℕ} → n < count → s ≡ get_or l n one → i ≡ image_of a s j → q ≡ lower g a i place → r ≡ least_place g a (drop (n + 1) l) j q
  unfolding least_place
  least_next b e f h = done ∙ ap (λ k. least_place g a k j place) (rest_opens l size n one b) ∙ ap (least_place g a (drop (n + 1) l) j) (sym (h ∙ ap (λ i. lower g a i place) (f ∙ ap (λ s. image_of a s j) e)))

  pub least_end : count ≤ n → place ≡ r
  unfolding least_place
  least_end b = sym (done ∙ ap (λ k. least_place g a k j place) (rest_ends l size n b))
