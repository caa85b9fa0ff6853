-- The kinds of the lines along l: by their numbers, and which group has lines of which kind.
use mathlib.Core.Path.{◌≡◌, refl, sym, ◌∙◌, ap}
use mathlib.Core.Bool.{Bool, true, false, cond}
use Prim.Native.Nat.{ℕ, zero, suc, ◌+◌, ◌*◌, ◌<◌, ◌≤◌}
use native.Mathlib.Omega.{arith}
use lib.Dec.{T, ltb}
use Rattle.algebra.specs.lines.Kinds.{Kind, Kind.plain, Kind.hermitian, Kind.antihermitian, Kind.alternating, Kind.symmetric, Kind.antisymmetric}
use Rattle.algebra.specs.cells.Cell.{Group, P1, P2₁, Pm, Pa, P2₁2₁2₁, planes, span}
use Rattle.algebra.specs.cells.CellPack.{even}
use Rattle.lengths.specs.Lengths.{kind_of}
use Rattle.cell.specs.Volume.{line_kind, first_pair}

-- ---- kinds by their numbers

abbrev number_of : Kind → ℕ
number_of plain = 0
number_of hermitian = 1
number_of antihermitian = 2
number_of alternating = 3
number_of symmetric = 4
number_of antisymmetric = 5

number_kind : (n : ℕ) → n < 6 → number_of (kind_of n) ≡ n
number_kind zero l = refl
number_kind (suc zero) l = refl
number_kind (suc (suc zero)) l = refl
number_kind (suc (suc (suc zero))) l = refl
number_kind (suc (suc (suc (suc zero)))) l = refl
number_kind (suc (suc (suc (suc (suc zero))))) l = refl
number_kind (suc (suc (suc (suc (suc (suc n)))))) l = absurd (omega arith)

-- n is the number of the kind K: it is that of another kind, or it is not
module _ {n : ℕ} {K : Kind} (e : kind_of n ≡ K) where
  pub is_kind : {q : ℕ} → n ≡ q → K ≡ kind_of q
  is_kind z = sym e ∙ ap kind_of z

  pub other_kind : {L : Kind} → n < 6 → (n ≡ number_of L → ⊥) → K ≡ L → ⊥
  other_kind l z q = z (sym (number_kind n l) ∙ ap number_of (e ∙ q))

-- ---- which group has lines of a kind

-- a symmetric or antisymmetric line is no other
mirror_not : {L : Kind} → (number_of L < 4) → (b : Bool) → cond b symmetric antisymmetric ≡ L → ⊥
mirror_not l true e = omega (arith, ap number_of e)
mirror_not l false e = omega (arith, ap number_of e)

pub plain_group : (P : Group → Type 0) → P P1 → (g : Group) (h : ℕ) → line_kind g h ≡ plain → P g
plain_group P x P1 h e = x
plain_group P x P2₁ h e = absurd (omega (arith, ap number_of e))
plain_group P x Pm h e = absurd (omega (arith, ap number_of e))
plain_group P x Pa h e = absurd (mirror_not (omega arith) (even h) e)
plain_group P x P2₁2₁2₁ h e = absurd (omega (arith, ap number_of e))

pub by_alternating : (P : Group → Type 0) → P P2₁ → P P2₁2₁2₁ → (g : Group) (h : ℕ) → line_kind g h ≡ alternating → P g
by_alternating P x y P1 h e = absurd (omega (arith, ap number_of e))
by_alternating P x y P2₁ h e = x
by_alternating P x y Pm h e = absurd (omega (arith, ap number_of e))
by_alternating P x y Pa h e = absurd (mirror_not (omega arith) (even h) e)
by_alternating P x y P2₁2₁2₁ h e = y

pub by_other : (P : Group → Type 0) → P P1 → P Pm → P Pa → (g : Group) (h : ℕ) → (line_kind g h ≡ alternating → ⊥) → P g
by_other P x y z P1 h e = x
by_other P x y z P2₁ h e = absurd (e refl)
by_other P x y z Pm h e = y
by_other P x y z Pa h e = z
by_other P x y z P2₁2₁2₁ h e = absurd (e refl)

-- only antisymmetric lines leave their ends out, and only Pa has such lines
pub ends_left_out : (K : Kind) → (T (ltb 0 (first_pair K)) → K ≡ antisymmetric) × (K ≡ antisymmetric → T (ltb 0 (first_pair K)))
ends_left_out plain = (λ t. absurd t, λ e. absurd (omega (arith, ap first_pair e)))
ends_left_out hermitian = (λ t. absurd t, λ e. absurd (omega (arith, ap first_pair e)))
ends_left_out antihermitian = (λ t. absurd t, λ e. absurd (omega (arith, ap first_pair e)))
ends_left_out alternating = (λ t. absurd t, λ e. absurd (omega (arith, ap first_pair e)))
ends_left_out symmetric = (λ t. absurd t, λ e. absurd (omega (arith, ap first_pair e)))
ends_left_out antisymmetric = (λ t. refl, λ e. tt)

pub odd_antisymmetric : (g : Group) (h i : ℕ) → line_kind g h ≡ antisymmetric → even i ≡ false → line_kind g i ≡ antisymmetric
odd_antisymmetric P1 h i e o = absurd (omega (arith, ap number_of e))
odd_antisymmetric P2₁ h i e o = absurd (omega (arith, ap number_of e))
odd_antisymmetric Pm h i e o = absurd (omega (arith, ap number_of e))
odd_antisymmetric Pa h i e o = ap (λ b. cond b symmetric antisymmetric) o
odd_antisymmetric P2₁2₁2₁ h i e o = absurd (omega (arith, ap number_of e))

pub even_other : (g : Group) (h : ℕ) → even h ≡ true → line_kind g h ≡ antisymmetric → ⊥
even_other P1 h o e = omega (arith, ap number_of e)
even_other P2₁ h o e = omega (arith, ap number_of e)
even_other Pm h o e = omega (arith, ap number_of e)
even_other Pa h o e = omega (arith, ap number_of (ap (λ b. cond b symmetric antisymmetric) (sym o) ∙ e))
even_other P2₁2₁2₁ h o e = omega (arith, ap number_of e)

-- ---- the stored planes and the stored factors along l

pub plain_layers : (g : Group) (h c : ℕ) → line_kind g h ≡ plain → c * 2 ≡ planes g c
unfolding planes
plain_layers g h c = plain_group (λ g. c * 2 ≡ planes g c) (omega arith) g h

pub alternating_layers : (g : Group) (h c : ℕ) → line_kind g h ≡ alternating → c ≡ planes g c
unfolding planes
alternating_layers g h c = by_alternating (λ g. c ≡ planes g c) refl refl g h

pub mirrored_layers : (g : Group) (h c : ℕ) → (line_kind g h ≡ plain → ⊥) → (line_kind g h ≡ alternating → ⊥) → c + 1 ≡ planes g c
unfolding planes
mirrored_layers g h c y z = by_other (λ g. (line_kind g h ≡ plain → ⊥) → c + 1 ≡ planes g c) (λ y. absurd (y refl)) (λ y. omega arith) (λ y. omega arith) g h z y

pub antisymmetric_layers : (g : Group) (h c : ℕ) → line_kind g h ≡ antisymmetric → c + 1 ≡ planes g c
antisymmetric_layers g h c e = mirrored_layers g h c (λ z. omega (arith, ap number_of (sym e ∙ z))) (λ z. omega (arith, ap number_of (sym e ∙ z)))

pub stored_layer : (g : Group) (h c l : ℕ) → (line_kind g h ≡ alternating → ⊥) → l < span g c → l < planes g c
unfolding planes span
stored_layer g h c l = by_other (λ g. l < span g c → l < planes g c) (λ s. s) (λ s. s) (λ s. s) g h

pub alternating_half : (g : Group) (h : ℕ) {c l : ℕ} → line_kind g h ≡ alternating → l < span g c → l ≤ c
unfolding span
alternating_half g h {c} {l} = by_alternating (λ g. l < span g c → l ≤ c) (λ s. omega arith) (λ s. omega arith) g h
