-- The loops over the places q A + s of a step, where s is the transform's 𝐚: a turn fills the B places (q B + c) A + s, and W^k is e(s/AB).
-- Together these are all places, so that nothing need be said of what stood there before.
use mathlib.Core.Path.{◌≡◌, refl, sym, ◌∙◌, ap, subst}
use mathlib.Core.Logic.{⊎_elim}
use mathlib.Core.List.{List}
use Prim.Native.Nat.{ℕ, ◌+◌, ◌*◌, ◌/◌, ◌%◌, ◌≤◌, ◌<◌}
use native.Mathlib.Nat.{mul-le-mul_left, div-le_self}
use native.Mathlib.Omega.{arith}
use lib.ListN.{length}
use Rattle.numbers.specs.declared.Pair.{Pair}
use Rattle.numbers.specs.Value.{Value, field, pair_of}
use Rattle.numbers.proofs.Values.{field_ring}
use Rattle.slices.specs.Pairs.{at, tab, values_of}
use Rattle.slices.proofs.Pairs.{eq_or_ne, length_puts, at_puts, at_puts_other, is_tab}
use Rattle.slices.proofs.Rows.{row_end, row_inj, row_split, block_inj, block_end}
use Rattle.butterflies.specs.Equation3.{factor, outer}
use Rattle.butterflies.specs.Butterflies.{read_at, FactorsOf, spread, outer_sums, Reads, Stores}
use Rattle.butterflies.specs.declared.twiddle.Places.{Places}
use Rattle.plain.specs.Plain.{stepped, Splits}
use Rattle.plain.proofs.step.Sizes.{stride_le, outer_share, twiddle_exponent}
use Rattle.plain.proofs.step.Passes.{outer_place}

-- what the step makes of the list x
abbrev result : (m : ℕ) (W : Value m) (x : List ℕ) (A B M : ℕ) → ℕ → Pair
result m W x A B M j = pair_of (stepped (field m) W A B M (values_of m x) j)

-- the turns before place `first` are done
pub record Passing (m : ℕ) (W : Value m) (x : List ℕ) (A B M first : ℕ) (d : List ℕ) : Type 0 where
  pub long : length d ≡ 2 * (A * B * M)
  pub done : (i c t : ℕ) → i * A + t < first → t < A → c < B → at d ((i * B + c) * A + t) ≡ result m W x A B M ((i * B + c) * A + t)

module _ {m : ℕ} {W : Value m} {x : List ℕ} {A B M : ℕ} where
  pub passing_start : {d : List ℕ} → length d ≡ 2 * (A * B * M) → Passing m W x A B M 0 d
  passing_start e = record { long = e; done = λ i c t l. absurd (omega arith) }

  pub passing_done : {first : ℕ} {d : List ℕ} → Passing m W x A B M first d → M * A ≤ first → d ≡ tab (A * B * M) (result m W x A B M)
  passing_done {d = d} h l = is_tab (A * B * M) d (result m W x A B M) h.long (λ j lj.
      let row = row_split (M * B) {m = A} {p = j} (omega arith) in
      let line = row_split M {m = B} {p = j / A} row.0 in
      subst (λ y. at d y ≡ result m W x A B M y) (ap (λ y. y * A + j % A) line.2 ∙ row.2)
      (h.done (j / A / B) (j / A % B) (j % A) (omega (arith, row_end A line.0, row.1)) row.1 line.1))

-- ---- a turn

-- its places
abbrev turn : (A B M q s : ℕ) → Places
turn A B M q s = record { first = q * A + s; stride = M * A; k = 2880 / (A * B) * s; base = q * (A * B) + s; gap = A }

module _ {A B M q s : ℕ} (line : q < M) (col : s < A) where
  module _ (w : Splits A B M) where
    -- the numbers of a turn stay small
    pub turn_first : q * A + s < 2880
    turn_first = omega (arith, row_end A line, col, stride_le w)

    pub turn_exponent : 2880 / (A * B) * s ≤ 2880
    turn_exponent = omega (arith, row_end (2880 / (A * B)) col, outer_share w, div-le_self 2880 B)

    pub turn_reads : {x : List ℕ} → length x ≡ 2 * (A * B * M) → Reads B (turn A B M q s) x
    turn_reads e = record {
      inside = λ b hb. omega (arith, row_end A line, row_end (M * A) hb);
      exponents = λ b hb. omega (arith, mul-le-mul_left (b * (2880 / (A * B))) (lt_le col), twiddle_exponent w hb);
    }
      where
        lt_le : {i n : ℕ} → i < n → i ≤ n
        lt_le lt = omega arith

  pub turn_stores : {d : List ℕ} → length d ≡ 2 * (A * B * M) → Stores B (turn A B M q s) d
  turn_stores e = record { inside = omega (arith, e, col, row_end (B * A) line) }

  module _ {m : ℕ} {W : Value m} {x d d' : List ℕ} (h : Passing m W x A B M (q * A + s) d)
      (sums : (A₁ 𝐚 : ℕ) → FactorsOf A₁ B 𝐚 (turn A B M q s) → d' ≡ outer_sums m W A₁ B 𝐚 (turn A B M q s) x d) where
    abbrev f : ℕ → Pair
    f = result m W x A B M

    abbrev g : ℕ → Pair
    g c = pair_of (outer (field m) W B (λ b. factor (field m) W A B b s (read_at m (turn A B M q s) x b)) c)

    stores : d' ≡ spread (turn A B M q s) g B d
    unfolding outer_sums
    stores = sums A s refl

    sum_is : (c : ℕ) → c < B → g c ≡ f ((q * B + c) * A + s)
    sum_is c hc = ap pair_of (outer_place (field_ring m) W A B M (values_of m x) q col refl hc)

    place : (c : ℕ) → q * (A * B) + s + c * A ≡ (q * B + c) * A + s
    place c = omega arith

    stored : (c : ℕ) → c < B → at d' ((q * B + c) * A + s) ≡ f ((q * B + c) * A + s)
    stored c hc =
        subst (λ j. at d' j ≡ f ((q * B + c) * A + s)) (place c)
        (ap (λ y. at y (q * (A * B) + s + c * A)) stores
        ∙ at_puts (λ c. q * (A * B) + s + c * A) g B c d hc (omega (arith, place c, h.long, block_end {t = M} line hc col)) (λ i li ln e. omega (arith, row_end A li, col))
        ∙ sum_is c hc)

    kept : (i c t : ℕ) → i * A + t < q * A + s → t < A → c < B → at d' ((i * B + c) * A + t) ≡ f ((i * B + c) * A + t)
    kept i c t lt ht hc =
        ap (λ y. at y ((i * B + c) * A + t)) stores
        ∙ at_puts_other (λ c. q * (A * B) + s + c * A) g B ((i * B + c) * A + t) d (λ j hj e.
        let same = block_inj q i hj hc col ht (sym (place j) ∙ e) in
        omega (arith, ap (λ y. y * A) same.0, same.2))
        ∙ h.done i c t lt ht hc

    more : (i c t : ℕ) → i * A + t < q * A + (s + 1) → t < A → c < B → at d' ((i * B + c) * A + t) ≡ f ((i * B + c) * A + t)
    more i c t lt ht hc = ⊎_elim
        (λ e. let same = row_inj i q ht col e in
        subst (λ j. at d' ((j * B + c) * A + t) ≡ f ((j * B + c) * A + t)) (sym same.0) (subst (λ j. at d' ((q * B + c) * A + j) ≡ f ((q * B + c) * A + j)) (sym same.1) (stored c hc)))
        (λ n. kept i c t (omega arith) ht hc)
        (eq_or_ne (i * A + t) (q * A + s))

    pub passing_next : Passing m W x A B M (q * A + (s + 1)) d'
    passing_next = record { long = ap length stores ∙ length_puts (λ c. q * (A * B) + s + c * A) g B d ∙ h.long; done = more }
