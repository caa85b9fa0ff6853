-- The powers of a table's root that butterflies use: the half turn, the quarter turn, and conjugate pairs.
use mathlib.Core.Path.{◌≡◌, refl, sym, ◌∙◌, ap, subst}
use mathlib.Core.Logic.{⊎_elim}
use mathlib.Core.List.{List, [], ◌∷◌}
use Prim.Native.Nat.{ℕ, ◌+◌, ◌-◌, ◌≤◌, ◌<◌}
use native.Mathlib.Omega.{arith}
use lib.Dec.{lit<}
use Rattle.algebra.specs.ring.Ring.{Ops, pow, residues, gauss, imag}
use Rattle.algebra.specs.ring.Ring as Gauss
use Rattle.algebra.proofs.ring.Laws.{mul_neg, pow_add}
use Rattle.algebra.proofs.ring.Solver.{ring, linear, quote}
use Rattle.algebra.proofs.fourier.Transform.{pow_across}
use Rattle.algebra.proofs.ring.ResidueRing.{residue_neg}
use Rattle.algebra.proofs.ring.Conj.{conj_pow}
use Rattle.numbers.specs.declared.Pair.{Pair}
use Rattle.numbers.specs.Value.{prime, IsModulus, Value, Residue, field, conj, i, real, value_of, pair_of}
use Rattle.numbers.specs.Bounds.{res, Small}
use Rattle.numbers.specs.Value as Value
use Rattle.roots.specs.Table.{entry_at, table_root, RootTable}
use Rattle.numbers.proofs.Primes.{prime_least, prime_most}
use Rattle.numbers.proofs.Residues.{val_res}
use Rattle.numbers.proofs.RealValues.{real_neg, parts_value}
use Rattle.numbers.proofs.Values.{field_ring, field_star, small_pair, value_pair}

-- the conjugate by its parts
conj_parts : (m : ℕ) (x y : Residue m) → conj m (x, y) ≡ (field m).add (real m x) ((field m).neg ((field m).mul (i m) (real m y)))
unfolding Gauss.conj
conj_parts m x y = sym (parts_value m x ((Value.ring m).neg y)) ∙ ap (λ z. (field m).add (real m x) ((field m).mul (i m) z)) (real_neg m y) ∙ ap ((field m).add (real m x)) (mul_neg (field_ring m) (i m) (real m y))

-- -i is not i
minus_one : (m : ℕ) → ((field m).neg (i m)).1.val ≡ 1 → ⊥
unfolding gauss imag residues
minus_one m e =
    let more : 1 < prime m = omega (arith, prime_least m) in
    let is : prime m - 1 ≡ 1 = sym (val_res m (omega arith)) ∙ ap (λ r. r.val) (residue_neg (prime m) 1 more) ∙ e in
    omega (arith, prime_least m)

module _ {m : ℕ} {re im : List ℕ} (h : RootTable m re im) where
  abbrev W : Value m
  W = table_root m re im

  square : (z : Value m) → z ≡ (field m).neg (i m) → (field m).mul z z ≡ (field m).neg (field m).one
  square z e = ap (λ y. (field m).mul y y) e ∙ step (i m) (field_star m).i_square
    where
      step : (x : Value m) → (field m).mul x x ≡ (field m).neg (field m).one → (field m).mul ((field m).neg x) ((field m).neg x) ≡ (field m).neg (field m).one
      step x s = linear (field_ring m) s (field m).one (ring (field_ring m) (x ∷ []) (search quote depth 40 fits 9999) refl)

  pub half_turn : pow (field m) W 1440 ≡ (field m).neg (field m).one
  half_turn =
      pow_add (field_ring m) W 720 720
      ∙ ⊎_elim (λ e. ap (λ y. (field m).mul y y) e ∙ (field_star m).i_square) (λ e. square (pow (field m) W 720) e) h.quarter

  -- which quarter turn it is, by the table
  pub quarter_is : {r : Pair} → r ≡ entry_at re im 720 → r.im ≡ 1 → pow (field m) W 720 ≡ i m
  unfolding pair_of
  quarter_is {r} e one = ⊎_elim (λ q. q) (λ q. absurd (minus_one m (ap (λ z. z.1.val) (sym q) ∙ sym (ap (λ (v : Pair). v.im) (e ∙ h.entry 720 (lit< tt))) ∙ one))) h.quarter

  pub quarter_other : {r : Pair} → r ≡ entry_at re im 720 → (r.im ≡ 1 → ⊥) → pow (field m) W 720 ≡ (field m).neg (i m)
  unfolding pair_of imag residues
  quarter_other {r} e other = ⊎_elim
      (λ q. absurd (other (ap (λ (v : Pair). v.im) (e ∙ h.entry 720 (lit< tt) ∙ ap pair_of q) ∙ val_res m {x = 1} (omega (arith, prime_least m)))))
      (λ q. q) h.quarter

  -- a power by the parts that the tables hold, and that of its mate
  module _ {k : ℕ} (l : k < 2880) {r : Pair} (e : r ≡ entry_at re im k) where
    pub root_small : Small (prime m) r
    root_small = subst (Small (prime m)) (sym (e ∙ h.entry k l)) (small_pair m _)

    pub root_value : value_of m r ≡ pow (field m) W k
    root_value = ap (value_of m) (e ∙ h.entry k l) ∙ value_pair m _

    pub root_most : IsModulus m → (r.re ≤ 302399) × (r.im ≤ 302399)
    root_most is = let s = root_small in (omega (arith, prime_most is, s.re), omega (arith, prime_most is, s.im))

    pub power_parts : pow (field m) W k ≡ (field m).add (real m (res m r.re)) ((field m).mul (i m) (real m (res m r.im)))
    unfolding value_of
    power_parts = sym (root_value) ∙ sym (parts_value m (res m r.re) (res m r.im))

    pub mate_parts : (j : ℕ) → j + k ≡ 2880 → pow (field m) W j ≡ (field m).add (real m (res m r.re)) ((field m).neg ((field m).mul (i m) (real m (res m r.im))))
    unfolding value_of
    mate_parts j whole =
        pow_across (field_ring m) W (conj m W) 2880 h.circle h.cycle j k 1 whole
        ∙ sym (conj_pow (field_ring m) (field_star m) W k) ∙ ap (conj m) (sym (root_value)) ∙ conj_parts m (res m r.re) (res m r.im)
