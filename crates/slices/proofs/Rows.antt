-- Places in rows: row r of n rows of m places has the places r m, r m + 1, ..
use mathlib.Core.Path.{◌≡◌, sym, ap, ◌∙◌, subst}
use mathlib.Core.Logic.{⊎_elim}
use Prim.Native.Nat.{ℕ, ◌+◌, ◌*◌, ◌/◌, ◌%◌, ◌<◌, ◌≤◌}
use native.Mathlib.Nat.{suc-mul, mul-le-mul_right, mul-le-mul_left, mul-one, add-zero, mul-add-div_right, mul-add-mod_self_right, div-eq_of_lt, mod-eq_of_lt, mul-zero, eq-zero-or-pos, div-add-mod', div-lt_iff_lt-mul, mod-lt}
use native.Mathlib.Omega.{arith}

-- row j of n rows of m ends within n * m: what omega needs for each level of nesting
pub row_end : {j n : ℕ} (m : ℕ) → j < n → j * m + m ≤ n * m
row_end {j} {n} m l = subst (λ (k : ℕ). k ≤ n * m) (omega (arith, suc-mul j m)) (mul-le-mul_right m l)

-- n rows are no more places than n rows of m places, where m is not 0
pub rows_wide : (n : ℕ) {m : ℕ} → 0 < m → n ≤ n * m
rows_wide n {m} h = omega (arith, mul-le-mul_left n h, mul-one n)

-- a place tells its row and its column
pub row_col : {m s : ℕ} (r : ℕ) → s < m → ((r * m + s) / m ≡ r) × ((r * m + s) % m ≡ s)
row_col {m} {s} r h = (mul-add-div_right (omega arith) r s ∙ ap (λ (k : ℕ). r + k) (div-eq_of_lt h) ∙ add-zero r, mul-add-mod_self_right r m s ∙ mod-eq_of_lt h)

pub row_inj : {m : ℕ} (r q : ℕ) {s t : ℕ} → s < m → t < m → r * m + s ≡ q * m + t → (r ≡ q) × (s ≡ t)
row_inj {m} r q hs ht e = (
  sym (row_col r hs).0 ∙ ap (λ (x : ℕ). x / m) e ∙ (row_col q ht).0,
  sym (row_col r hs).1 ∙ ap (λ (x : ℕ). x % m) e ∙ (row_col q ht).1,
)

-- a place below n * m has its row below n and its column below m
pub row_split : (n : ℕ) {m p : ℕ} → p < n * m → (p / m < n) × (p % m < m) × (p / m * m + p % m ≡ p)
row_split n {m} {p} h = ((div-lt_iff_lt-mul wide).1 h, mod-lt p wide, div-add-mod' p m)
  where
    wide : 0 < m
    wide = ⊎_elim (λ (e : m ≡ 0). absurd (omega (arith, ap (λ (k : ℕ). n * k) e, mul-zero n))) (λ (l : 0 < m). l) (eq-zero-or-pos m)

-- places in blocks of n rows of k: block a, row b, column c
pub block_inj : {n k : ℕ} (a a' : ℕ) {b b' c c' : ℕ} → b < n → b' < n → c < k → c' < k → (a * n + b) * k + c ≡ (a' * n + b') * k + c' → (a ≡ a') × (b ≡ b') × (c ≡ c')
block_inj {n} {k} a a' {b} {b'} hb hb' hc hc' e =
    let outer = row_inj (a * n + b) (a' * n + b') hc hc' e in
    let inner = row_inj a a' hb hb' outer.0 in
    (inner.0, inner.1, outer.1)

pub block_end : {t n k a b c : ℕ} → a < t → b < n → c < k → (a * n + b) * k + c < t * n * k
block_end {t} {n} {k} {a} {b} ha hb hc =
    let row : a * n + b < t * n = omega (arith, row_end n ha) in
    omega (arith, row_end k row)

-- the same place, as a start and a number of strides
pub strided_block : (a n k c j : ℕ) → a * (n * k) + c + j * k ≡ (a * n + j) * k + c
strided_block a n k c j = omega arith
