-- What may be relied on of accepted calls: how the correlation moves with one count, and what it is of a map with
-- itself at no shift.
use Rattle.std.specs.Prelude.{◌⊎◌, ◌≡◌, ◌+◌, ◌*◌, ◌<◌, ◌≤◌, ◌+ℤ◌, ◌*ℤ◌}
use Rattle.algebra.specs.Prelude.{ℕ, List, length}
use Rattle.algebra.specs.cells.Cell.{J, Inside, P1}
use Rattle.signed.specs.Integers.{ℤ, nat_abs}
use Rattle.header.specs.Header.{Header, half_lengths}
use Rattle.combined.specs.CombinedMap.{count_of, SamePoints}
use Rattle.output.specs.Output.{Filled.written}
use Rattle.correlation.specs.Correlation.{shifted_by, total_of, largest, Buffers, correlation_step}

-- a' is a but for the point u, whose count is more by d; what the maps have at the rows' ends does not matter
pub record OneCount (h : J) (a a' : List ℤ) (u : J) (d : ℤ) : Type 0 where
  pub changed : count_of P1 h a' u ≡ count_of P1 h a u +ℤ d
  pub others : (x : J) → Inside h x → (x ≡ u → ⊥) → count_of P1 h a' x ≡ count_of P1 h a x

-- the value at s moves by exactly d × b(u + s), so by no more than |d| times the largest magnitude in b
pub record Moved (h : J) (b : List ℤ) (u : J) (d : ℤ) (s : J) (before after : ℤ) : Type 0 where
  pub exactly : after ≡ before +ℤ d *ℤ count_of P1 h b (shifted_by h u s)
  pub most : nat_abs (d *ℤ count_of P1 h b (shifted_by h u s)) ≤ nat_abs d * largest h b

-- two calls of one cell that are both accepted, with any factor lists and any buffers
abbrev pub Sensitive : Type 0
Sensitive =
    (c c' : Header) → c.lengths ≡ c'.lengths →
    (a a' b : List ℤ) (w w' : Buffers) (n n' : ℕ) (u : J) (d : ℤ) →
    let h = half_lengths c.lengths in
    (correlation_step c a b w).answer ≡ written n →
    (correlation_step c' a' b w').answer ≡ written n' →
    Inside h u →
    OneCount h a a' u d →
    (s : J) → Inside h s →
    Moved h b u d s
    (count_of P1 h (correlation_step c a b w).buffers.output s)
    (count_of P1 h (correlation_step c' a' b w').buffers.output s)

-- t is u + s on an axis of N points, where one goes round at its end; in these words no remainder is taken
pub record GoesRound (N u s t : ℕ) : Type 0 where
  pub low : t < N
  pub sum : (u + s ≡ t) ⊎ (u + s ≡ t + N)

-- so the value at s moves by exactly d × b(t), where t is u + s
abbrev pub SensitiveRound : Type 0
SensitiveRound =
    (c c' : Header) → c.lengths ≡ c'.lengths →
    (a a' b : List ℤ) (w w' : Buffers) (n n' : ℕ) (u : J) (d : ℤ) →
    let h = half_lengths c.lengths in
    (correlation_step c a b w).answer ≡ written n →
    (correlation_step c' a' b w').answer ≡ written n' →
    Inside h u →
    OneCount h a a' u d →
    (s : J) → Inside h s →
    (t : J) →
    GoesRound (2 * h.0) u.0 s.0 t.0 →
    GoesRound (2 * h.1) u.1 s.1 t.1 →
    GoesRound (2 * h.2) u.2 s.2 t.2 →
    count_of P1 h (correlation_step c' a' b w').buffers.output s
    ≡ count_of P1 h (correlation_step c a b w).buffers.output s +ℤ d *ℤ count_of P1 h b t

-- the value at every shift is within the range of a combined map
abbrev pub WithinRange : Type 0
WithinRange =
    (c : Header) (a b : List ℤ) (w : Buffers) (n : ℕ) →
    let h = half_lengths c.lengths in
    (correlation_step c a b w).answer ≡ written n →
    (s : J) → Inside h s →
    nat_abs (count_of P1 h (correlation_step c a b w).buffers.output s) ≤ 13063485600

-- a map with itself: at no shift stands the sum of the squares, and no shift has a greater magnitude
abbrev pub SelfAtZero : Type 0
SelfAtZero =
    (c : Header) (a : List ℤ) (w : Buffers) (n : ℕ) →
    let h = half_lengths c.lengths in
    (correlation_step c a a w).answer ≡ written n →
    count_of P1 h (correlation_step c a a w).buffers.output (0, 0, 0)
    ≡ total_of h (λ u. count_of P1 h a u *ℤ count_of P1 h a u)

abbrev pub GreatestAtZero : Type 0
GreatestAtZero =
    (c : Header) (a : List ℤ) (w : Buffers) (n : ℕ) →
    let h = half_lengths c.lengths in
    let out = (correlation_step c a a w).buffers.output in
    (correlation_step c a a w).answer ≡ written n →
    (s : J) → Inside h s →
    nat_abs (count_of P1 h out s) ≤ nat_abs (count_of P1 h out (0, 0, 0))

-- what the two numbers behind each row hold does not matter: maps that agree at every point of the cell give the same
-- answer and leave the same
abbrev pub RowEndsUnread : Type 0
RowEndsUnread =
    (c : Header) (a a' b b' : List ℤ) (w : Buffers) →
    let h = half_lengths c.lengths in
    length a ≡ length a' →
    length b ≡ length b' →
    SamePoints P1 h a a' →
    SamePoints P1 h b b' →
    correlation_step c a b w ≡ correlation_step c a' b' w
