-- A number divided by 2^32 modulo the prime, and a factor that is held times 2^32.
use Rattle.std.specs.Prelude.{◌≡◌, cond, ℕ, ◌+◌, ◌*◌, ◌-◌, ◌<◌, ◌≤◌, List, eqb, get_or, length}
use Rattle.numbers.specs.Value.{prime, Value, Residue, ring}
use Rattle.numbers.specs.Bounds.{res}
use Rattle.batches.specs.declared.lane.Factor.{Factor}

-- -1/p modulo 2^32
unfoldable pub minus_inverse : ℕ → ℕ
minus_inverse m = cond (eqb m 1) 743674241 2496671041

-- r stands for x over 2^32: a multiple of the prime makes x whole
pub record Divided (m x r : ℕ) : Type 0 where
  pub low : r < 2 * prime m
  pub times : ℕ
  pub is : 4294967296 * r ≡ x + prime m * times

-- the factor at place k of two tables
abbrev pub factor_at : (m : ℕ) (re im : List ℕ) (k : ℕ) → Factor
factor_at m re im k = record { re = get_or re k 0; im = get_or im k 0; minus = prime m - get_or im k 0 }

-- the first n numbers of `to` are residues, those of `from` times 2^32
pub record ShiftedList (m : ℕ) (from : List ℕ) (n : ℕ) (to : List ℕ) : Type 0 where
  pub long : length to ≡ 2880
  pub low : (k : ℕ) → k < n → get_or to k 0 < prime m
  pub is : (k : ℕ) → k < n → res m (get_or to k 0) ≡ (ring m).mul (res m 4294967296) (res m (get_or from k 0))

-- the tables sre and sim hold what re and im hold, times 2^32
pub record ShiftedTable (m : ℕ) (re im sre sim : List ℕ) : Type 0 where
  pub low_re : (k : ℕ) → get_or sre k 0 < prime m
  pub low_im : (k : ℕ) → get_or sim k 0 < prime m
  pub re_is : (k : ℕ) → k < 2880 → res m (get_or sre k 0) ≡ (ring m).mul (res m 4294967296) (res m (get_or re k 0))
  pub im_is : (k : ℕ) → k < 2880 → res m (get_or sim k 0) ≡ (ring m).mul (res m 4294967296) (res m (get_or im k 0))

-- the numbers of a factor are no larger than the prime
pub record Held (m : ℕ) (w : Factor) : Type 0 where
  pub re : w.re ≤ prime m
  pub im : w.im ≤ prime m
  pub minus : w.minus ≤ prime m

-- c stands for c₀ times 2^32
pub record Holds (m c : ℕ) (c₀ : Residue m) : Type 0 where
  pub is : res m c ≡ (ring m).mul (res m 4294967296) c₀

-- they are the parts of z times 2^32
pub record Shifted (m : ℕ) (w : Factor) (z : Value m) : Type 0 where
  pub re : Holds m w.re z.0
  pub im : Holds m w.im z.1
  pub minus : Holds m w.minus ((ring m).neg z.1)

-- o stands for 0
pub record Zero (m o : ℕ) : Type 0 where
  pub times : ℕ
  pub is : o ≡ prime m * times
