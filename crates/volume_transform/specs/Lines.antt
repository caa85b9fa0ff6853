-- One line of a volume: its kind, its length and its places, what is known of them, and its turn.
use Rattle.std.specs.Prelude.{◌≡◌, ◌⊎◌, ◌+◌, ◌*◌, ◌<◌, ◌≤◌}
use Rattle.std.specs.Prelude.{Bool, cond, List, ℕ, zero, suc, eqb, length, drop, get_or, set}
use Rattle.algebra.specs.lines.Kinds.{slots}
use Rattle.numbers.specs.Value.{prime, IsModulus}
use Rattle.numbers.specs.Bounds.{Small}
use Rattle.slices.specs.Pairs.{at, tab, puts, all_below}
use Rattle.lengths.specs.Lengths.{kind_of, cleared}
use Rattle.lengths.specs.Admitted.{AdmittedLength, FactorList}
use Rattle.volume_transform.specs.Axes.{turned_line, turned_stored, turned_row}
use Rattle.volume_transform.specs.declared.plan.Line.{Line}
use Rattle.line.specs.Tables.{LineTables}

-- it can be transformed
pub record SoundLine (x : Line) : Type 0 where
  pub modulus : IsModulus x.m
  pub directed : x.direction < 2
  pub known : x.kind < 6
  pub size : AdmittedLength (2 * x.half)
  pub list : FactorList (2 * x.half) x.factors

-- the packed line transformed, and the same as it is stored
abbrev pub turned_packed : Line → List ℕ → List ℕ
turned_packed x l = turned_line x.m x.half x.direction (kind_of x.kind) l

abbrev pub stored_turn : Line → List ℕ → List ℕ
stored_turn x l = turned_stored x.m x.half x.direction x.rotated (kind_of x.kind) l

-- the n pairs of v at the places p 0, p 1, .. go through F
abbrev pub turned_at : (p : ℕ → ℕ) (n : ℕ) (F : List ℕ → List ℕ) → List ℕ → List ℕ
turned_at p n F v = puts p (at (F (tab n (λ j. at v (p j))))) n v

-- its numbers, pair after pair
abbrev pub numbers_in : Line → List ℕ → List ℕ
numbers_in x v = tab x.count (λ j. at v (x.start + j * x.stride))

abbrev pub gathered_turn : Line → List ℕ → List ℕ
gathered_turn x v = turned_at (λ j. x.start + j * x.stride) x.count (stored_turn x) v

abbrev pub row_turn : Line → List ℕ → List ℕ
row_turn x v = turned_at (λ j. x.start + j) x.count (turned_row x.m x.half x.direction) v

-- the pairs of a line that is gathered: the last of them lies in a volume of len numbers
pub record Spaced (len : ℕ) (x : Line) : Type 0 where
  pub sound : SoundLine x
  pub counted : x.count ≡ slots (kind_of x.kind) x.half
  pub low : x.count ≤ 2880
  pub fits : 2 * (x.start + x.count * x.stride) + 2 ≤ len + 2 * x.stride

-- the line v places further on
abbrev pub shifted : Line → ℕ → Line
shifted x v = record {
  m = x.m;
  direction = x.direction;
  kind = x.kind;
  rotated = x.rotated;
  factors = x.factors;
  half = x.half;
  start = x.start + v;
  stride = x.stride;
  count = x.count;
}

-- the neighbouring pairs of a row
pub record Beside (len : ℕ) (x : Line) : Type 0 where
  pub sound : SoundLine x
  pub hermitian : x.kind ≡ 1
  pub counted : x.count ≡ x.half + 1
  pub next : x.stride ≡ 1
  pub fits : 2 * x.start + 2 * x.count ≤ len
  -- 2 * 2880 * 2880 * 1441: no lengths have a longer volume
  pub low : 2 * x.start + 2 * x.count ≤ 23904460800

-- a line that is gathered, or a row
abbrev pub Placed : (len : ℕ) → Line → Type 0
Placed len x = ((x.kind ≡ 1 → ⊥) × Spaced len x) ⊎ Beside len x

-- the numbers of its pairs are residues; those of other lines need not be
pub record LineBelow (x : Line) (v : List ℕ) : Type 0 where
  pub each : (j : ℕ) → j < x.count → Small (prime x.m) (at v (x.start + j * x.stride))

-- and its turn: a row is known by its kind
abbrev pub line_turned : Line → List ℕ → List ℕ
line_turned x v = cond (eqb x.kind 1) (row_turn x v) (gathered_turn x v)

-- A line that is transformed if its own numbers are residues, the scratch then cleared; if they are not, nothing
-- changes.
pub record OwnTurn (turned : List ℕ → List ℕ) (x : Line) (done : Bool)
    (v v' scratch scratch' : List ℕ) : Type 0 where
  pub tested : done ≡ all_below (prime x.m) (numbers_in x v)
  pub volume : v' ≡ cond done (turned v) v
  pub lent : scratch' ≡ cond done (cleared scratch) scratch

-- ---- What the turn of a line is lent, and the ends of a row.

-- the lent buffers are long enough
pub record Lent (scratch fold work : List ℕ) : Type 0 where
  pub scratch_fits : 11520 ≤ length scratch
  pub fold_fits : 5760 ≤ length fold
  pub work_fits : 5760 ≤ length work

-- beyond its first 11,520 numbers the scratch is as it was
abbrev pub Kept : List ℕ → List ℕ → Type 0
Kept before after = drop 11520 after ≡ drop 11520 before

-- and the slices that its turn alone is lent are as long as it needs
abbrev pub Room : Line → (fold work : List ℕ) → Type 0
Room x fold work = (2 * x.half ≤ length fold) × (4 * x.half ≤ length work)

abbrev pub TablesFor : Line → (re im tan : List ℕ) → Type 0
TablesFor x re im tan = LineTables x.m x.kind x.direction re im tan

-- ---- the row of a packed Hermitian line of n numbers: the real part of the last pair stands in the second number of
-- the first
abbrev pub opened : (direction n : ℕ) → List ℕ → List ℕ
opened zero n l = set l 1 (get_or l n 0)
opened (suc direction) n l = l

abbrev pub closed : (direction n : ℕ) → List ℕ → List ℕ
closed zero n l = set (set l n 0) (n + 1) 0
closed (suc direction) n l = set (set (set l n (get_or l 1 0)) (n + 1) 0) 1 0
