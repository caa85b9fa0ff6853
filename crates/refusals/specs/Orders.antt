-- The order of every call's refusals, a table to be laid beside the papers; that a list of tests stands in it; and what
-- it is that a number says exactly.
--
-- The scope prints the first rows in its paragraph "Order", and the requests change them: 11 and 17 are gone (M-102,
-- M-103); 26 stands behind 8, and first of all for a line; 27 behind 25 and 22 and before 6, 7 and 14 (M-105). The
-- other rows are those that the requests name. A text of a map is refused as the writer's file is, in the numbers of a
-- map that is held.
use Rattle.std.specs.Prelude.{ℕ, ◌≡◌, ◌↔◌, cond, List, [], ◌∷◌, eqb}
use Rattle.refusals.specs.Refusals.{Test}

-- ---- the table

pub data Row : Type 0 where
  of_line : Row
  of_opening : Row
  of_record : Row
  of_synthesis : Row
  of_analysis : Row
  of_point : Row
  of_factor : Row
  of_file_shape : Row
  of_file_record : Row
  of_writer : Row
  of_text : Row
  of_combining : Row
  of_correlation : Row
  of_map_power : Row
  of_factor_power : Row
  of_section : Row
  of_viewer_file : Row
  of_entering : Row
  of_turn : Row
  of_withdrawing : Row
  of_window : Row

abbrev pub order : Row → List ℕ
order of_line = 26 ∷ 1 ∷ 2 ∷ 3 ∷ 4 ∷ 5 ∷ 6 ∷ 13 ∷ 7 ∷ []
order of_opening = 8 ∷ 26 ∷ 2 ∷ 3 ∷ 4 ∷ 5 ∷ 9 ∷ 6 ∷ 7 ∷ 14 ∷ []
order of_record = 25 ∷ 21 ∷ 10 ∷ 7 ∷ 12 ∷ 6 ∷ 24 ∷ []
order of_synthesis = 25 ∷ 23 ∷ 6 ∷ 13 ∷ 7 ∷ 14 ∷ []
order of_analysis = 25 ∷ 22 ∷ 6 ∷ 13 ∷ 7 ∷ 14 ∷ []
order of_point = 25 ∷ 22 ∷ 10 ∷ 6 ∷ 7 ∷ []
order of_factor = 25 ∷ 23 ∷ 10 ∷ 6 ∷ 7 ∷ []
-- a file: its shape, then as an opening of kind 0, then each record; 25, 21 and 6 of a record do not arise there
order of_file_shape = 15 ∷ 16 ∷ 15 ∷ []
order of_file_record = 10 ∷ 7 ∷ 12 ∷ 24 ∷ []
order of_writer = 25 ∷ 23 ∷ 6 ∷ 7 ∷ 14 ∷ 18 ∷ []
order of_text = 25 ∷ 22 ∷ 6 ∷ 7 ∷ 18 ∷ []
-- M-105 to M-109
order of_combining = 25 ∷ 22 ∷ 27 ∷ 6 ∷ 7 ∷ 14 ∷ []
order of_correlation = 3 ∷ 4 ∷ 5 ∷ 9 ∷ 6 ∷ 13 ∷ 28 ∷ []
order of_map_power = 25 ∷ 22 ∷ 6 ∷ 7 ∷ 14 ∷ []
order of_factor_power = 25 ∷ 23 ∷ 6 ∷ 7 ∷ 14 ∷ []
order of_section = 8 ∷ 3 ∷ 9 ∷ 6 ∷ 10 ∷ 28 ∷ 18 ∷ []
order of_viewer_file = 8 ∷ 3 ∷ 9 ∷ 6 ∷ 29 ∷ 30 ∷ 18 ∷ []
-- M-111: 25 of the scheduler is before all else; entering goes on as a synthesis does
order of_entering = 25 ∷ 31 ∷ 25 ∷ 32 ∷ 25 ∷ 23 ∷ 6 ∷ 13 ∷ 7 ∷ 14 ∷ []
order of_turn = 6 ∷ 13 ∷ 7 ∷ []
order of_withdrawing = 25 ∷ 31 ∷ 33 ∷ []
-- M-113
order of_window = 34 ∷ 18 ∷ []

-- ---- tests in a row's order

-- n, and the numbers behind it: the same number twice in a row counts once
abbrev pub ahead : ℕ → List ℕ → List ℕ
ahead n [] = n ∷ []
ahead n (k ∷ ks) = cond (eqb n k) (k ∷ ks) (n ∷ k ∷ ks)

-- the numbers of tests, in order
abbrev pub numbers_of : List Test → List ℕ
numbers_of [] = []
numbers_of (t ∷ ts) = ahead t.number (numbers_of ts)

abbrev pub Ordered : List Test → Row → Type 0
Ordered ts r = numbers_of ts ≡ order r

-- ---- what a number says

-- the numbers of a row before n
abbrev pub earlier : ℕ → List ℕ → List ℕ
earlier n [] = []
earlier n (k ∷ ks) = cond (eqb k n) [] (k ∷ earlier n ks)

-- an answer that is none of these refusals
abbrev pub NoneOf : {A : Type 0} (refused : ℕ → A) → List ℕ → A → Type 0
NoneOf refused [] a = Unit {0}
NoneOf refused (n ∷ ns) a = (a ≡ refused n → ⊥) × NoneOf refused ns a

-- An answer that is no refusal earlier in the row is the refusal n exactly if C does not hold.
abbrev pub RefusedUnless : {A : Type 0} (refused : ℕ → A) → Row → (n : ℕ) (a : A) (C : Type 0) → Type 0
RefusedUnless refused r n a C = NoneOf refused (earlier n (order r)) a → ((a ≡ refused n) ↔ (C → ⊥))
