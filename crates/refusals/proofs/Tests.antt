-- Laws of the tests: which one is first, that none holds where the number is 0, and what an outcome is in either case.
use mathlib.Core.Path.{◌≡◌, refl, ◌∙◌, sym, subst}
use mathlib.Core.Bool.{Bool, true, false, not, ◌&&◌, cond}
use mathlib.Core.List.{List, [], ◌∷◌, ◌++◌}
use Prim.Native.Nat.{ℕ, zero, suc, ◌≤◌}
use native.Mathlib.Nat.{not-suc-le-zero}
use native.Mathlib.Omega.{arith}
use lib.Dec.{T, leb, eqb, leb→le}
use borrow.Author.Tests.{not-true, not-false, lt-ltb, le-ltb, le-leb, lt-leb, eq-eqb, ne_eqb}
use Rattle.refusals.specs.declared.Refusal.{Refusal}
use Rattle.refusals.specs.declared.Refusal.TheVariants.{LineKind, Direction, Length, Factor, Product, BufferLength, NotResidue, Group, VolumeTooLarge, Index, Contradiction, ScratchTooShort, Inconsistent, FileShape, FileVersion, OutputTooShort, NotCollecting, NoMap, NoFactors, Occupied, ImpossibleJob, Modulus, DifferentCells, Magnitude, UnitCell, FloatRange, Lane, Capacity, NothingRuns, Window}
use Rattle.refusals.specs.Refusals.{number_of, Test, ◌⇒◌, first, accepted}

-- ---- conjunctions

pub and_left : (a b : Bool) → T (a && b) → T a
and_left true b t = tt
and_left false b t = t

pub and_right : (a b : Bool) → T (a && b) → T b
and_right true b t = t
and_right false b t = absurd t

-- a conjunction that is true, taken apart
pub both : (a b : Bool) → (a && b) ≡ true → (a ≡ true) × (b ≡ true)
both true b e = (refl, e)
both false b e = absurd (subst T (sym e) tt)

-- ---- a test that holds is the answer; one that does not is passed over

pub stop : {b : Bool} {n : ℕ} (ts : List Test) → b ≡ true → n ≡ first (b ⇒ n ∷ ts)
unfolding first
stop ts e = rw e

pub pass : {b : Bool} {m : ℕ} (n : ℕ) (ts : List Test) → b ≡ false → m ≡ first ts → m ≡ first (b ⇒ n ∷ ts)
unfolding first
pass n ts e h = rw e h

pub none : 0 ≡ first []
unfolding first
none = refl

-- through what a callee ensures of its result
pub not_t : (b : Bool) → b ≡ true → not b ≡ false
not_t b e = rw e

pub not_f : (b : Bool) → b ≡ false → not b ≡ true
not_f b e = rw e

pub by_false : (r b : Bool) → r ≡ b → r ≡ false → b ≡ false
by_false r b e h = sym e ∙ h

pub by_true : (r b : Bool) → r ≡ b → r ≡ true → b ≡ true
by_true r b e h = sym e ∙ h

pub by_eq : (l m n : ℕ) → m ≡ n → l ≡ m → eqb l n ≡ true
by_eq l m n e h = eq-eqb l n (h ∙ e)

pub by_ne : (l m n : ℕ) → m ≡ n → (l ≡ m → ⊥) → eqb l n ≡ false
by_ne l m n e h = ne_eqb l n (λ q. h (q ∙ sym e))

-- what `search` is handed at each return of a check
pub ruleset refusals = (stop, pass, none, not_t, not_f, lt-ltb, le-ltb, le-leb, lt-leb, eq-eqb, ne_eqb, by_false, by_true, by_eq, by_ne)

-- ---- where no test holds, each is false

abbrev pub Passed : List Test → Type 0
Passed [] = Unit
Passed (t ∷ ts) = (t.fails ≡ false) × Passed ts

-- no test has the number 0, which stands for none
abbrev pub positive : List Test → Bool
positive [] = true
positive (t ∷ ts) = leb 1 t.number && positive ts

passed_one : (t : Test) (ts : List Test) (b : Bool) (n : ℕ) → t.fails ≡ b → T (leb 1 n && positive ts) → (T (positive ts) → 0 ≡ first ts → Passed ts) → 0 ≡ cond b n (first ts) → (t.fails ≡ false) × Passed ts
passed_one t ts true n q h f e = absurd (not-suc-le-zero (subst (λ (m : ℕ). 1 ≤ m) (sym e) (leb→le 1 n (and_left (leb 1 n) (positive ts) h))))
passed_one t ts false n q h f e = (q, f (and_right (leb 1 n) (positive ts) h) e)

pub passed : (ts : List Test) → T (positive ts) → 0 ≡ first ts → Passed ts
unfolding first
passed [] h e = tt
passed (t ∷ ts) h e = passed_one t ts t.fails t.number refl h (passed ts) e

-- ---- tests after tests: the number of the first list, or, where that has none, of the second

pub append_stop : (ts us : List Test) {n : ℕ} → (n ≡ 0 → ⊥) → n ≡ first ts → n ≡ first (ts ++ us)
unfolding first
append_stop [] us z e = absurd (z e)
append_stop (t ∷ ts) us {n} z e = one t.fails (append_stop ts us z) e
  where
    one : (b : Bool) → (n ≡ first ts → n ≡ first (ts ++ us)) → n ≡ cond b t.number (first ts) → n ≡ cond b t.number (first (ts ++ us))
    one true h e = e
    one false h e = h e

pub append_pass : (ts us : List Test) {n : ℕ} → Passed ts → n ≡ first us → n ≡ first (ts ++ us)
append_pass [] us p e = e
append_pass (t ∷ ts) us p e = pass t.number (ts ++ us) p.0 (append_pass ts us p.1 e)

pub first_append : (ts us : List Test) → T (positive ts) → first (ts ++ us) ≡ accepted (first ts) (first us) (λ n. n)
unfolding first
first_append [] us h = refl
first_append (t ∷ ts) us h = one t.fails t.number (and_left (leb 1 t.number) (positive ts) h) (first_append ts us (and_right (leb 1 t.number) (positive ts) h))
  where
    one : (b : Bool) (n : ℕ) → T (leb 1 n) → first (ts ++ us) ≡ accepted (first ts) (first us) (λ n. n) → cond b n (first (ts ++ us)) ≡ accepted (cond b n (first ts)) (first us) (λ n. n)
    one true zero h e = absurd h
    one true (suc n) h e = refl
    one false n h e = e

-- ---- the outcome of a refused call and of an accepted one

pub fails : {O : Type 0} (r : Refusal) (n : ℕ) (o : O) (f : ℕ → O) → number_of r ≡ n → f (number_of r) ≡ accepted n o f
fails r n o f e = rw (← e) (go r)
  where
    go : (r : Refusal) → f (number_of r) ≡ accepted (number_of r) o f
    go LineKind = refl
    go Direction = refl
    go Length = refl
    go Factor = refl
    go Product = refl
    go BufferLength = refl
    go NotResidue = refl
    go Group = refl
    go VolumeTooLarge = refl
    go Index = refl
    go Contradiction = refl
    go ScratchTooShort = refl
    go Inconsistent = refl
    go FileShape = refl
    go FileVersion = refl
    go OutputTooShort = refl
    go NotCollecting = refl
    go NoMap = refl
    go NoFactors = refl
    go Occupied = refl
    go ImpossibleJob = refl
    go Modulus = refl
    go DifferentCells = refl
    go Magnitude = refl
    go UnitCell = refl
    go FloatRange = refl
    go Lane = refl
    go Capacity = refl
    go NothingRuns = refl
    go Window = refl

-- no refusal has the number 0
pub not_zero : (r : Refusal) → number_of r ≡ 0 → ⊥
not_zero r e = let z : ◌≡◌ {A = ℕ} 0 1 = fails r 0 1 (λ n. 0) e in omega arith

pub passes : {O : Type 0} (n : ℕ) (o : O) (f : ℕ → O) → 0 ≡ n → o ≡ accepted n o f
passes n o f e = rw (← e)
