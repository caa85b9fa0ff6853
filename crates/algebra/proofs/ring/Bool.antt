-- Tests: what a conjunction, a disjunction and a test over a range or a list say, and how to go by cases on a test.
use mathlib.Core.Path.{◌≡◌, refl}
use mathlib.Core.Logic.{◌↔◌}
use mathlib.Core.Bool.{Bool, true, false, ◌&&◌, ◌||◌, not, cond}
use mathlib.Core.List.{List, [], ◌∷◌}
use Prim.Native.Nat.{ℕ, zero, suc, ◌<◌}
use native.Mathlib.Omega.{arith}
use native.Mathlib.Decide.{ℕ_discrete}
use lib.Dec.{T}
use Rattle.algebra.specs.orbits.Orbit.{Mem, first, later}
use Rattle.algebra.specs.cells.Cell.{imply, below, every, some}

pub and_l : (a b : Bool) → T (a && b) → T a
and_l true b t = tt
and_l false b t = absurd t

pub and_r : (a b : Bool) → T (a && b) → T b
and_r true b t = t
and_r false b t = absurd t

pub and_i : (a b : Bool) → T a → T b → T (a && b)
and_i true b s t = t
and_i false b s t = absurd s

pub or_l : (a b : Bool) → T a → T (a || b)
or_l true b t = tt
or_l false b t = absurd t

pub or_r : (a b : Bool) → T b → T (a || b)
or_r true b t = tt
or_r false b t = t

pub or_e : (a b : Bool) (C : Type 0) → T (a || b) → (T a → C) → (T b → C) → C
or_e true b C t f g = f t
or_e false b C t f g = g t

pub imply_iff : (a b : Bool) → T (imply a b) ↔ (T a → T b)
imply_iff true b = (λ t s. t, λ f. f tt)
imply_iff false b = (λ t s. absurd s, λ f. tt)

-- two tests that say the same
pub same_test : (b c : Bool) → (T b → T c) → (T c → T b) → b ≡ c
same_test true true f g = refl
same_test true false f g = absurd (f tt)
same_test false true f g = absurd (g tt)
same_test false false f g = refl

-- by cases on a test, with what it says
pub split : (b : Bool) (C : Bool → Type 0) → (T b → C true) → (T (not b) → C false) → C b
split true C f g = f tt
split false C f g = g tt

-- the same test on both sides
pub split_both : {A B : Type 0} (P : A → B → Type 0) (b : Bool) {x y : A} {u v : B} → (T b → P x u) → (T (not b) → P y v) → P (cond b x y) (cond b u v)
split_both P true f g = f tt
split_both P false f g = g tt

-- a test at every member of a list, and at every number below n
pub every_at : {S : Type 0} (l : List S) (P : S → Bool) (s : S) → T (every l P) → Mem s l → T (P s)
unfolding every
every_at (u ∷ l) P s t first = and_l (P s) _ t
every_at (u ∷ l) P s t (later m) = every_at l P s (and_r (P u) _ t) m
every_at {S = S} [] P s t x'' = elim x'' [ ]

pub every_by : {S : Type 0} (l : List S) (P : S → Bool) → ((s : S) → Mem s l → T (P s)) → T (every l P)
unfolding every
every_by [] P f = tt
every_by (u ∷ l) P f = and_i (P u) _ (f u first) (every_by l P (λ s m. f s (later m)))

-- and at some member
pub some_at : {S : Type 0} (l : List S) (P : S → Bool) → T (some l P) → (s : S) × Mem s l × T (P s)
unfolding some
some_at [] P t = absurd t
some_at (u ∷ l) P t = or_e (P u) (some l P) _ t (λ h. (u, first, h)) (λ h. let r = some_at l P h in (r.0, later r.1, r.2))

pub some_by : {S : Type 0} (l : List S) (P : S → Bool) (s : S) → Mem s l → T (P s) → T (some l P)
unfolding some
some_by (u ∷ l) P s first t = or_l (P s) _ t
some_by (u ∷ l) P s (later m) t = or_r (P u) _ (some_by l P s m t)
some_by {S = S} [] P s x'' t = elim x'' [ ]

pub below_at : (n : ℕ) (P : ℕ → Bool) (k : ℕ) → T (below n P) → k < n → T (P k)
unfolding below
below_at zero P k t h = absurd (omega arith)
below_at (suc n) P k t h = go (ℕ_discrete k n) (λ l. below_at n P k (and_l (below n P) _ t) l)
  where
    go : Dec (k ≡ n) → (k < n → T (P k)) → T (P k)
    go (yes e) ih = rw e (and_r (below n P) _ t)
    go (no e) ih = ih (omega arith)

pub below_by : (n : ℕ) (P : ℕ → Bool) → ((k : ℕ) → k < n → T (P k)) → T (below n P)
unfolding below
below_by zero P f = tt
below_by (suc n) P f = and_i (below n P) _ (below_by n P (λ k h. f k (omega arith))) (f n (omega arith))
