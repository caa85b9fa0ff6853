-- `beats` is a strict order of the scores: of three, one that beats the second beats whatever does not beat the second too.
use mathlib.Core.Path.{◌≡◌, refl, sym, ◌∙◌, subst}
use mathlib.Core.Bool.{Bool, true, false}
use Prim.Native.Nat.{ℕ}
use native.Mathlib.Omega.{arith}
use lib.Dec.{T, ltb}
use lib.IntN.{ℤ, pos, negsuc}
use lib.Signed.{lt_z}
use borrow.Author.Tests.{ltb-true, ltb-false, lt-ltb, le-ltb}
use Rattle.sliding_window.specs.Window.{beats}

pub never {ℓ} : {X : Type ℓ} → false ≡ true → X
never e = absurd (subst T (sym e) tt)

-- a < b ≤ c, and a ≤ b < c
less_than : (a b c : ℕ) → ltb a b ≡ true → ltb c b ≡ false → ltb a c ≡ true
less_than a b c h k = lt-ltb a c (omega (arith, ltb-true a b h, ltb-false c b k))

than_less : (a b c : ℕ) → ltb b a ≡ false → ltb b c ≡ true → ltb a c ≡ true
than_less a b c h k = lt-ltb a c (omega (arith, ltb-false b a h, ltb-true b c k))

turned : (a b : ℕ) → ltb a b ≡ true → ltb b a ≡ false
turned a b h = le-ltb b a (omega (arith, ltb-true a b h))

lt_z_less_than : (a b c : ℤ) → lt_z a b ≡ true → lt_z c b ≡ false → lt_z a c ≡ true
lt_z_less_than (pos a) (pos b) (pos c) h k = less_than a b c h k
lt_z_less_than (pos a) (pos b) (negsuc c) h k = never (sym k)
lt_z_less_than (pos a) (negsuc b) c h k = never h
lt_z_less_than (negsuc a) (pos b) (pos c) h k = refl
lt_z_less_than (negsuc a) (pos b) (negsuc c) h k = never (sym k)
lt_z_less_than (negsuc a) (negsuc b) (pos c) h k = refl
lt_z_less_than (negsuc a) (negsuc b) (negsuc c) h k = than_less c b a k h

lt_z_than_less : (a b c : ℤ) → lt_z b a ≡ false → lt_z b c ≡ true → lt_z a c ≡ true
lt_z_than_less (pos a) (pos b) (pos c) h k = than_less a b c h k
lt_z_than_less (negsuc a) (pos b) (pos c) h k = refl
lt_z_than_less a (pos b) (negsuc c) h k = never k
lt_z_than_less (pos a) (negsuc b) (pos c) h k = never (sym h)
lt_z_than_less (negsuc a) (negsuc b) (pos c) h k = refl
lt_z_than_less (pos a) (negsuc b) (negsuc c) h k = never (sym h)
lt_z_than_less (negsuc a) (negsuc b) (negsuc c) h k = less_than c b a k h

lt_z_turned : (a b : ℤ) → lt_z a b ≡ true → lt_z b a ≡ false
lt_z_turned (pos a) (pos b) h = turned a b h
lt_z_turned (pos a) (negsuc b) h = never h
lt_z_turned (negsuc a) (pos b) h = refl
lt_z_turned (negsuc a) (negsuc b) h = turned b a h

-- z beats y, and x does not
pub beats_past : (g : Bool) (z y x : ℤ) → beats g z y ≡ true → beats g x y ≡ false → beats g z x ≡ true
beats_past false z y x h k = lt_z_less_than z y x h k
beats_past true z y x h k = lt_z_than_less x y z k h

pub beats_turned : (g : Bool) (y x : ℤ) → beats g y x ≡ true → beats g x y ≡ false
beats_turned false y x h = lt_z_turned y x h
beats_turned true y x h = lt_z_turned x y h

-- no score beats itself
pub beats_itself : (g : Bool) (x : ℤ) → beats g x x ≡ false
beats_itself g x = by (beats g x x) refl
  where
    by : (b : Bool) → beats g x x ≡ b → beats g x x ≡ false
    by true e = beats_turned g x x e
    by false e = e

-- z does not beat y, nor y x
pub beaten_not : (g : Bool) (z y x : ℤ) → beats g z y ≡ false → beats g y x ≡ false → beats g z x ≡ false
beaten_not g z y x h k = by (beats g z x) refl
  where
    by : (b : Bool) → beats g z x ≡ b → beats g z x ≡ false
    by true e = never (sym h ∙ beats_past g z x y e k)
    by false e = e

-- z does not beat x, which y beats
pub beaten_less : (g : Bool) (z y x : ℤ) → beats g z x ≡ false → beats g y x ≡ true → beats g z y ≡ false
beaten_less g z y x h k = by (beats g z y) refl
  where
    by : (b : Bool) → beats g z y ≡ b → beats g z y ≡ false
    by true e = never (sym h ∙ beats_past g z y x e (beats_turned g y x k))
    by false e = e
