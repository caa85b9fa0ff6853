-- The order of the whole numbers, the lesser and the greater of two, and what both have in common.
use mathlib.Core.Path.{◌≡◌, refl, ap}
use mathlib.Core.Bool.{cond}
use Prim.Native.Nat.{ℕ, suc, ◌≤◌}
use native.Mathlib.Nat.{le_antisymm, le_trans, le_of_lt}
use native.Mathlib.Omega.{arith}
use lib.Dec.{T, leb→le, le→leb, ltb→lt}
use lib.IntN.{ℤ, pos, negsuc, nat_abs}
use lib.Signed.{lt_z, le_z, ◌≤ℤ◌, lt_z_no, ≤ℤ_refl}
use Rattle.algebra.proofs.ring.Bool.{split}
use Rattle.mrc.specs.Ranges.{lesser, greater}

trans : (a b c : ℤ) → T (le_z a b) → T (le_z b c) → T (le_z a c)
trans (pos a) (pos b) (pos c) h k = le→leb a c (le_trans (leb→le a b h) (leb→le b c k))
trans (pos a) (pos b) (negsuc c) h k = absurd k
trans (pos a) (negsuc b) c h k = absurd h
trans (negsuc a) (pos b) (pos c) h k = tt
trans (negsuc a) (pos b) (negsuc c) h k = absurd k
trans (negsuc a) (negsuc b) (pos c) h k = tt
trans (negsuc a) (negsuc b) (negsuc c) h k = le→leb c a (le_trans (leb→le c b k) (leb→le b a h))

antisym : (a b : ℤ) → T (le_z a b) → T (le_z b a) → a ≡ b
antisym (pos a) (pos b) h k = ap pos (le_antisymm (leb→le a b h) (leb→le b a k))
antisym (pos a) (negsuc b) h k = absurd h
antisym (negsuc a) (pos b) h k = absurd k
antisym (negsuc a) (negsuc b) h k = ap negsuc (le_antisymm (leb→le a b k) (leb→le b a h))

weaken : (a b : ℤ) → T (lt_z a b) → T (le_z a b)
weaken (pos a) (pos b) h = le→leb a b (le_of_lt (ltb→lt a b h))
weaken (pos a) (negsuc b) h = absurd h
weaken (negsuc a) (pos b) h = tt
weaken (negsuc a) (negsuc b) h = le→leb b a (le_of_lt (ltb→lt b a h))

pub ≤ℤ-trans : {a b c : ℤ} → a ≤ℤ b → b ≤ℤ c → a ≤ℤ c
≤ℤ-trans {a} {b} {c} h k = record { le = trans a b c h.le k.le }

pub ≤ℤ-antisym : {a b : ℤ} → a ≤ℤ b → b ≤ℤ a → a ≡ b
≤ℤ-antisym {a} {b} h k = antisym a b h.le k.le

-- a number between two of small magnitude
pub between : (m : ℕ) (l x h : ℤ) → l ≤ℤ x → x ≤ℤ h → nat_abs l ≤ m → nat_abs h ≤ m → nat_abs x ≤ m
between m l (pos x) (pos h) p q i j = omega (arith, leb→le x h q.le)
between m l (pos x) (negsuc h) p q i j = absurd q.le
between m (pos l) (negsuc x) h p q i j = absurd p.le
between m (negsuc l) (negsuc x) h p q i j = omega (arith, leb→le x l p.le)

-- ---- a choice of two that goes by an order: `Before m x` says that m is chosen before x, or is x

pub record Chooses (pick : ℤ → ℤ → ℤ) (Before : ℤ → ℤ → Type 0) : Type 1 where
  pub left : (a b : ℤ) → Before (pick a b) a
  pub right : (a b : ℤ) → Before (pick a b) b
  pub through : {a b c : ℤ} → Before a b → Before b c → Before a c
  pub same : {a b : ℤ} → Before a b → Before b a → a ≡ b
  pub either : (P : ℤ → Type 0) (a b : ℤ) → P a → P b → P (pick a b)

pub lesser_chooses : Chooses lesser (λ m x. m ≤ℤ x)
lesser_chooses = record {
  left = λ a b. split (lt_z b a) (λ t. cond t b a ≤ℤ a) (λ t. record { le = weaken b a t }) (λ t. ≤ℤ_refl a);
  right = λ a b. split (lt_z b a) (λ t. cond t b a ≤ℤ b) (λ t. ≤ℤ_refl b) (λ t. lt_z_no t);
  through = ≤ℤ-trans;
  same = ≤ℤ-antisym;
  either = λ P a b p q. split (lt_z b a) (λ t. P (cond t b a)) (λ t. q) (λ t. p);
}

pub greater_chooses : Chooses greater (λ m x. x ≤ℤ m)
greater_chooses = record {
  left = λ a b. split (lt_z a b) (λ t. a ≤ℤ cond t b a) (λ t. record { le = weaken a b t }) (λ t. ≤ℤ_refl a);
  right = λ a b. split (lt_z a b) (λ t. b ≤ℤ cond t b a) (λ t. ≤ℤ_refl b) (λ t. lt_z_no t);
  through = λ h k. ≤ℤ-trans k h;
  same = λ h k. ≤ℤ-antisym k h;
  either = λ P a b p q. split (lt_z a b) (λ t. P (cond t b a)) (λ t. q) (λ t. p);
}
