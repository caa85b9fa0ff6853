-- The constant tables: one computed test of the two arrays of powers, and one of the half tangents, gives the rule at every place.
use mathlib.Core.Path.{◌≡◌, sym, ◌∙◌, ap, subst}
use mathlib.Core.Bool.{Bool, true, false, ◌&&◌}
use mathlib.Core.List.{List, [], ◌∷◌}
use Prim.Native.Nat.{ℕ, zero, suc, ◌+◌, ◌*◌, ◌-◌, ◌%◌, ◌<◌}
use native.Mathlib.Omega.{arith}
use lib.Dec.{T, eqb, eqb→eq, ltb, ltb→lt}
use lib.ListN.{get_or}
use Rattle.algebra.specs.ring.Ring.{pow, Res, residue, residues}
use Rattle.algebra.proofs.ring.Bool.{and_l, and_r, and_i}
use Rattle.algebra.proofs.ring.ResidueRing.{residue_val, residue_mod, residue_add, residue_mul}
use Rattle.algebra.proofs.fourier.PowerTable.{passes, rule_at}
use Rattle.numbers.specs.Value.{prime, Value, field}
use Rattle.numbers.proofs.Primes.{prime_least}
use Rattle.numbers.proofs.Residues.{res_val, val_small}
use Rattle.numbers.proofs.Values.{value_path}
use Rattle.roots.specs.Root.{root}
use Rattle.roots.specs.Table.{RealTable, ImaginaryTable}
use Rattle.roots.specs.TableLaws.{TangentTable}

-- the first of n pairs is a + b i, and every other is the former times u + v i
unfoldable pub follows : (p u v n a b : ℕ) (re im : List ℕ) → Bool
follows p u v zero a b re im = true
follows p u v (suc n) a b [] im = false
follows p u v (suc n) a b (x ∷ re) [] = false
follows p u v (suc n) a b (x ∷ re) (y ∷ im) = eqb x a && (eqb y b && follows p u v n ((a * u + b * (p - v)) % p) ((a * v + b * u) % p) re im)

-- the tests of one number x at the place of the power a + b i
abbrev is_real : ℕ → ℕ → ℕ → Bool
is_real x a b = eqb x a

abbrev is_imaginary : ℕ → ℕ → ℕ → Bool
is_imaginary x a b = eqb x b

abbrev is_tangent : ℕ → ℕ → ℕ → ℕ → Bool
is_tangent p x a b = ltb x p && eqb (x * (1 + a) % p) b

-- the two lists apart: each passes its own test
parts : (p u v n a b : ℕ) (re im : List ℕ) → T (follows p u v n a b re im)
    → T (passes is_real p u v n a b re) × T (passes is_imaginary p u v n a b im)
unfolding follows passes
parts p u v zero a b re im t = (tt, tt)
parts p u v (suc n) a b [] im t = absurd t
parts p u v (suc n) a b (x ∷ re) [] t = absurd t
parts p u v (suc n) a b (x ∷ re) (y ∷ im) t =
    let others = and_r (eqb x a) _ t in
    let rest = parts p u v n _ _ re im (and_r (eqb y b) _ others) in
    (and_i (eqb x a) _ (and_l (eqb x a) _ t) rest.0, and_i (eqb y b) _ (and_l (eqb y b) _ others) rest.1)

tangent_law : (p x : ℕ) (c d : Res p) → x * (1 + c.val) % p ≡ d.val → (residues p).mul (residue p x) ((residues p).add (residues p).one c) ≡ d
unfolding residues
tangent_law p x c d h =
    sym (residue_mul p x (1 + c.val) ∙ ap ((residues p).mul (residue p x)) (residue_add p 1 c.val ∙ ap ((residues p).add (residue p 1)) (residue_val p c)))
    ∙ sym (residue_mod p (x * (1 + c.val)))
    ∙ ap (residue p) h
    ∙ residue_val p d

module _ (m : ℕ) where
  -- a test of each number of t beside the power of r at its place
  abbrev Passes : (ℕ → ℕ → ℕ → Bool) → ℕ → List ℕ → Type 0
  Passes test n t = T (passes test (prime m) (root m).0.val (root m).1.val n 1 0 t)

  -- what is computed of the tables
  abbrev pub Powers : (re im : List ℕ) → Type 0
  Powers re im = T (follows (prime m) (root m).0.val (root m).1.val 2880 1 0 re im)

  abbrev pub Tangents : List ℕ → Type 0
  Tangents t = Passes (is_tangent (prime m)) 1440 t

  -- the test holds at every place
  rule : (test : ℕ → ℕ → ℕ → Bool) (n : ℕ) (t : List ℕ) → Passes test n t → (k : ℕ) → k < n
      → T (test (get_or t k 0) (pow (field m) (root m) k).0.val (pow (field m) (root m) k).1.val)
  rule test n t h k l =
      subst (λ (r : Value m). T (test (get_or t k 0) (pow (field m) r k).0.val (pow (field m) r k).1.val))
      (value_path (res_val m (root m).0) (res_val m (root m).1))
      (rule_at (prime m) _ _ (omega (arith, prime_least m)) (val_small m (root m).1) test n t h k l)

  -- the rules, for a modulus number that is known to be m
  module _ {m' : ℕ} (is : m' ≡ m) where
    pub power_table : {re im : List ℕ} → Powers re im → RealTable m' re × ImaginaryTable m' im
    power_table {re} {im} h = rw is (
      record { entry = λ k l. eqb→eq _ _ (rule is_real 2880 re both.0 k l) },
      record { entry = λ k l. eqb→eq _ _ (rule is_imaginary 2880 im both.1 k l) },
    )
      where
        both : Passes is_real 2880 re × Passes is_imaginary 2880 im
        both = parts _ _ _ 2880 _ _ re im h

    pub tangent_table : {t : List ℕ} → Tangents t → TangentTable m' t
    tangent_table {t} h = rw is (record {
      below = λ k l. ltb→lt _ _ (and_l (ltb (get_or t k 0) (prime m)) _ (rule (is_tangent (prime m)) 1440 t h k l));
      entry = λ k l. tangent_law (prime m) _ _ _ (eqb→eq _ _ (and_r (ltb (get_or t k 0) (prime m)) _ (rule (is_tangent (prime m)) 1440 t h k l)));
    })
