-- The two versions of a header: with the modulus in a byte of its own before the lengths, and without it.
use mathlib.Core.Path.{◌≡◌, refl, ap}
use mathlib.Core.Logic.{◌⊎◌, inl, inr}
use mathlib.Core.Bool.{cond}
use mathlib.Core.List.{List, [], ◌∷◌}
use Prim.Native.Nat.{ℕ, ◌+◌, ◌≤◌}
use native.Mathlib.Omega.{arith}
use native.Mathlib.Decide.{ℕ_discrete}
use lib.ListN.{length}
use borrow.Author.Tests.{eq-eqb, ne_eqb}
use Rattle.numbers.proofs.Primes.{by_choice}
use Rattle.file_format.specs.Format.{byte_at, version_at, modulus_at, has_modulus, modulus_in, lengths_at, version_of, modulus_bytes}

module _ (file : List ℕ) where
  pub with_modulus : byte_at file version_at ≡ 2 → (modulus_in file ≡ byte_at file modulus_at) × (lengths_at file ≡ 7)
  unfolding modulus_in lengths_at
  with_modulus e =
      let two = eq-eqb (byte_at file version_at) 2 e in
      (ap (λ b. cond b (byte_at file modulus_at) 1) two, ap (λ b. cond b 7 6) two)

  pub without_modulus : (byte_at file version_at ≡ 2 → ⊥) → (modulus_in file ≡ 1) × (lengths_at file ≡ 6)
  unfolding modulus_in lengths_at
  without_modulus e =
      let one = ne_eqb (byte_at file version_at) 2 e in
      (ap (λ b. cond b (byte_at file modulus_at) 1) one, ap (λ b. cond b 7 6) one)

  -- the lengths stand behind the modulus byte, where there is one
  pub lengths_behind : (m : ℕ) → lengths_at file ≡ 6 + length (modulus_bytes (byte_at file version_at) m)
  unfolding lengths_at
  lengths_behind m = by_choice (λ b. cond b 7 6 ≡ 6 + length (cond b (m ∷ []) [])) refl refl (has_modulus file)

  pub lengths_low : 6 ≤ lengths_at file
  unfolding lengths_at
  lengths_low = by_choice (λ b. 6 ≤ cond b 7 6) (omega arith) (omega arith) (has_modulus file)

-- the version that the writer uses holds the modulus
pub written_version : (m : ℕ) → (version_of m ≡ 2) ⊎ ((version_of m ≡ 1) × (m ≡ 1))
written_version m = go (ℕ_discrete m 1)
  where
    go : Dec (m ≡ 1) → (version_of m ≡ 2) ⊎ ((version_of m ≡ 1) × (m ≡ 1))
    go (yes e) = inr (ap (λ b. cond b 1 2) (eq-eqb m 1 e), e)
    go (no n) = inl (ap (λ b. cond b 1 2) (ne_eqb m 1 n))
