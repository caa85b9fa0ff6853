-- The Chinese remainder theorem for the two primes: 86,399 * 181,438 = 1 + 302,399 * 51,839.
use mathlib.Core.Path.{◌≡◌, refl, sym, ◌∙◌, ap}
use Prim.Native.Nat.{ℕ, ◌+◌, ◌*◌, ◌-◌, ◌/◌, ◌%◌, ◌<◌}
use native.Mathlib.Nat.{add-mod-mod, add-mul-mod_self_left, mod-eq_of_lt}
use native.Mathlib.Omega.{arith}
use Rattle.algebra.proofs.ring.Laws.{along}
use Rattle.algebra.proofs.ring.ResidueRing.{mul_mod_mod}
use Rattle.signed.specs.Integers.{ℤ, pos, negsuc, residue_z, centred}
use Rattle.signed.proofs.Centred.{centred_only}
use Rattle.combined.specs.Chinese.{common, combined, Combines, CombinedOnly}

-- ---- the number below 86,399 * 302,399 with both residues

pub common_low : (x y : ℕ) → x < 86399 → common x y < 26126971201
unfolding common
common_low x y l = omega arith

common_first : (x y : ℕ) → x < 86399 → common x y % 86399 ≡ x
unfolding common
common_first x y l = omega arith

-- x + p (t mod q) is x + p t, which is y and a multiple of q
step : (x t : ℕ) → (x + 86399 * (t % 302399)) % 302399 ≡ (x + 86399 * t) % 302399
step x t = sym (add-mod-mod x (86399 * (t % 302399)) 302399) ∙ ap (λ s. (x + s) % 302399) (mul_mod_mod 86399 t 302399) ∙ add-mod-mod x (86399 * t) 302399

regroup : (x y : ℕ) → x < 86399 → x + 86399 * ((y + 302399 - x) * 181438) ≡ y + 302399 * (1 + (y + 302399 - x) * 51839)
regroup x y l = omega arith

common_second : (x y : ℕ) → x < 86399 → y < 302399 → common x y % 302399 ≡ y
unfolding common
common_second x y l k =
    step x ((y + 302399 - x) * 181438)
    ∙ along (λ n. n % 302399) (x + 86399 * ((y + 302399 - x) * 181438)) (y + 302399 * (1 + (y + 302399 - x) * 51839)) (regroup x y l)
    ∙ add-mul-mod_self_left y 302399 (1 + (y + 302399 - x) * 51839) ∙ mod-eq_of_lt k

-- of n = x + p k: (y + q - x)/p is k modulo q
quotient : (n : ℕ) → n < 26126971201 → (n % 302399 + 302399 - n % 86399) * 181438 % 302399 ≡ n / 86399
quotient n l =
    sym (add-mul-mod_self_left ((n % 302399 + 302399 - n % 86399) * 181438) 302399 (n / 302399 * 181438))
    ∙ along (λ s. s % 302399) ((n % 302399 + 302399 - n % 86399) * 181438 + 302399 * (n / 302399 * 181438)) (n / 86399 + 302399 * (n / 86399 * 51839 + 181438)) (omega arith)
    ∙ add-mul-mod_self_left (n / 86399) 302399 (n / 86399 * 51839 + 181438) ∙ mod-eq_of_lt (omega arith)

common_only : (n x y : ℕ) → n < 26126971201 → n % 86399 ≡ x → n % 302399 ≡ y → n ≡ common x y
unfolding common
common_only n x y l e f = go ∙ (λ i. common (e i) (f i))
  where
    go : n ≡ common (n % 86399) (n % 302399)
    go = rw (quotient n l) (omega arith)

-- ---- with a sign: the residue modulo the product of both primes has the residues modulo each

residue_low : (z : ℤ) → residue_z 26126971201 z < 26126971201
unfolding residue_z
residue_low (pos n) = omega arith
residue_low (negsuc n) = omega arith

residue_first : (z : ℤ) → residue_z 26126971201 z % 86399 ≡ residue_z 86399 z
unfolding residue_z
residue_first (pos n) = omega arith
residue_first (negsuc n) = omega arith

residue_second : (z : ℤ) → residue_z 26126971201 z % 302399 ≡ residue_z 302399 z
unfolding residue_z
residue_second (pos n) = omega arith
residue_second (negsuc n) = omega arith

combines : (x y : ℕ) → x < 86399 → y < 302399 → Combines x y (combined x y)
unfolding combined
combines x y l k =
    let c = centred_only.is 26126971201 (common x y) refl (common_low x y l) in
    let z = centred 26126971201 (common x y) in
    record {
      first = sym (residue_first z) ∙ ap (λ n. n % 86399) c.congruent ∙ common_first x y l;
      second = sym (residue_second z) ∙ ap (λ n. n % 302399) c.congruent ∙ common_second x y l k;
      near = c.near;
    }

only_one : (x y : ℕ) → x < 86399 → y < 302399 → (z : ℤ) → Combines x y z → z ≡ combined x y
unfolding combined
only_one x y l k z c = centred_only.only 26126971201 (common x y) refl (common_low x y l) z (record {
  congruent = common_only (residue_z 26126971201 z) x y (residue_low z) (residue_first z ∙ c.first) (residue_second z ∙ c.second);
  near = c.near;
})

pub combined_only : CombinedOnly
unfolding residue_z
combined_only = record {
  is = combines;
  only = only_one;
  zero = sym (only_one 0 0 (omega arith) (omega arith) (pos 0) (record { first = refl; second = refl; near = omega arith }));
}
