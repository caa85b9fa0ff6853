-- How large the numbers of a file are, and that the first n bytes of a file settle the numbers that are read below n.
use mathlib.Core.Path.{◌≡◌, sym, ap, ◌∙◌}
use mathlib.Core.List.{List}
use Prim.Native.Nat.{ℕ, ◌+◌, ◌*◌, ◌<◌, ◌≤◌}
use native.Mathlib.Omega.{arith}
use lib.ListN.{take}
use lib.Seq.{get_or-take}
use Rattle.file_format.specs.Format.{byte_at, two_bytes, four_bytes}

-- a number of two bytes has 16 bits, one of four has 32
pub two_bytes_fit : (file : List ℕ) (q : ℕ) → ((i : ℕ) → byte_at file i < 256) → two_bytes file q < 65536
unfolding two_bytes
two_bytes_fit file q h = omega (arith, h q, h (q + 1))

pub four_bytes_fit : (file : List ℕ) (q : ℕ) → ((i : ℕ) → byte_at file i < 256) → four_bytes file q < 4294967296
unfolding two_bytes four_bytes
four_bytes_fit file q h = omega (arith, h q, h (q + 1), h (q + 2), h (q + 2 + 1))

-- ---- two files with the same first n bytes

module _ (file file' : List ℕ) (n : ℕ) (same : take n file ≡ take n file') where
  pub same_byte : (q : ℕ) → q < n → byte_at file q ≡ byte_at file' q
  same_byte q h = sym (get_or-take n file q 0 h) ∙ ap (λ (l : List ℕ). byte_at l q) same ∙ get_or-take n file' q 0 h

  pub same_two_bytes : (q : ℕ) → q + 2 ≤ n → two_bytes file q ≡ two_bytes file' q
  unfolding two_bytes
  same_two_bytes q h =
      let high = same_byte q (omega arith) in
      let low = same_byte (q + 1) (omega arith) in
      λ i. high i * 256 + low i

  pub same_four_bytes : (q : ℕ) → q + 4 ≤ n → four_bytes file q ≡ four_bytes file' q
  unfolding four_bytes
  same_four_bytes q h =
      let high = same_two_bytes q (omega arith) in
      let low = same_two_bytes (q + 2) (omega arith) in
      λ i. high i * 65536 + low i
