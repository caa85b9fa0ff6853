-- The bytes of a file before its record count settle the header that it holds.
use mathlib.Core.Path.{◌≡◌, ap, ◌∙◌}
use mathlib.Core.List.{List}
use Prim.Native.Nat.{ℕ, ◌+◌, ◌≤◌}
use native.Mathlib.Omega.{arith}
use lib.ListN.{take}
use Rattle.file_format.proofs.integers.Numbers.{same_byte, same_two_bytes}
use Rattle.file_format.specs.Format.{two_bytes, list_at, lengths_at, list1_at, list2_at, list3_at, count_at, header_in}
use Rattle.file_format.proofs.places.Versions.{lengths_low}
use Rattle.file_format.proofs.places.Heads.{same_lengths_at, same_list1, same_list2, same_list3, same_list_lem}

pub same_header : (file file' : List ℕ) (n : ℕ) → take n file ≡ take n file' → count_at file ≤ n → header_in file ≡ header_in file'
unfolding list2_at list3_at count_at
same_header file file' n same h =
    let low = lengths_low file in
    let group = same_byte file file' n same 5 (omega arith) in
    let at = same_lengths_at file file' n same (omega arith) in
    let n1 = same_two_bytes file file' n same (lengths_at file) (omega arith) ∙ ap (two_bytes file') at in
    let n2 = same_two_bytes file file' n same (lengths_at file + 2) (omega arith) ∙ ap (λ (q : ℕ). two_bytes file' (q + 2)) at in
    let n3 = same_two_bytes file file' n same (lengths_at file + 4) (omega arith) ∙ ap (λ (q : ℕ). two_bytes file' (q + 4)) at in
    let list1 = same_list_lem file file' n same (list1_at file) (omega arith) ∙ ap (list_at file') (same_list1 file file' n same (omega arith)) in
    let list2 = same_list_lem file file' n same (list2_at file) (omega arith) ∙ ap (list_at file') (same_list2 file file' n same (omega arith)) in
    let list3 = same_list_lem file file' n same (list3_at file) (omega arith) ∙ ap (list_at file') (same_list3 file file' n same (omega arith)) in
    λ i. record { group = group i; lengths = (n1 i, n2 i, n3 i); list1 = list1 i; list2 = list2 i; list3 = list3 i }
