-- The first n bytes of a file settle where its parts stand, and what its lists are, as far as they stand below n.
use mathlib.Core.Path.{◌≡◌, sym, ap, ◌∙◌}
use mathlib.Core.Bool.{cond}
use mathlib.Core.List.{List, [], ◌∷◌}
use Prim.Native.Nat.{ℕ, zero, suc, ◌+◌, ◌<◌, ◌≤◌}
use native.Mathlib.Nat.{zero-add, suc-add}
use native.Mathlib.Omega.{arith}
use lib.Dec.{eqb}
use lib.ListN.{take, drop}
use lib.Seq.{take-nil, take-take}
use Rattle.file_format.specs.Format.{byte_at, version_at, modulus_at, modulus_in, lengths_at, list_at, after_list, list1_at, list2_at, list3_at, count_at}
use Rattle.file_format.proofs.integers.Numbers.{same_byte}
use Rattle.file_format.proofs.places.Versions.{lengths_low}

-- ---- a part of a list, as a part of its first n

take_drop : (a b : ℕ) (l : List ℕ) → take b (drop a l) ≡ drop a (take (a + b) l)
take_drop zero b l = ap (λ (k : ℕ). take k l) (sym (zero-add b))
take_drop (suc a) b [] = take-nil b ∙ sym (ap (drop (suc a)) (take-nil (suc a + b)))
take_drop (suc a) b (x ∷ l) = take_drop a b l ∙ ap (λ (k : ℕ). drop (suc a) (take k (x ∷ l))) (sym (suc-add a b))

part_of_head : (a b n : ℕ) (l : List ℕ) → a + b ≤ n → take b (drop a l) ≡ drop a (take (a + b) (take n l))
part_of_head a b n l h = take_drop a b l ∙ ap (drop a) (sym (take-take (a + b) n l h))

-- ---- two files with the same first n bytes

module _ (file file' : List ℕ) (n : ℕ) (same : take n file ≡ take n file') where
  same_after : (q : ℕ) → q < n → after_list file q ≡ after_list file' q
  same_after q h = ap (λ (b : ℕ). q + 1 + b) (same_byte file file' n same q h)

  pub same_lengths_at : version_at < n → lengths_at file ≡ lengths_at file'
  unfolding lengths_at
  same_lengths_at h = ap (λ (v : ℕ). cond (eqb v 2) 7 6) (same_byte file file' n same version_at h)

  pub same_modulus : modulus_at < n → modulus_in file ≡ modulus_in file'
  unfolding modulus_in
  same_modulus h =
      let version = same_byte file file' n same version_at (omega arith) in
      let modulus = same_byte file file' n same modulus_at h in
      λ i. cond (eqb (version i) 2) (modulus i) 1

  pub same_list1 : version_at < n → list1_at file ≡ list1_at file'
  same_list1 h = ap (λ (q : ℕ). q + 6) (same_lengths_at h)

  pub same_list2 : list1_at file < n → list2_at file ≡ list2_at file'
  unfolding list2_at
  same_list2 h = same_after (list1_at file) h ∙ ap (after_list file') (same_list1 (omega (arith, lengths_low file)))

  pub same_list3 : list2_at file < n → list3_at file ≡ list3_at file'
  unfolding list2_at list3_at
  same_list3 h = same_after (list2_at file) h ∙ ap (after_list file') (same_list2 (omega arith))

  pub same_count : list3_at file < n → count_at file ≡ count_at file'
  unfolding list3_at count_at
  same_count h = same_after (list3_at file) h ∙ ap (after_list file') (same_list3 (omega arith))

  pub same_list_lem : (q : ℕ) → after_list file q ≤ n → list_at file q ≡ list_at file' q
  unfolding list_at
  same_list_lem q h =
      let b = byte_at file q in
      part_of_head (q + 1) b n file h
      ∙ ap (λ (l : List ℕ). drop (q + 1) (take (q + 1 + b) l)) same
      ∙ sym (part_of_head (q + 1) b n file' h)
      ∙ ap (λ (b : ℕ). take b (drop (q + 1) file')) (same_byte file file' n same q (omega arith))
