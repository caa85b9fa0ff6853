-- How many bytes a record and a list of records have, and those of two lists in a row.
use mathlib.Core.Path.{◌≡◌, refl, sym, ◌∙◌, ap}
use mathlib.Core.List.{List, [], ◌∷◌, ◌++◌, append_assoc}
use Prim.Native.Nat.{ℕ, suc, ◌*◌}
use native.Mathlib.Omega.{arith}
use lib.ListN.{length, length-append}
use Rattle.output.specs.Output.{big_endian}
use Rattle.file_format.specs.declared.FileRecord.{FileRecord}
use Rattle.file_format.specs.Format.{raw_bytes, all_bytes}

pub length_record : (c : FileRecord) → length (raw_bytes c) ≡ 14
unfolding big_endian
length_record c = refl

pub length_all : (cs : List FileRecord) → length (all_bytes cs) ≡ 14 * length cs
unfolding all_bytes
length_all [] = refl
length_all (c ∷ cs) = one_more (raw_bytes c) (all_bytes cs) (length cs) (length_record c) (length_all cs)
  where
    one_more : (l m : List ℕ) (n : ℕ) → length l ≡ 14 → length m ≡ 14 * n → length (l ++ m) ≡ 14 * suc n
    one_more l m n e f = omega (arith, length-append l m, e, f)

pub all_append : (cs ds : List FileRecord) → all_bytes (cs ++ ds) ≡ all_bytes cs ++ all_bytes ds
unfolding all_bytes
all_append [] ds = refl
all_append (c ∷ cs) ds = ap (λ (l : List ℕ). raw_bytes c ++ l) (all_append cs ds) ∙ sym (append_assoc (raw_bytes c) (all_bytes cs) (all_bytes ds))
