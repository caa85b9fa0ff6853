-- The file, part by part: how long it is, and that its parts one after another make it.
use mathlib.Core.Path.{◌≡◌, sym, ◌∙◌, ap}
use mathlib.Core.List.{List, ◌∷◌, ◌++◌, append_assoc}
use Prim.Native.Nat.{ℕ, ◌+◌, ◌*◌}
use native.Mathlib.Omega.{arith}
use lib.ListN.{length, length-append}
use Rattle.header.specs.Header.{Header}
use Rattle.output.specs.Output.{big_endian}
use Rattle.output.proofs.BigEndian.{length_bytes}
use Rattle.file_format.specs.declared.FileRecord.{FileRecord}
use Rattle.file_format.specs.Format.{modulus_bytes, list_bytes, header_bytes, all_bytes, body, file_of}
use Rattle.file_format.proofs.layout.ByteLaws.{length_all}

pub length_header : (version m : ℕ) (h : Header) → length (header_bytes version m h) ≡ 11 + length (modulus_bytes version m) + length h.list1 + length h.list2 + length h.list3
unfolding header_bytes big_endian
length_header version m h =
    let a = list_bytes h.list1 in
    let b = list_bytes h.list2 in
    let c = list_bytes h.list3 in
    let p = modulus_bytes version m in
    let x = big_endian 2 h.lengths.0 in
    let y = big_endian 2 h.lengths.1 in
    let z = big_endian 2 h.lengths.2 in
    let n = p ++ x ++ y ++ z in
    omega (arith, length-append (n ++ a ++ b) c, length-append (n ++ a) b, length-append n a, length-append (p ++ x ++ y) z, length-append (p ++ x) y, length-append p x)

pub length_body : (version m : ℕ) (h : Header) (cs : List FileRecord) → length (body version m h cs) ≡ length (header_bytes version m h) + 4 + 14 * length cs
length_body version m h cs =
    let head = header_bytes version m h in
    omega (arith, length-append (head ++ big_endian 4 (length cs)) (all_bytes cs), length-append head (big_endian 4 (length cs)), length_bytes 4 (length cs), length_all cs)

pub length_file : (version m : ℕ) (h : Header) (cs : List FileRecord) → length (file_of version m h cs) ≡ length (header_bytes version m h) + 8 + 14 * length cs
unfolding file_of
length_file version m h cs =
    let rest = body version m h cs in
    omega (arith, length-append (big_endian 4 (length rest)) rest, length_bytes 4 (length rest), length_body version m h cs)

-- the parts as they are stored one after another; n is the count of the bytes that follow, k that of the records
pub file_parts : (version m : ℕ) (h : Header) (cs : List FileRecord) (n k : ℕ) → n ≡ length (body version m h cs) → k ≡ length cs →
    big_endian 4 n ++ header_bytes version m h ++ big_endian 4 k ++ all_bytes cs ≡ file_of version m h cs
unfolding file_of
file_parts version m h cs n k e f =
    let head = header_bytes version m h in
    append_assoc (big_endian 4 n ++ head) (big_endian 4 k) (all_bytes cs)
    ∙ append_assoc (big_endian 4 n) head (big_endian 4 k ++ all_bytes cs)
    ∙ ap (λ (l : List ℕ). big_endian 4 n ++ l) (sym (append_assoc head (big_endian 4 k) (all_bytes cs)))
    ∙ (λ i. big_endian 4 (e i) ++ (head ++ big_endian 4 (f i) ++ all_bytes cs))

-- the parts, each before the rest
header_right : (p a b c d e f m n : List ℕ) → p ++ a ++ b ++ c ++ d ++ e ++ f ++ m ++ n ≡ p ++ (a ++ (b ++ (c ++ (d ++ (e ++ (f ++ (m ++ n)))))))
header_right p a b c d e f m n = simp append_assoc

pub parts_apart : (version m : ℕ) (h : Header) (cs : List FileRecord) → let n = h.lengths in
    file_of version m h cs ≡ big_endian 4 (length (body version m h cs)) ++ version ∷ h.group ∷ (modulus_bytes version m ++ (big_endian 2 n.0 ++ (big_endian 2 n.1 ++ (big_endian 2 n.2 ++ (list_bytes h.list1 ++ (list_bytes h.list2 ++ (list_bytes h.list3 ++ (big_endian 4 (length cs) ++ all_bytes cs))))))))
unfolding file_of header_bytes
parts_apart version m h cs = ap (λ (l : List ℕ). big_endian 4 (length (body version m h cs)) ++ version ∷ h.group ∷ l)
    (header_right (modulus_bytes version m) (big_endian 2 h.lengths.0) (big_endian 2 h.lengths.1) (big_endian 2 h.lengths.2) (list_bytes h.list1) (list_bytes h.list2) (list_bytes h.list3) (big_endian 4 (length cs)) (all_bytes cs))
