-- The bytes of a file read back: what stands from a place on settles the numbers, lists and records there, and what stands after them.
use mathlib.Core.Path.{◌≡◌, refl, sym, ◌∙◌, ap}
use mathlib.Core.List.{List, [], ◌∷◌, ◌++◌, append_assoc}
use Prim.Native.Nat.{ℕ, ◌+◌, ◌<◌}
use native.Mathlib.Omega.{arith}
use lib.ListN.{length, get_or, take, drop}
use lib.Seq.{get_or-drop, drop-drop, take-append_seam, drop-append_seam}
use Rattle.algebra.specs.orbits.Orbit.{Mem, first, later}
use Rattle.algebra.proofs.ring.Laws.{along}
use Rattle.file_format.specs.declared.FileRecord.{FileRecord}
use Rattle.output.specs.Output.{big_endian}
use Rattle.file_format.specs.Format.{byte_at, two_bytes, four_bytes, list_at, after_list, record_at, records_from, list_bytes, raw_bytes, all_bytes}
use Rattle.file_format.specs.Parsed.{ShortRecord}

pub right : (a b c d e t : List ℕ) → a ++ b ++ c ++ d ++ e ++ t ≡ a ++ (b ++ (c ++ (d ++ (e ++ t))))
right a b c d e t = simp append_assoc

module _ (file : List ℕ) where
  -- what stands from place q on
  abbrev pub Stands : ℕ → List ℕ → Type 0
  Stands q r = drop q file ≡ r

  stands_at : (q i : ℕ) (r : List ℕ) → Stands q r → byte_at file (q + i) ≡ get_or r i 0
  stands_at q i r e = sym (get_or-drop q file i 0) ∙ ap (λ l. get_or l i 0) e

  stands_after : (q n : ℕ) (r : List ℕ) → Stands q r → Stands (q + n) (drop n r)
  stands_after q n r e = sym (drop-drop n q file) ∙ ap (drop n) e

  pub byte_at_lem : (q x : ℕ) (t : List ℕ) → Stands q (x ∷ t) → (byte_at file q ≡ x) × Stands (q + 1) t
  byte_at_lem q x t e = (along (byte_at file) q (q + 0) (omega arith) ∙ stands_at q 0 (x ∷ t) e, stands_after q 1 (x ∷ t) e)

  module _ (q x : ℕ) (t : List ℕ) where
    pub two_at : x < 65536 → Stands q (big_endian 2 x ++ t) → (two_bytes file q ≡ x) × Stands (q + 2) t
    unfolding big_endian two_bytes
    two_at h e =
        let a = along (byte_at file) q (q + 0) (omega arith) ∙ stands_at q 0 (big_endian 2 x ++ t) e in
        let b = stands_at q 1 (big_endian 2 x ++ t) e in
        (omega (arith, a, b), stands_after q 2 (big_endian 2 x ++ t) e)

  module _ (q x : ℕ) (t : List ℕ) where
    pub four_at : x < 4294967296 → Stands q (big_endian 4 x ++ t) → (four_bytes file q ≡ x) × Stands (q + 4) t
    unfolding big_endian two_bytes four_bytes
    four_at h e =
        let a = along (byte_at file) q (q + 0) (omega arith) ∙ stands_at q 0 (big_endian 4 x ++ t) e in
        let b = stands_at q 1 (big_endian 4 x ++ t) e in
        let c = stands_at q 2 (big_endian 4 x ++ t) e in
        let d = along (byte_at file) (q + 2 + 1) (q + 3) (omega arith) ∙ stands_at q 3 (big_endian 4 x ++ t) e in
        (omega (arith, a, b, c, d), stands_after q 4 (big_endian 4 x ++ t) e)

  pub list_at_lem : (q : ℕ) (l t : List ℕ) → Stands q (list_bytes l ++ t) → (list_at file q ≡ l) × Stands (after_list file q) t
  unfolding list_at
  list_at_lem q l t e =
      let c = byte_at_lem q (length l) (l ++ t) e in
      let rest = c.1 in (
        (λ i. take (c.0 i) (rest i)) ∙ take-append_seam l t,
        along (λ n. drop n file) (q + 1 + byte_at file q) (q + 1 + length l) (omega (arith, c.0)) ∙ stands_after (q + 1) (length l) (l ++ t) rest ∙ drop-append_seam l t,
      )

  pub record_at_lem : (q : ℕ) (c : FileRecord) (t : List ℕ) → ShortRecord c → Stands q (raw_bytes c ++ t) → (record_at file q ≡ c) × Stands (q + 14) t
  unfolding record_at
  record_at_lem q c t s e =
      let h = two_at q c.h _ s.index.h (e ∙ right (big_endian 2 c.h) (big_endian 2 c.k) (big_endian 2 c.l) (big_endian 4 c.a) (big_endian 4 c.b) t) in
      let k = two_at (q + 2) c.k _ s.index.k h.1 in
      let l = two_at (q + 2 + 2) c.l _ s.index.l k.1 in
      let a = four_at (q + 2 + 2 + 2) c.a _ s.a l.1 in
      let b = four_at (q + 2 + 2 + 2 + 4) c.b t s.b a.1 in
      let l' = along (two_bytes file) (q + 4) (q + 2 + 2) (omega arith) ∙ l.0 in
      let a' = along (four_bytes file) (q + 6) (q + 2 + 2 + 2) (omega arith) ∙ a.0 in
      let b' = along (four_bytes file) (q + 10) (q + 2 + 2 + 2 + 4) (omega arith) ∙ b.0 in
      (λ i. record { h = h.0 i; k = k.0 i; l = l' i; a = a' i; b = b' i }, along (λ n. drop n file) (q + 14) (q + 2 + 2 + 2 + 4 + 4) (omega arith) ∙ b.1)

  pub records_at_lem : (q : ℕ) (cs : List FileRecord) → ((c : FileRecord) → Mem c cs → ShortRecord c) → Stands q (all_bytes cs) → records_from file q (length cs) ≡ cs
  unfolding records_from all_bytes
  records_at_lem q [] s e = refl
  records_at_lem q (c ∷ cs) s e =
      let r = record_at_lem q c (all_bytes cs) (s c first) e in
      let others = records_at_lem (q + 14) cs (λ d m. s d (later m)) r.1 in
      λ i. r.0 i ∷ others i
