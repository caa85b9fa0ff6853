-- What a loop that reads has taken so far: bytes behind those that a buffer has already, numbers of four bytes, numbers of a table by
-- the bytes that name them.
use Rattle.std.proofs.Common.{◌≡◌, Bool, true, false, Option, None, Some, ℕ, ◌+◌, ◌*◌, ◌/◌, ◌%◌, ◌<◌, ◌≤◌, List, [], ◌∷◌, ◌++◌, length, take, drop, get_or, set, refl, sym, ap, ◌∙◌, subst, arith, le_refl, drop_at, drop-cons, drop_of_length-le, length-drop, length-take-le}
use Rattle.std.proofs.lemmas.Slice.{take-put_mid_below}
use Rattle.std.proofs.lemmas.List.{get_or-set_same, get_or-set_other}
use Rattle.std.specs.Prelude.{IfSome, ℤ, pos}
use borrow.Rule.Slice.PartMut.{put_mid, post_of}
use lib.Seq.{take-add, take-append-le, drop-drop}
use native.Mathlib.Decide.{ℕ_discrete}
use Rattle.output.specs.Output.{big_endian}
use Rattle.test_io.specs.Taken.{TakesBytes}

-- ---- bytes

pub take_read : (a k n : ℕ) (xs ys : List ℕ) → a ≤ length xs → n ≤ length ys → take (a + n) (put_mid a k xs ys) ≡ take a xs ++ take n ys
take_read a k n xs ys within fits = take-add a n (put_mid a k xs ys) ∙ (λ i. take-put_mid_below a k xs ys a (le_refl a) within i ++ behind i)
  where
    behind : take n (drop a (put_mid a k xs ys)) ≡ take n ys
    behind = ap (take n) (drop_at (take a xs) (ys ++ post_of a k xs) a (length-take-le a xs within)) ∙ take-append-le n ys (post_of a k xs) fits

-- ---- numbers

pub number_bytes : (c : List ℕ) → length c ≡ 4 → ((i : ℕ) → get_or c i 0 < 256) →
    big_endian 4 ((get_or c 0 0 * 256 + get_or c 1 0) * 65536 + (get_or c 2 0 * 256 + get_or c 3 0)) ≡ c
unfolding big_endian
number_bytes (a ∷ b ∷ c ∷ d ∷ []) l h =
    let ha = h 0 in let hb = h 1 in let hc = h 2 in let hd = h 3 in
    let x = (a * 256 + b) * 65536 + (c * 256 + d) in
    let ea : x / 256 / 256 / 256 % 256 ≡ a = omega arith in
    let eb : x / 256 / 256 % 256 ≡ b = omega arith in
    let ec : x / 256 % 256 ≡ c = omega arith in
    let ed : x % 256 ≡ d = omega arith in
    λ i. ea i ∷ eb i ∷ ec i ∷ ed i ∷ []
number_bytes [] l h = absurd (omega arith)
number_bytes (a ∷ []) l h = absurd (omega arith)
number_bytes (a ∷ b ∷ []) l h = absurd (omega arith)
number_bytes (a ∷ b ∷ c ∷ []) l h = absurd (omega arith)
number_bytes (a ∷ b ∷ c ∷ d ∷ e ∷ s) l h = absurd (omega arith)

-- ---- numbers of a table

-- the first j bytes, or all that there were, and the numbers that they name
abbrev pub NamedSoFar : (old now : Option (List ℕ)) → (table v : List ℤ) → ℕ → Type 0
NamedSoFar old now table v j = IfSome old (λ codes. (now ≡ Some (drop j codes))
    × ((k : ℕ) → k < length codes → k < j → get_or v k (pos 0) ≡ get_or table (get_or codes k 0) (pos 0)))

-- what one byte more takes of known bytes: the first, or none where none is left
taken_next : (codes : List ℕ) (j : ℕ) (new : Option (List ℕ)) (whole : Bool) (c : List ℕ) → length c ≡ 1 → TakesBytes (Some (drop j codes)) new whole c
    → (new ≡ Some (drop (j + 1) codes)) × (j < length codes → get_or c 0 0 ≡ get_or codes j 0)
taken_next codes j None true c l t = absurd t
taken_next codes j (Some ys) true (b ∷ []) l t =
    let rest : drop (j + 1) codes ≡ ys = sym (drop-drop 1 j codes) ∙ ap (drop 1) t in
    (ap Some (sym rest), λ h. sym (ap (λ s. get_or s 0 0) (sym (drop-cons codes j 0 h) ∙ t)))
taken_next codes j (Some ys) true [] l t = absurd (omega arith)
taken_next codes j (Some ys) true (b ∷ d ∷ c) l t = absurd (omega arith)
taken_next codes j None false c l t = absurd t.3
taken_next codes j (Some ys) false c l t =
    let none : drop j codes ≡ [] = t.3 ∙ (λ i. take (zero_of i) c ++ t.0 i) in
    let short : length codes ≤ j = omega (arith, length-drop j codes, ap length none) in
    (ap Some (t.0 ∙ sym (drop_of_length-le codes (omega (arith, short)))), λ h. absurd (omega arith))
  where
    zero_of : t.1 ≡ 0
    zero_of = omega (arith, t.2, l)

pub named_none : (old : Option (List ℕ)) (table v : List ℤ) → NamedSoFar old old table v 0
named_none None table v = tt
named_none (Some codes) table v = (refl, λ k a b. absurd (omega arith))

pub named_next : (old now new : Option (List ℕ)) (table v : List ℤ) (j : ℕ) (whole : Bool) (c : List ℕ) (x : ℤ) → length c ≡ 1 → j < length v
    → x ≡ get_or table (get_or c 0 0) (pos 0) → NamedSoFar old now table v j → TakesBytes now new whole c → NamedSoFar old new table (set v j x) (j + 1)
named_next None now new table v j whole c x l b e h t = tt
named_next (Some codes) now new table v j whole c x l b e h t =
    let n = taken_next codes j new whole c l (subst (λ o. TakesBytes o new whole c) h.0 t) in
    (n.0, λ k a m. at k a m (ℕ_discrete k j) n.1)
  where
    at : (k : ℕ) → k < length codes → k < j + 1 → Dec (k ≡ j) → (j < length codes → get_or c 0 0 ≡ get_or codes j 0) → get_or (set v j x) k (pos 0) ≡ get_or table (get_or codes k 0) (pos 0)
    at k a m (yes q) n = rw q (get_or-set_same v j x (pos 0) b ∙ e ∙ ap (λ i. get_or table i (pos 0)) (n (omega arith)))
    at k a m (no q) n = get_or-set_other v j k x (pos 0) q ∙ h.1 k a (omega arith)
