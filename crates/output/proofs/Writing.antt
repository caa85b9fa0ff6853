-- Texts that go to an output one after the other, and texts that are made of many.
use mathlib.Core.Path.{◌≡◌, refl, ap, sym, subst, ◌∙◌}
use mathlib.Core.Logic.{⊎_elim}
use mathlib.Core.List.{List, [], ◌∷◌, ◌++◌}
use Prim.Native.Nat.{ℕ, zero, suc, ◌+◌, ◌<◌, ◌≤◌}
use native.Mathlib.Nat.{eq-or-lt_of_le, le_antisymm, suc_inj}
use native.Mathlib.Numerals.{add-one}
use native.Mathlib.Omega.{arith}
use lib.ListN.{length, set, take, get_or, drop, length-append}
use lib.Seq.{sets, sets-eq, length-sets, take-suc}
use Rattle.algebra.proofs.ring.Laws.{along}
use Rattle.std.specs.Prelude.{Ok}
use Rattle.output.specs.Output.{each, written, filled}
use Rattle.output.specs.Written.{Wrote, Ends}
use Rattle.output.specs.Answers.{fill_outcome}

-- stores of two lists in a row
sets_append : (d : List ℕ) (i : ℕ) (s t : List ℕ) → sets d i (s ++ t) ≡ sets (sets d i s) (i + length s) t
sets_append d i [] t = along (λ (k : ℕ). sets d k t) i (i + 0) (omega arith)
sets_append d i (a ∷ s) t = sets_append (set d i a) (suc i) s t ∙ along (λ (k : ℕ). sets (sets (set d i a) (suc i) s) k t) (suc i + length s) (i + suc (length s)) (omega arith)

-- ---- one text after the other

pub wrote_none : (at : ℕ) (d : List ℕ) → Wrote at [] d at d
wrote_none at d = record { place = omega arith; bytes = refl }

pub wrote_append : {at e f : ℕ} {s t d d' d'' : List ℕ} → Wrote at s d e d' → Wrote e t d' f d'' → Wrote at (s ++ t) d f d''
wrote_append {at} {e} {f} {s} {t} {d} {d'} {d''} h k = record {
  place = omega (arith, h.place, k.place, length-append s t);
  bytes = k.bytes ∙ (λ i. sets (h.bytes i) (h.place i) t) ∙ sym (sets_append d at s t);
}

pub wrote_as : {at e : ℕ} {s t d d' : List ℕ} → Wrote at s d e d' → s ≡ t → Wrote at t d e d'
wrote_as {at} {e} {s} {t} {d} {d'} h q = subst (λ (l : List ℕ). Wrote at l d e d') q h

pub wrote_length : {at e : ℕ} {s d d' : List ℕ} → Wrote at s d e d' → length d' ≡ length d
wrote_length {at} {e} {s} {d} h = ap length h.bytes ∙ length-sets d at s

-- an output that is long enough holds the text
pub wrote_whole : {e : ℕ} {s d d' : List ℕ} → Wrote 0 s d e d' → length s ≤ length d → d' ≡ s ++ drop (length s) d
wrote_whole {e} {s} {d} h l = h.bytes ∙ sets-eq s d 0 (omega arith) ∙ along (λ (n : ℕ). s ++ drop n d) (0 + length s) (length s) (omega arith)

-- so it is filled with it
pub wrote_filled : {e : ℕ} {s d d' : List ℕ} → Wrote 0 s d e d' → length s ≤ length d → fill_outcome (Ok e) d' ≡ filled s d
wrote_filled {e} {s} w l = let n : e ≡ length s = omega (arith, w.place) in λ i. record { answer = written (n i); output = wrote_whole w l i }

pub ends_as : {at : ℕ} {s t : List ℕ} → Ends at s → s ≡ t → Ends at t
ends_as {at} h q = subst (Ends at) q h

-- where the first text ends, and the second one, if both in a row do
pub ends_left : {at : ℕ} (s t : List ℕ) → Ends at (s ++ t) → Ends at s
ends_left s t h = record { low = omega (arith, h.low, length-append s t) }

pub ends_right : {at e : ℕ} {s d d' : List ℕ} (t : List ℕ) → Wrote at s d e d' → Ends at (s ++ t) → Ends e t
ends_right {s = s} t w h = record { low = omega (arith, w.place, h.low, length-append s t) }

-- ---- the bytes of a list in a row

pub bytes_next : {at e f i : ℕ} {d d' d'' : List ℕ} (s : List ℕ) → i < length s → Wrote at (take i s) d e d' → Wrote e (get_or s i 0 ∷ []) d' f d'' → Wrote at (take (i + 1) s) d f d''
bytes_next {i = i} s l w k = rw (add-one, take-suc s i 0 l) (wrote_append w k)

-- ---- n texts in a row

-- the texts so far and one more are no longer than all
each_within : (f : ℕ → List ℕ) (y n : ℕ) → y < n → length (each y f) + length (f y) ≤ length (each n f)
unfolding each
each_within f y zero l = absurd (omega arith)
each_within f y (suc n) l = ⊎_elim
    (λ (e : suc y ≡ suc n). subst (λ (k : ℕ). length (each k f) + length (f k) ≤ length (each n f ++ f n)) (sym (suc_inj e)) (rw length-append (omega arith)))
    (λ (m : suc y < suc n). rw length-append (omega (arith, each_within f y n (omega arith))))
    (eq-or-lt_of_le l)

pub each_ends : {at e y n : ℕ} {d d' : List ℕ} (f : ℕ → List ℕ) → Ends at (each n f) → y < n → Wrote at (each y f) d e d' → Ends e (f y)
each_ends {y = y} {n} f h l w = record { low = omega (arith, h.low, w.place, each_within f y n l) }

pub each_next : {at e e' y : ℕ} {d d' d'' : List ℕ} (f : ℕ → List ℕ) → Wrote at (each y f) d e d' → Wrote e (f y) d' e' d'' → Wrote at (each (y + 1) f) d e' d''
unfolding each
each_next f w k = rw add-one (wrote_append w k)

pub each_none : (at : ℕ) (f : ℕ → List ℕ) (d : List ℕ) → Wrote at (each 0 f) d at d
unfolding each
each_none at f d = wrote_none at d

pub each_done : {at e y n : ℕ} {d d' : List ℕ} (f : ℕ → List ℕ) → y ≤ n → n ≤ y → Wrote at (each y f) d e d' → Wrote at (each n f) d e d'
each_done {at} {e} {y} {n} {d} {d'} f l m w = subst (λ (k : ℕ). Wrote at (each k f) d e d') (le_antisymm l m) w
