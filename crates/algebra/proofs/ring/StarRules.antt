-- Rules to quote what a conjugation is applied to, so that the solver proves identities with `conj` in them:
-- ring 𝓡 (i ∷ conj a ∷ []) (search (quote_star, 𝓢) depth 40 fits 9999) refl.
use mathlib.Core.Path.{sym}
use mathlib.Core.List.{List}
use Rattle.algebra.specs.ring.Ring.{Ops}
use Rattle.algebra.specs.ring.RingLaws.{Star}
use Rattle.algebra.proofs.ring.Solver.{quote, Q, q_by}

module _ {R : Type 0} {𝓞 : Ops R} {conj : R → R} {i : R} (𝓢 : Star 𝓞 conj i) where
  open 𝓞 use {add as ◌⊕◌, mul as ◌⊗◌, neg as ⊖◌, zer as 𝟘, one as 𝟙}

  infixl 65 ◌⊕◌
  infixl 70 ◌⊗◌
  infix 75 ⊖◌
  abbrev pub q_conj_add : {xs : List R} {a b : R} → Q 𝓞 xs (conj a ⊕ conj b) → Q 𝓞 xs (conj (a ⊕ b))
  q_conj_add {a} {b} p = q_by (sym (𝓢.conj_add a b)) p

  abbrev pub q_conj_mul : {xs : List R} {a b : R} → Q 𝓞 xs (conj a ⊗ conj b) → Q 𝓞 xs (conj (a ⊗ b))
  q_conj_mul {a} {b} p = q_by (sym (𝓢.conj_mul a b)) p

  abbrev pub q_conj_neg : {xs : List R} {a : R} → Q 𝓞 xs (⊖ conj a) → Q 𝓞 xs (conj (⊖ a))
  q_conj_neg {a} p = q_by (sym (𝓢.conj_neg a)) p

  abbrev pub q_conj_one : {xs : List R} → Q 𝓞 xs 𝟙 → Q 𝓞 xs (conj 𝟙)
  q_conj_one p = q_by (sym 𝓢.conj_one) p

  abbrev pub q_conj_conj : {xs : List R} {a : R} → Q 𝓞 xs a → Q 𝓞 xs (conj (conj a))
  q_conj_conj {a} p = q_by (sym (𝓢.conj_conj a)) p

  abbrev pub q_conj_i : {xs : List R} → Q 𝓞 xs (⊖ i) → Q 𝓞 xs (conj i)
  q_conj_i p = q_by (sym 𝓢.conj_i) p

pub ruleset quote_star = (quote, q_conj_i, q_conj_one, q_conj_add, q_conj_mul, q_conj_neg, q_conj_conj)
