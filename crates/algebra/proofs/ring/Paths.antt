-- Pairs and triples are equal by their parts.
use mathlib.Core.Path.{◌≡◌}

pub pair : {A B : Type 0} {a c : A} {b d : B} → a ≡ c → b ≡ d → ◌≡◌ {A = A × B} (a, b) (c, d)
pair p q = λ i. (p i, q i)

pub triple : {A : Type 0} {a b c d e f : A} → a ≡ d → b ≡ e → c ≡ f → ◌≡◌ {A = A × A × A} (a, b, c) (d, e, f)
triple p q r = λ i. (p i, q i, r i)
