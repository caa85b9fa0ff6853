-- By the version of the modulus: two bytes or three.
use borrow.Author.Rules.{rules}
use mathlib.Core.Path.{◌≡◌, sym, ap}
use mathlib.Core.Bool.{Bool, cond}
use mathlib.Core.List.{List, [], ◌∷◌}
use Prim.Native.Nat.{ℕ}
use native.Mathlib.Omega.{arith}
use lib.ListN.{length}
use borrow.Author.Tests.{eq-eqb, ne_eqb}
use Rattle.output.proofs.Writing.{wrote_append, wrote_as}
use Rattle.file_format.specs.Format.{version_of, modulus_bytes}
use Rattle.factor_file.proofs.file.head.put_numbers.Statement.{statement}
use Rattle.factor_file.proofs.file.head.put_numbers.Tie as tie

module _ (m group : ℕ) where
  -- the bytes, by whether the modulus is the first
  abbrev numbers : Bool → List ℕ
  numbers b = cond b 1 2 ∷ group ∷ modulus_bytes (cond b 1 2) m

  first_bytes : m ≡ 1 → 1 ∷ group ∷ [] ≡ version_of m ∷ group ∷ modulus_bytes (version_of m) m
  first_bytes e = sym (ap numbers (eq-eqb m 1 e))

  second_bytes : (m ≡ 1 → ⊥) → 2 ∷ group ∷ m ∷ [] ≡ version_of m ∷ group ∷ modulus_bytes (version_of m) m
  second_bytes e = sym (ap numbers (ne_eqb m 1 e))

put_byte-next-requires : tie.Need-put_byte-next-requires
put_byte-next-requires c κs = record { low = omega (arith, c.before.before.before.requires.2.low) }

overflow_cast-group : tie.Need-overflow_cast-group
overflow_cast-group c = omega (arith, c.before.before.before.before.before.before.before.requires.1)

put_byte-requires : tie.Need-put_byte-requires
put_byte-requires c κs = record { low = omega (arith, c.before.before.before.before.before.before.before.requires.2.low, c.before.before.before.put_byte-next.ensures.place) }

shape_of-out-then-modulus-eq1 : tie.Need-shape_of-out-then-modulus-eq1
shape_of-out-then-modulus-eq1 c = search rules

returns-then-modulus-eq1 : tie.Need-returns-then-modulus-eq1
returns-then-modulus-eq1 c =
    let group = c.before.before in
    let version = group.before.before.before.before in
    let t = version.before.before in
    let a = t.before.before.args in
    wrote_as (wrote_append version.put_byte-next.ensures group.put_byte.ensures) (first_bytes a.modulus a.group t.if-modulus-eq1.true)

put_byte-next-requires-2 : tie.Need-put_byte-next-requires-2
put_byte-next-requires-2 c κs = record { low = omega (arith, c.before.before.before.requires.2.low) }

overflow_cast-group-2 : tie.Need-overflow_cast-group-2
overflow_cast-group-2 c = omega (arith, c.before.before.before.before.before.before.before.requires.1)

put_byte-third-requires : tie.Need-put_byte-third-requires
put_byte-third-requires c κs = record { low = omega (arith, c.before.before.before.before.before.before.before.requires.2.low, c.before.before.before.put_byte-next-2.ensures.place) }

overflow_cast-modulus : tie.Need-overflow_cast-modulus
overflow_cast-modulus c = omega (arith, c.before.before.before.before.before.before.before.before.before.before.before.requires.0)

put_byte-requires-2 : tie.Need-put_byte-requires-2
put_byte-requires-2 c κs =
    let group = c.before.before.before in
    let version = group.before.before.before.before in
    let t = version.before.before in
    let s = t.before.before in
    record { low = omega (arith, s.requires.2.low, version.put_byte-next-2.ensures.place, group.put_byte-third.ensures.place, ap length (second_bytes s.args.modulus s.args.group t.if-modulus-eq1.false)) }

shape_of-out : tie.Need-shape_of-out
shape_of-out c = search rules

returns : tie.Need-returns
returns c =
    let modulus = c.before.before in
    let group = modulus.before.before.before.before in
    let version = group.before.before.before.before in
    let t = version.before.before in
    let a = t.before.before.args in
    wrote_as (wrote_append (wrote_append version.put_byte-next-2.ensures group.put_byte-third.ensures) modulus.put_byte-2.ensures) (second_bytes a.modulus a.group t.if-modulus-eq1.false)

pub put_numbers_spec : {M : Type 1} → statement M
put_numbers_spec =
    tie.close
    (tie.spec put_byte-next-requires overflow_cast-group put_byte-requires shape_of-out-then-modulus-eq1 returns-then-modulus-eq1 put_byte-next-requires-2 overflow_cast-group-2 put_byte-third-requires overflow_cast-modulus put_byte-requires-2 shape_of-out returns)
