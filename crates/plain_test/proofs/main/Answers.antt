-- Every list has factors 2 to 5, by one test, and every length divides 2,880.
use Rattle.std.proofs.Common.{[], ◌∷◌, refl}
use Rattle.lengths.specs.Lengths.{octal, product}
use Rattle.plain_test.proofs.Lines.{two_to_five, listed}
use Rattle.plain_test.proofs.main.Goals as goal

pub each-requires : goal.each-requires
unfolding octal product two_to_five
each-requires c = (listed [] tt, refl)

pub each-requires-2 : goal.each-requires-2
unfolding octal product two_to_five
each-requires-2 c = (listed (2 ∷ []) tt, refl)

pub each-requires-3 : goal.each-requires-3
unfolding octal product two_to_five
each-requires-3 c = (listed (3 ∷ []) tt, refl)

pub each-requires-4 : goal.each-requires-4
unfolding octal product two_to_five
each-requires-4 c = (listed (4 ∷ []) tt, refl)

pub each-requires-5 : goal.each-requires-5
unfolding octal product two_to_five
each-requires-5 c = (listed (5 ∷ []) tt, refl)

pub each-requires-6 : goal.each-requires-6
unfolding octal product two_to_five
each-requires-6 c = (listed (2 ∷ 3 ∷ []) tt, refl)

pub each-requires-7 : goal.each-requires-7
unfolding octal product two_to_five
each-requires-7 c = (listed (3 ∷ 2 ∷ []) tt, refl)

pub each-requires-8 : goal.each-requires-8
unfolding octal product two_to_five
each-requires-8 c = (listed (5 ∷ 3 ∷ 3 ∷ []) tt, refl)

pub each-requires-9 : goal.each-requires-9
unfolding octal product two_to_five
each-requires-9 c = (listed (3 ∷ 5 ∷ 3 ∷ []) tt, refl)

pub each-requires-10 : goal.each-requires-10
unfolding octal product two_to_five
each-requires-10 c = (listed (2 ∷ 3 ∷ 4 ∷ 2 ∷ 3 ∷ []) tt, refl)

pub each-requires-11 : goal.each-requires-11
unfolding octal product two_to_five
each-requires-11 c = (listed (4 ∷ 3 ∷ 3 ∷ 4 ∷ []) tt, refl)

pub each-requires-12 : goal.each-requires-12
unfolding octal product two_to_five
each-requires-12 c = (listed (4 ∷ 4 ∷ 4 ∷ 3 ∷ 3 ∷ []) tt, refl)

pub each-requires-13 : goal.each-requires-13
unfolding octal product two_to_five
each-requires-13 c = (listed (3 ∷ 5 ∷ 4 ∷ 3 ∷ 4 ∷ []) tt, refl)

pub each-requires-14 : goal.each-requires-14
unfolding octal product two_to_five
each-requires-14 c = (listed (2 ∷ 2 ∷ 2 ∷ 2 ∷ 2 ∷ 3 ∷ 3 ∷ 5 ∷ []) tt, refl)

pub each-requires-15 : goal.each-requires-15
unfolding octal product two_to_five
each-requires-15 c = (listed (5 ∷ 4 ∷ 4 ∷ 3 ∷ 3 ∷ 2 ∷ []) tt, refl)

pub each-requires-16 : goal.each-requires-16
unfolding octal product two_to_five
each-requires-16 c = (listed (2 ∷ 2 ∷ 2 ∷ 2 ∷ 2 ∷ 2 ∷ 3 ∷ 3 ∷ 5 ∷ []) tt, refl)

pub each-requires-17 : goal.each-requires-17
unfolding octal product two_to_five
each-requires-17 c = (listed (2 ∷ 5 ∷ 3 ∷ 4 ∷ 3 ∷ 4 ∷ 2 ∷ []) tt, refl)
