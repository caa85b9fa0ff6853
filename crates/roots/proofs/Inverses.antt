-- The inverse of the first prime's root, by its numbers.
use Rattle.numbers.specs.Value.{Value, value}

abbrev pub first_inverse : Value 1
first_inverse = value 1 14473 56576
