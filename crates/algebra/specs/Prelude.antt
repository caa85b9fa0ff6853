-- The words of the logic's own libraries that definitions are written in: equality, truth values and tests, numbers,
-- lists.
pub use Rattle.std.specs.Prelude.{◌≡◌, ◌↔◌, Bool, true, false, ◌&&◌, ◌||◌, not, cond, eqb, leb, ltb}
pub use Rattle.std.specs.Prelude.{ℕ, zero, suc, ◌+◌, ◌*◌, ◌-◌, ◌/◌, ◌%◌, ◌<◌, ◌≤◌, min}
pub use Rattle.std.specs.Prelude.{List, [], ◌∷◌, ◌++◌, map, length, get_or, set, take, drop, replicate}
