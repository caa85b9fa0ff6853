-- The records that are taken, computed from the definitions.
use mathlib.Core.Path.{refl}
use mathlib.Core.List.{map}
use Rattle.algebra.specs.ring.Ring.{pow, residue, residues, gauss, conj, imag}
use Rattle.algebra.specs.cells.Cell.{neg_i, flip, image_of, span, planes, sgn, star, implied_value, factor_acts, below, every, agrees_t}
use Rattle.algebra.specs.cells.CellPack.{even}
use Rattle.algebra.specs.orbits.Orbit.{written, recorded}
use Rattle.numbers.specs.Value.{prime, value_of, pair_of}
use Rattle.slices.specs.Pairs.{at, put, all_below}
use Rattle.lengths.specs.Lengths.{octal, product, admitted, factors_ok, digits}
use Rattle.refusals.specs.Refusals.{first}
use Rattle.cell.specs.Volume.{numbers_read}
use Rattle.cell.specs.Consistency.{write_alternating, write, write_images, agrees_with_itself, orbit_numbers, orbit_free}
use Rattle.job.specs.Job.{valid_job, open_step, record_step}
use Rattle.demands.specs.Specimens.{taken, taken_records, AllHold}

pub taken_hold : AllHold (map taken taken_records)
unfolding pow gauss conj imag residue residues neg_i flip image_of span planes sgn star implied_value factor_acts below every agrees_t even written recorded prime value_of pair_of at put all_below octal product first admitted factors_ok digits numbers_read write_alternating write write_images agrees_with_itself orbit_numbers orbit_free valid_job open_step record_step
taken_hold = ((refl, refl, refl), ((refl, refl, refl), tt))
