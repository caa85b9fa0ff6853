-- The paper's printed specimen, computed from the definitions.
use mathlib.Core.Path.{refl}
use Rattle.cell.specs.Volume.{volume_of, whole_line, line_in, factors_in, packed, pack_factors, map_pair, pack_map, map_in, numbers_read}
use Rattle.cell.specs.Consistency.{write_alternating, write, write_images, record_in, agrees_with_itself, pair_is_zero, consistent_factors, orbit_numbers, orbit_free, consistent_map}
use Rattle.job.specs.Job.{valid_job, open_step, record_step, synthesis_step, analysis_step, point_step, factor_step}
use Rattle.lengths.specs.Lengths.{admitted, factors_ok, digits, cleared, octal, product}
use Rattle.refusals.specs.Refusals.{first}
use Rattle.algebra.specs.cells.Cell.{neg_i, half_i, flip, shifted, image_of, point_image, span, planes, point_operation, map_of, factors_of, sgn, star, implied_density, implied_value, factor_acts, below, every, some, same_orbit, every_place, agrees_t, line_from, plane_from, cell_from, records_of}
use Rattle.algebra.specs.cells.CellSteps.{map_acts}
use Rattle.algebra.specs.cells.CellPlaces.{line_operation, factor_operation}
use Rattle.algebra.specs.cells.StoredTests.{consistent_factors_t, consistent_map_t, zero_t}
use Rattle.algebra.specs.cells.CellPack.{even, pack_alt, unpack_alt, times_i, over_i, pack_factors as packFactors-algebra, unpack, upd, put_alt, put_factor}
use Rattle.algebra.specs.orbits.Orbit.{written, recorded, record_all}
use Rattle.algebra.specs.orbits.OrbitLaws.{Accepted, cell_of, OffAll, Sound, put_all}
use Rattle.algebra.specs.lines.Kinds.{slots, unfold_before, unfold_after, pack_before, pack_after, three, re, im as im-algebra, unfold_by, pack_by, interleave, unit}
use Rattle.algebra.specs.lines.FoldKinds.{fold_forward, fold_back}
use Rattle.algebra.specs.ring.Ring.{pow, sum, residue, residues, gauss, conj, imag, dft}
use Rattle.algebra.specs.fourier.Axis.{cast}
use Rattle.numbers.specs.Value.{prime, exponent, half, part, value_of, pair_of}
use Rattle.roots.specs.Root.{choice, root}
use Rattle.roots.specs.Table.{entry_at, table_root}
use Rattle.slices.specs.Pairs.{at, put, puts, all_below}
use Rattle.factor_file.specs.File.{two_bytes, four_bytes, list_at, list2_at, list3_at, count_at, record_at, records_from, judged, record_all_on, feed, file_step}
use Rattle.file_format.specs.Format.{modulus_in, lengths_at}
use Rattle.signed.specs.Integers.{centred}
use Rattle.output.specs.Output.{digits_of, signed_decimal, each}
use Rattle.printing.specs.Text.{head_line, row_line, map_text, refusal_text, printed}
use Rattle.printing.specs.Specimen.{PrintedSpecimen}

pub specimen_printed : PrintedSpecimen
unfolding volume_of whole_line line_in factors_in packed pack_factors map_pair pack_map map_in numbers_read write_alternating write write_images record_in agrees_with_itself pair_is_zero consistent_factors orbit_numbers orbit_free consistent_map valid_job open_step record_step synthesis_step analysis_step point_step factor_step admitted factors_ok digits cleared first neg_i half_i flip shifted image_of point_image span line_operation factor_operation planes point_operation map_of factors_of sgn star implied_density implied_value factor_acts map_acts below every some same_orbit every_place agrees_t consistent_factors_t consistent_map_t zero_t line_from plane_from cell_from records_of even pack_alt unpack_alt times_i over_i packFactors-algebra unpack upd put_alt put_factor written recorded record_all Accepted cell_of OffAll Sound put_all slots unfold_before unfold_after pack_before pack_after fold_forward fold_back pow cast sum gauss conj imag residue residues dft three re im-algebra unfold_by pack_by interleave unit prime exponent choice root entry_at table_root half part value_of pair_of at put puts all_below octal product two_bytes four_bytes modulus_in lengths_at list_at list2_at list3_at count_at record_at records_from judged record_all_on feed file_step digits_of signed_decimal centred each head_line row_line map_text refusal_text printed
specimen_printed = record { shown = refl }
