-- Two of one orbit, one by its own numbers, or none: what the two walks stop at.
use Prim.Native.Nat.{◌<◌}
use native.Mathlib.Omega.{arith}
use Rattle.file_format.specs.Format.{record_count}
use Rattle.faults.proofs.FaultLaws.{faults_none, faults_one, faults_two}
use Rattle.faults.proofs.FaultWalks.{sound_fewer, sound_within, within_fewer, apart_fewer}
use borrow.Author.Rules.{rules}
use Rattle.faults.proofs.record_faults.Statement.{statement}
use Rattle.faults.proofs.record_faults.Tie as tie

first_unsound-own-requires : tie.Need-first_unsound-own-requires
first_unsound-own-requires c κs = search rules

first_repeated-again-requires : tie.Need-first_repeated-again-requires
first_repeated-again-requires c κs = let s = c.requires in (s.1, sound_within c.first_unsound-own.ensures.sound, s.3)

first_of_orbit-requires : tie.Need-first_of_orbit-requires
first_of_orbit-requires c κs =
    (c.requires.1, within_fewer (sound_within c.first_unsound-own.ensures.sound) (omega arith))

returns-then-again-own : tie.Need-returns-then-again-own
returns-then-again-own c =
    let sound = c.first_unsound-own.ensures.sound in
    let stops = c.first_repeated-again.ensures.1 in
    let again = c.first_repeated-again.result in
    faults_two c.args.modulus c.args.cell c.args.file.now c.requires.1.sizes again (sound_fewer _ _ _ sound stops.some) c.first_repeated-again.ensures.0 (omega (arith, sound.some)) (sound.each again c.if-again-own.true) (stops.repeats c.if-again-own.true) c.first_of_orbit.result c.first_of_orbit.ensures

returns-then-own-count : tie.Need-returns-then-own-count
returns-then-own-count c =
    let l : c.first_unsound-own.result < record_count c.args.file.now = omega (arith, c.if-own-count.true, c.requires.2) in
    faults_one c.args.modulus c.args.cell c.args.file.now c.requires.1.sizes c.first_unsound-own.result c.first_unsound-own.ensures.sound (apart_fewer c.first_repeated-again.ensures.0 (omega (arith, c.if-again-own.false))) l (c.first_unsound-own.ensures.stops l)

returns : tie.Need-returns
returns c =
    let sound = c.first_unsound-own.ensures.sound in
    faults_none c.args.modulus c.args.cell c.args.file.now c.requires.1.sizes c.first_unsound-own.result sound (apart_fewer c.first_repeated-again.ensures.0 (omega (arith, c.if-again-own.false))) (omega (arith, sound.some, c.if-own-count.false, c.requires.2))

pub record_faults_spec : {M : Type 1} → statement M
record_faults_spec =
    tie.close
    (tie.spec first_unsound-own-requires first_repeated-again-requires first_of_orbit-requires returns-then-again-own returns-then-own-count returns)
