-- The job, its state, the volume's length, its numbers and the text's length in turn.
use borrow.Author.Rules.{rules}
use borrow.Author.Tests.{eqb-true, eq-eqb, ne_eqb, lt-ltb, le-ltb}
use mathlib.Core.Path.{◌≡◌, ◌∙◌, ap, subst}
use mathlib.Core.Bool.{true, false, not}
use Prim.Native.Nat.{ℕ, ◌<◌, ◌≤◌}
use lib.Dec.{eqb, ltb}
use lib.ListN.{length}
use Rattle.refusals.specs.Refusals.{first}
use Rattle.refusals.proofs.Tests.{stop, pass, none, not_t, not_f, by_false, by_true}
use Rattle.cell.specs.declared.operations.UnitCell.{UnitCell}
use Rattle.cell.specs.Operations.{cell_group, cell_halves}
use Rattle.cell.specs.Volume.{volume_length}
use Rattle.job.specs.Job.{valid_job, map_held, fits}
use Rattle.job.proofs.Jobs.{cell_sizes}
use Rattle.printing.specs.Text.{map_text, prints_residues}
use Rattle.printing.specs.Printable.{Fitting}
use Rattle.printing.proofs.map_text.text.check_text.Statement.{statement}
use Rattle.printing.proofs.map_text.text.check_text.Tie as tie

-- the job is valid; a map is held; the volume fits
valid : (c : tie.Else-not-valid_job) → valid_job c.args.job ≡ true
valid c = by_true _ _ c.valid_job.ensures c.if-not-valid_job.false

held : (c : tie.Else-job-ne2) → not (eqb c.args.job.state map_held) ≡ false
held c = not_t _ (eq-eqb _ _ c.if-job-ne2.false)

told : (c : tie.After-fits) → c.fits.result ≡ fits c.args.job c.args.volume.now
told c =
    c.fits.ensures ∙ ap (λ (k : UnitCell). eqb (length c.args.volume.now) (volume_length (cell_group k) (cell_halves k))) c.unit_cell.ensures

fitting : (c : tie.Else-not-fits) → fits c.args.job c.args.volume.now ≡ true
fitting c = by_true _ _ (told c.before) c.if-not-fits.false

valid_job-requires : tie.Need-valid_job-requires
valid_job-requires c κs = search rules

returns-then-not-valid_job : tie.Need-returns-then-not-valid_job
returns-then-not-valid_job c = stop _ (not_f _ (by_false _ _ c.valid_job.ensures c.if-not-valid_job.true))

returns-then-job-ne2 : tie.Need-returns-then-job-ne2
returns-then-job-ne2 c = pass _ _ (not_t _ (valid c.before.before)) (stop _ (not_f _ (ne_eqb _ _ c.if-job-ne2.true)))

unit_cell-requires : tie.Need-unit_cell-requires
unit_cell-requires c κs = search rules

fits-requires : tie.Need-fits-requires
fits-requires c κs = let v = c.before.before.before in (cell_sizes v.args.job c.unit_cell.ensures (valid v)).0

returns-then-not-fits : tie.Need-returns-then-not-fits
returns-then-not-fits c =
    let m = c.before.before.before in
    pass _ _ (not_t _ (valid m.before.before)) (pass _ _ (held m) (stop _ (not_f _ (by_false _ _ (told c.before) c.if-not-fits.true))))

-- the job fits its volume, and its numbers are residues
job-fits : (c : tie.Else-not-fits) → Fitting c.args.job c.args.volume.now
job-fits c = record { valid = valid c.before.before.before.before.before; long = eqb-true _ _ (fitting c) }

residues : (c : tie.Else-not-prints_residues) → prints_residues c.args.job c.args.volume.now ≡ true
residues c = by_true _ _ c.prints_residues.ensures c.if-not-prints_residues.false

prints_residues-requires : tie.Need-prints_residues-requires
prints_residues-requires c κs = job-fits c

returns-then-not-prints_residues : tie.Need-returns-then-not-prints_residues
returns-then-not-prints_residues c =
    let f = c.before.before in
    let m = f.before.before.before in
    pass _ _ (not_t _ (valid m.before.before)) (pass _ _ (held m) (pass _ _ (not_t _ (fitting f)) (stop _ (not_f _ (by_false _ _ c.prints_residues.ensures c.if-not-prints_residues.true)))))

map_length-requires : tie.Need-map_length-requires
map_length-requires c κs = record { fitting = job-fits c.before.before; residues = residues c }

returns-then-room-map_length : tie.Need-returns-then-room-map_length
returns-then-room-map_length c =
    let r = c.before.before in
    let f = r.before.before in
    let m = f.before.before.before in
    let short : ltb m.args.room (length (map_text m.args.job m.args.volume.now)) ≡ true = lt-ltb _ _ (subst (λ (n : ℕ). m.args.room < n) c.map_length.ensures c.if-room-map_length.true) in
    pass _ _ (not_t _ (valid m.before.before)) (pass _ _ (held m) (pass _ _ (not_t _ (fitting f)) (pass _ _ (not_t _ (residues r)) (stop _ short))))

returns : tie.Need-returns
returns c =
    let r = c.before.before in
    let f = r.before.before in
    let m = f.before.before.before in
    let long : ltb m.args.room (length (map_text m.args.job m.args.volume.now)) ≡ false = le-ltb _ _ (subst (λ (n : ℕ). n ≤ m.args.room) c.map_length.ensures c.if-room-map_length.false) in
    pass _ _ (not_t _ (valid m.before.before)) (pass _ _ (held m) (pass _ _ (not_t _ (fitting f)) (pass _ _ (not_t _ (residues r)) (pass _ _ long none))))

pub check_text_spec : {M : Type 1} → statement M
check_text_spec =
    tie.close
    (tie.spec valid_job-requires returns-then-not-valid_job returns-then-job-ne2 unit_cell-requires fits-requires returns-then-not-fits prints_residues-requires returns-then-not-prints_residues map_length-requires returns-then-room-map_length returns)
