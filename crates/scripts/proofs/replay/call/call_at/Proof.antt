-- By its number, each operation is a call of its own.
use mathlib.Core.Path.{refl, ◌∙◌, ap}
use Rattle.scripts.specs.Script.{call_step}
use Rattle.scripts.proofs.calls.Calls.{is_synthesis, is_analysis, call_in_script}
use borrow.Author.Rules.{rules}
use Rattle.scripts.proofs.replay.call.call_at.Statement.{statement}
use Rattle.scripts.proofs.replay.call.call_at.Tie as tie

numbers_at-numbers-requires : tie.Need-numbers_at-numbers-requires
numbers_at-numbers-requires c κs = search rules

record_call-requires : tie.Need-record_call-requires
record_call-requires c κs = c.in-0.is

shape_of-volume-in-0 : tie.Need-shape_of-volume-in-0
shape_of-volume-in-0 c = c.record_call.auto.volume

returns-in-0 : tie.Need-returns-in-0
returns-in-0 c =
    let a = c.args in
    let m = c.numbers_at-numbers in
    c.record_call.ensures a.scratch.now ∙ call_in_script a.job a.volume.now a.scratch.now a.script.now a.i m.result m.ensures

synthesis_call-requires : tie.Need-synthesis_call-requires
synthesis_call-requires c κs = search rules

shape_of-volume-in-1 : tie.Need-shape_of-volume-in-1
shape_of-volume-in-1 c = c.synthesis_call.auto.volume

shape_of-scratch-in-1 : tie.Need-shape_of-scratch-in-1
shape_of-scratch-in-1 c = c.synthesis_call.auto.scratch

returns-in-1 : tie.Need-returns-in-1
returns-in-1 c =
    let a = c.args in
    let m = c.numbers_at-numbers in
    c.synthesis_call.ensures ∙ ap (call_step a.job a.volume.now a.scratch.now) (is_synthesis a.scratch.now m.result c.in-1.is) ∙ call_in_script a.job a.volume.now a.scratch.now a.script.now a.i m.result m.ensures

analysis_call-requires : tie.Need-analysis_call-requires
analysis_call-requires c κs = search rules

shape_of-volume-in-2 : tie.Need-shape_of-volume-in-2
shape_of-volume-in-2 c = c.analysis_call.auto.volume

shape_of-scratch-in-2 : tie.Need-shape_of-scratch-in-2
shape_of-scratch-in-2 c = c.analysis_call.auto.scratch

returns-in-2 : tie.Need-returns-in-2
returns-in-2 c =
    let a = c.args in
    let m = c.numbers_at-numbers in
    c.analysis_call.ensures ∙ ap (call_step a.job a.volume.now a.scratch.now) (is_analysis a.scratch.now m.result c.in-2.is) ∙ call_in_script a.job a.volume.now a.scratch.now a.script.now a.i m.result m.ensures

point_call-requires : tie.Need-point_call-requires
point_call-requires c κs = c.in-3.is

shape_of-volume-in-3 : tie.Need-shape_of-volume-in-3
shape_of-volume-in-3 c = refl

returns-in-3 : tie.Need-returns-in-3
returns-in-3 c =
    let a = c.args in
    let m = c.numbers_at-numbers in
    c.point_call.ensures a.scratch.now ∙ call_in_script a.job a.volume.now a.scratch.now a.script.now a.i m.result m.ensures

map_power_call-requires : tie.Need-map_power_call-requires
map_power_call-requires c κs = c.in-5.is

shape_of-volume-in-5 : tie.Need-shape_of-volume-in-5
shape_of-volume-in-5 c = refl

returns-in-5 : tie.Need-returns-in-5
returns-in-5 c =
    let a = c.args in
    let m = c.numbers_at-numbers in
    c.map_power_call.ensures a.scratch.now ∙ call_in_script a.job a.volume.now a.scratch.now a.script.now a.i m.result m.ensures

factor_power_call-requires : tie.Need-factor_power_call-requires
factor_power_call-requires c κs = c.in-6.is

shape_of-volume-in-6 : tie.Need-shape_of-volume-in-6
shape_of-volume-in-6 c = refl

returns-in-6 : tie.Need-returns-in-6
returns-in-6 c =
    let a = c.args in
    let m = c.numbers_at-numbers in
    c.factor_power_call.ensures a.scratch.now ∙ call_in_script a.job a.volume.now a.scratch.now a.script.now a.i m.result m.ensures

factor_call-requires : tie.Need-factor_call-requires
factor_call-requires c κs = search rules

shape_of-volume-in_default : tie.Need-shape_of-volume-in_default
shape_of-volume-in_default c = refl

returns-in_default : tie.Need-returns-in_default
returns-in_default c =
    let a = c.args in
    let m = c.numbers_at-numbers in
    c.factor_call.ensures a.scratch.now ∙ call_in_script a.job a.volume.now a.scratch.now a.script.now a.i m.result m.ensures

pub call_at_spec : {M : Type 1} → statement M
call_at_spec =
    tie.close
    (tie.spec numbers_at-numbers-requires record_call-requires shape_of-volume-in-0 returns-in-0 synthesis_call-requires shape_of-volume-in-1 shape_of-scratch-in-1 returns-in-1 analysis_call-requires shape_of-volume-in-2 shape_of-scratch-in-2 returns-in-2 point_call-requires shape_of-volume-in-3 returns-in-3 map_power_call-requires shape_of-volume-in-5 returns-in-5 factor_power_call-requires shape_of-volume-in-6 returns-in-6 factor_call-requires shape_of-volume-in_default returns-in_default)
