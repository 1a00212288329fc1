-- Each command ends as its task says; those that make no floods leave the counter.
use Rattle.std.proofs.Common.{Ok, ap, refl}
use Rattle.srs.specs.Rules.{table_of}
use Rattle.pc_settings.specs.Views.{combo_view, field_view, path_view, percent_view}
use Rattle.pc_words.specs.Request.{combo, cover, decode, encode, kicks, path, percent, selfrun, show}
use Rattle.pc_words.specs.Views.{settings_view}
use Rattle.pc_app.proofs.Answering.{ends_for, idle_ends_for}
use Rattle.pc_app.proofs.perform.perform.Goals as goal

pub returns-in-Path : goal.returns-in-Path
returns-in-Path g c = ends_for (path (path_view c.in-Path.path)) (settings_view c.args.settings.now) (ap settings_view c.in-Path.is) c.args.bytes.now _ _ c.args.steps.now c.run_path.new.steps c.run_path.result c.run_path.ensures

pub returns-in-Percent : goal.returns-in-Percent
returns-in-Percent g c = ends_for (percent (percent_view c.in-Percent.percent)) (settings_view c.args.settings.now) (ap settings_view c.in-Percent.is) c.args.bytes.now _ _ c.args.steps.now c.run_percent.new.steps c.run_percent.result c.run_percent.ensures

pub returns-in-Cover : goal.returns-in-Cover
returns-in-Cover g c = ends_for (cover (field_view c.in-Cover.cover)) (settings_view c.args.settings.now) (ap settings_view c.in-Cover.is) c.args.bytes.now _ _ c.args.steps.now c.run_cover.new.steps c.run_cover.result c.run_cover.ensures

pub returns-in-Combo : goal.returns-in-Combo
returns-in-Combo g c = ends_for (combo (combo_view c.in-Combo.combo)) (settings_view c.args.settings.now) (ap settings_view c.in-Combo.is) c.args.bytes.now _ _ c.args.steps.now c.run_combo.new.steps c.run_combo.result c.run_combo.ensures

pub returns-in-Decode : goal.returns-in-Decode
returns-in-Decode g c = idle_ends_for decode (settings_view c.args.settings.now) (ap settings_view c.in-Decode.is) c.args.bytes.now _ _ c.args.steps.now c.args.steps.now c.run_decode.result refl (λ status. refl) c.run_decode.ensures.answers

pub returns-in-Encode : goal.returns-in-Encode
returns-in-Encode g c = idle_ends_for (encode c.in-Encode.dialect) (settings_view c.args.settings.now) (ap settings_view c.in-Encode.is) c.args.bytes.now _ _ c.args.steps.now c.args.steps.now c.run_encode.result refl (λ status. refl) c.run_encode.ensures.answers

pub returns-in-Show : goal.returns-in-Show
returns-in-Show g c = idle_ends_for (show c.in-Show.page) (settings_view c.args.settings.now) (ap settings_view c.in-Show.is) c.args.bytes.now _ _ c.args.steps.now c.args.steps.now c.run_show.result refl (λ status. refl) c.run_show.ensures.answers

pub returns-in-Kicks : goal.returns-in-Kicks
returns-in-Kicks g c = idle_ends_for (kicks (Ok (table_of c.in-Kicks.rules))) (settings_view c.args.settings.now) (ap settings_view c.in-Kicks.is) c.args.bytes.now _ _ c.args.steps.now c.args.steps.now c.run_kicks.result refl (λ status. refl) c.run_kicks.ensures

pub returns-in-Selfrun : goal.returns-in-Selfrun
returns-in-Selfrun g c =
    let ends = c.run_selfrun.ensures in
    ends_for (selfrun c.in-Selfrun.number c.in-Selfrun.pages) (settings_view c.args.settings.now) (ap settings_view c.in-Selfrun.is) c.args.bytes.now _ _ c.args.steps.now c.run_selfrun.new.steps c.run_selfrun.result
    (record { answers = ends.answers; works = ends.works; counted = ends.counted })
