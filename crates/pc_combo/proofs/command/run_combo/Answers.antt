-- The field is had, or the run ends.
use Rattle.std.proofs.Common.{true, Err, refl, ap}
use Rattle.well.specs.Well.{filled}
use Rattle.pc_settings.specs.Views.{combo_view}
use Rattle.pc_source.specs.FieldTask.{its_field}
use Rattle.pc_source.proofs.FieldTasks.{field_had, field_refused}
use Rattle.pc_combo.specs.ComboTask.{run_task}
use Rattle.pc_combo.proofs.command.run_combo.Goals as goal

pub returns-in-Err : goal.returns-in-Err
returns-in-Err g c =
    let request = combo_view c.args.settings.now in
    field_refused its_field request.field request.page true (run_task request) c.args.bytes.now _ _ c.args.steps.now c.args.steps.now c.in-Err.refused c.from.result c.from.ensures refl refl
    (λ is. c.in-Err.ensures.memory (ap (λ r. Err r) is)) c.in-Err.ensures.refused

pub returns-in-Ok : goal.returns-in-Ok
returns-in-Ok g c =
    let request = combo_view c.args.settings.now in
    field_had its_field request.field request.page true (run_task request) c.args.bytes.now _ _ c.args.steps.now c.write_longest.new.steps (filled c.in-Ok.well) c.in-Ok.ensures.field (λ _. refl) (λ _. refl) c.write_longest.result c.write_longest.ensures
