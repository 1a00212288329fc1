-- The run is the longest one of the queue that is asked for.
use Rattle.std.proofs.Common.{[], refl, sym, subst, inl, arith}
use Rattle.srs.specs.Rules.{table_of}
use Rattle.well.specs.Well.{filled}
use Rattle.problem.specs.Runs.{Runs}
use Rattle.report.specs.Forms.{key_part}
use Rattle.report.specs.Keys.{has_keys}
use Rattle.pc_settings.specs.Views.{combo_view}
use Rattle.pc_source.proofs.CommandEnds.{ends_by_fault, ends_unwritten, ends_written}
use Rattle.pc_combo.specs.Output.{combo_form}
use Rattle.pc_combo.specs.ComboTask.{run_task}
use Rattle.pc_combo.proofs.command.write_longest.Goals as goal

pub write_lines-requires : goal.write_lines-requires
write_lines-requires g c =
    subst (Runs (table_of c.args.settings.now.rules) c.args.settings.now.drop_mode (filled c.args.well.now)) (sym c.as_slice-run.ensures.value) c.longest-run.ensures.longest.permitted.runs

pub returns-in-Err : goal.returns-in-Err
returns-in-Err g c =
    ends_by_fault (run_task (combo_view c.args.settings.now) (filled c.args.well.now)) [] _ _ c.args.steps.now c.args.steps.now c.in-Err.fault c.in-Err.ensures.fault refl refl

pub returns-in-Err-new : goal.returns-in-Err-new
returns-in-Err-new g c =
    ends_unwritten (run_task (combo_view c.args.settings.now) (filled c.args.well.now)) [] _ _ c.args.steps.now c.args.steps.now c.in-Ok.ensures.none refl (omega arith) (inl refl)

pub returns : goal.returns
returns g c =
    let request = combo_view c.args.settings.now in
    let F = filled c.args.well.now in
    let table = table_of c.args.settings.now.rules in
    let lines = combo_form (key_part (has_keys c.in-Ok-new.keys) table request.drop_mode) F c.as_slice-run.result.now in
    ends_written (run_task request F) [] _ _ c.args.steps.now c.longest-run.new.steps lines c.write_lines.result c.after_writes.result c.after_writes.ensures c.in-Ok.ensures.none
    (record {
      table = table;
      rules = refl;
      queue = c.in-Ok.queue.items;
      named = c.in-Ok.ensures.queue;
      run = c.longest-run.result.items;
      longest = c.longest-run.ensures.longest;
      lines = λ i. combo_form (key_part (c.in-Ok-new.ensures.keys i) table request.drop_mode) F (c.as_slice-run.ensures.value i);
    })
    c.write_lines.ensures.written c.write_lines.ensures.cause c.longest-run.ensures.counted tt tt
