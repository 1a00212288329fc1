-- The list is that of the search which was started.
use Rattle.std.proofs.Common.{[], ◌≡◌, ◌-◌, ◌++◌, ◌∙◌, List, Option, None, Result, Ok, Err, OnOk, OnErr, IsOk, refl, ap, sym, subst, inl, arith, rules}
use Rattle.lane_board.specs.Field.{Field}
use Rattle.problem.specs.SolutionList.{View, IsList}
use Rattle.enumerate.specs.ViewOf.{solutions, view_of}
use Rattle.enumerate.specs.Items.{items_of}
use Rattle.problem.specs.Problem.{needed_of}
use Rattle.problem.specs.declared.problem.Problem.{Problem}
use Rattle.enumerate.specs.declared.search.Search.{Search}
use Rattle.report.specs.Forms.{report_form}
use Rattle.line_writing.specs.declared.write_fault.WriteFault.{WriteFault}
use Rattle.line_writing.specs.declared.write_fault.WriteFault.TheVariants as faults
use Rattle.well.specs.Well.{filled}
use Rattle.srs.specs.declared.placement.Placement.{Placement}
use Rattle.pc_outside.specs.Writes.{WritesAll}
use Rattle.pc_faults.specs.declared.status.Status.TheVariants.{NoMemory}
use Rattle.pc_settings.specs.declared.format.Format.TheVariants.{Fumen}
use Rattle.pc_settings.specs.Request.{PathRequest}
use Rattle.pc_settings.specs.Views.{path_view}
use Rattle.pc_source.specs.Sink.{sink_change}
use Rattle.pc_source.proofs.CommandEnds.{ends_refused, ends_unwritten}
use Rattle.pc_source.specs.Problem.{IsProblemOf}
use Rattle.pc_path.specs.Formats.{solution_form}
use Rattle.pc_path.specs.Output.{IsGiven, Listed, stats_form}
use Rattle.pc_path.specs.PathTask.{listing_task, path_task}
use Rattle.pc_path.specs.Work.{IsSearchOf, StoppedBefore}
use Rattle.pc_path.proofs.Formatted.{report_answers, report_works}
use Rattle.pc_path.proofs.PathAnswers.{path_ends}
use Rattle.pc_path.proofs.path.run_path.Goals as goal

-- what a search gives at its start
abbrev listed_of : (request : PathRequest) (F : Field) (problem : Problem) (after : Option (List Placement)) (search : Search) → IsProblemOf request.common F problem → IsGiven (needed_of problem) request.after after
    → view_of search ≡ record { problem = problem; queue = None; bound = after } → IsList (view_of search) (solutions search) → Listed request F
listed_of request F problem after search named given view list = record {
  problem = problem;
  named = named;
  after = after;
  given = given;
  sequences = solutions search;
  list = subst (λ v. IsList v (solutions search)) view list;
}

done_by : {T E P : Type 0} (result : Result T E) (all : T) → result ≡ Ok all → OnOk result P → P
done_by {P = P} result all is p = subst (λ r. OnOk r P) is p

failed_by : {T E P : Type 0} (result : Result T E) (failed : E) → result ≡ Err failed → OnErr result P → P
failed_by {P = P} result failed is p = subst (λ r. OnErr r P) is p

is_done : {T E : Type 0} (result : Result T E) (all : T) → result ≡ Ok all → IsOk result
is_done result all is = search rules

pub write_listing-written-requires : goal.write_listing-written-requires
write_listing-written-requires g c =
    let view = c.in-Ok-start.ensures.view in
    record { same = ap (λ (v : View). v.problem) view; all = ap (λ (v : View). v.queue) view; given = refl; made = c.in-Ok-start.ensures.work; bound = omega arith }

pub returns-in-Err : goal.returns-in-Err
returns-in-Err g c =
    ends_refused (path_task (path_view c.args.settings.now)) c.args.bytes.now _ _ c.args.steps.now c.args.steps.now c.in-Err.refused c.from.result c.from.ensures refl refl
    (λ is. c.in-Err.ensures.memory (ap (λ r. Err r) is)) c.in-Err.ensures.refused

pub returns-in-Err-start : goal.returns-in-Err-start
returns-in-Err-start g c =
    let request = path_view c.args.settings.now in
    let problem = c.in-Ok.listing.problem in
    path_ends request c.args.bytes.now _ _ c.args.steps.now c.args.steps.now problem c.in-Ok.ensures.problem NoMemory
    (ends_unwritten (listing_task request (filled problem.well)) [] _ _ c.args.steps.now c.args.steps.now c.in-Ok.ensures.none refl (omega arith) (inl refl))

pub returns-in-Err-new : goal.returns-in-Err-new
returns-in-Err-new g c =
    let request = path_view c.args.settings.now in
    let problem = c.in-Ok.listing.problem in
    path_ends request c.args.bytes.now _ _ c.args.steps.now c.args.steps.now problem c.in-Ok.ensures.problem NoMemory
    (ends_unwritten (listing_task request (filled problem.well)) [] _ _ c.args.steps.now c.args.steps.now c.in-Ok.ensures.none refl (omega arith) (inl refl))

pub returns : goal.returns
returns g c =
    let problem = c.in-Ok.listing.problem in
    let has = c.in-Ok.ensures.problem in
    let request = path_view c.args.settings.now in
    let F = filled problem.well in
    let before = c.in-Ok-start.search in
    let search = c.write_listing-written.new.search in
    let floods = c.write_listing-written.new.steps - c.args.steps.now in
    let sink = sink_change g.O.Sink.counts_failures_alone (g.O.Sink.written c.args.out.now) (g.O.Sink.written c.write_listing-written.new.out) (g.O.Sink.faults c.args.out.now) (g.O.Sink.faults c.write_listing-written.new.out) in
    let listed = listed_of request F problem (items_of c.in-Ok.listing.after) before has.named c.in-Ok.ensures.after c.in-Ok-start.ensures.view c.in-Ok-start.ensures.list in
    let report = report_form (solution_form request.format request.keys problem) request.limit (solutions before) ++ stats_form request.stats floods in
    let asked = c.in-Ok-new.ensures.asked in
    let memory : c.write_listing-written.result ≡ Err faults.NoMemory → request.format ≡ Fumen = λ is. sym (ap (λ asked. asked.0) asked) ∙ c.write_listing-written.ensures.memory is in
    let written = subst (λ asked. WritesAll {T = Unit {0}} {E = WriteFault} sink.held sink.holds c.write_listing-written.result (report_form (solution_form asked.0 asked.1 problem) request.limit (solutions before) ++ stats_form request.stats floods))
    asked c.write_listing-written.ensures.written in
    let searched = subst (λ after. IsSearchOf problem after search floods) c.in-Ok-start.ensures.after c.write_listing-written.ensures.searched in
    let stopped = subst (λ asked. OnErr {T = Unit {0}} {E = WriteFault} c.write_listing-written.result (StoppedBefore (solution_form asked.0 asked.1 problem) (solutions before) (solutions search) sink.held sink.holds))
    asked c.write_listing-written.ensures.stopped in
    path_ends request c.args.bytes.now sink _ c.args.steps.now c.write_listing-written.new.steps problem has c.after_line.result (record {
      answers = report_answers request F sink floods c.in-Ok.ensures.none _ report (record { listed = listed; report = refl }) c.write_listing-written.result c.after_line.result c.after_line.ensures written c.write_listing-written.ensures.cause memory;
      works =
          report_works request F sink floods c.in-Ok.ensures.none c.write_listing-written.result c.after_line.result c.after_line.ensures
          (λ all is. record {
            listed = listed;
            search = search;
            searched = searched;
            left = done_by c.write_listing-written.result all is c.write_listing-written.ensures.left;
            late = λ done. cc;
            ended = λ done none short. sym searched.made ∙ c.write_listing-written.ensures.ended (is_done c.write_listing-written.result all is) (c.in-Ok-start.ensures.after ∙ none) short;
          })
          (λ is. record {
            listed = listed;
            search = search;
            searched = searched;
            left = failed_by c.write_listing-written.result faults.Failed is stopped;
            late = λ failed. cc;
            ended = λ done none short. cc;
          })
          (λ is. record {
            listed = listed;
            search = search;
            searched = searched;
            left = failed_by c.write_listing-written.result faults.NoMemory is stopped;
            late = λ _. memory is;
            ended = λ done none short. cc;
          });
      counted = c.write_listing-written.ensures.counted;
    })
