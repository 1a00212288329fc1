-- Each turn writes the line of the next sequence.
use Rattle.std.proofs.Common.{◌≡◌, drop, refl, ap, sym, subst, ◌∙◌, Ok, Err, arith}
use Rattle.pc_outside.specs.Writes.{WritesAll}
use Rattle.pc_outside.specs.WriteLaws.{after_piece, failed_piece, grows_nothing, last_call, at_err}
use Rattle.problem.specs.SolutionList.{View}
use Rattle.enumerate.specs.ViewOf.{after_given, solutions, view_of}
use Rattle.line_writing.specs.declared.write_fault.WriteFault.{WriteFault}
use Rattle.pc_path.specs.Formats.{solution_form}
use Rattle.pc_path.specs.Writer.{form_of}
use Rattle.pc_outside.specs.CountLaws.{none_yet}
use Rattle.pc_path.proofs.Formatted.{cause_after, line_cause, line_memory, line_writes, none_more_lines}
use Rattle.pc_path.proofs.Reports.{report_begins, left_over, left_next, left_full, left_as, next_plays}
use Rattle.pc_path.proofs.Searching.{all_pairs, drop_next, drop_over, goes_on, lines_more, more_on_err, never_ok, no_ok, not_begun, on_err, on_ok, stopped_behind, stopped_line, within_next}
use Rattle.pc_path.proofs.path.write_report.Goals as goal

pub loop-count-init : goal.loop-count-init
loop-count-init g c = (
  report_begins _ _ _ _,
  none_yet _ _,
  refl,
  omega arith,
  not_begun c.args.problem.now (after_given c.args.search.now) c.args.search.now c.args.steps.now c.requires,
  refl,
  omega arith,
  grows_nothing _,
)

pub write-requires : goal.write-requires
write-requires g c =
    next_plays c.args.problem.now (view_of c.loop-count.search) c.in-Some.sequence.items _ _ c.loop-count.invariant.4.same c.in-Some.ensures.list c.in-Some.ensures.found.0

pub returns-in-None-clause-written : goal.returns-in-None-clause-written
returns-in-None-clause-written g c =
    last_call (left_as (left_over _ _ _ _ _ c.loop-count-test.true c.in-None.ensures.found.0 (omega arith)) c.loop-count.invariant.0)
    (line_writes c.write_tail.result c.map_err.result c.map_err.ensures.cases c.write_tail.ensures.written)

pub returns-in-None-clause-searched : goal.returns-in-None-clause-searched
returns-in-None-clause-searched g c =
    goes_on c.args.problem.now (after_given c.args.search.now) c.loop-count.search c.next.new.self c.args.steps.now c.loop-count.steps c.next.new.steps c.loop-count.invariant.4 c.loop-count.invariant.3
    (ap (λ (v : View). v.problem) c.in-None.ensures.found.2) (ap (λ (v : View). v.queue) c.in-None.ensures.found.2) c.in-None.ensures.after c.in-None.ensures.counted c.in-None.ensures.rose c.in-None.ensures.bounded

pub returns-in-None-clause-left : goal.returns-in-None-clause-left
returns-in-None-clause-left g c =
    on_ok c.map_err.result (c.in-None.ensures.found.1 ∙ sym (drop_over (solutions c.args.search.now) c.loop-count.count c.args.limit (sym c.loop-count.invariant.5 ∙ c.in-None.ensures.found.0) (omega (arith, c.loop-count-test.true))))

pub returns-in-None-clause-stopped : goal.returns-in-None-clause-stopped
returns-in-None-clause-stopped g c =
    let line = form_of c.args.writer.now c.args.problem.now in
    more_on_err c.map_err.result
    (stopped_behind line (solutions c.args.search.now) c.loop-count.count (solutions c.next.new.self) _ (c.in-None.ensures.found.1 ∙ sym c.in-None.ensures.found.0 ∙ c.loop-count.invariant.5) c.loop-count.invariant.7)
    (line_writes c.write_tail.result c.map_err.result c.map_err.ensures.cases c.write_tail.ensures.written).failed

pub returns-in-None-clause-ended : goal.returns-in-None-clause-ended
returns-in-None-clause-ended g c = λ ok none short.
    all_pairs c.args.problem.now (after_given c.args.search.now) c.loop-count.search _ _ c.loop-count.invariant.4 (c.in-None.ensures.whole (c.loop-count.invariant.4.given ∙ none))

pub returns-in_err-write-clause-written : goal.returns-in_err-write-clause-written
returns-in_err-write-clause-written g c =
    let problem = c.args.problem.now in
    let written = subst (λ asked. WritesAll {T = Unit {0}} {E = WriteFault} (g.O.Sink.written c.loop-count.out) (g.O.Sink.written c.write.new.out) (Err c.in_err-write.field-0.0) (solution_form asked.0 asked.1 problem c.in-Some.sequence.items))
    c.loop-count.invariant.2 c.in_err-write.ensures.written in
    at_err c.from_residual.ensures.0
    (failed_piece _ c.loop-count.invariant.0 (left_next _ _ _ _ _ _ c.loop-count-test.true c.in-Some.ensures.found.0) written)

pub returns-in_err-write-clause-searched : goal.returns-in_err-write-clause-searched
returns-in_err-write-clause-searched g c =
    goes_on c.args.problem.now (after_given c.args.search.now) c.loop-count.search c.next.new.self c.args.steps.now c.loop-count.steps c.next.new.steps c.loop-count.invariant.4 c.loop-count.invariant.3
    (ap (λ (v : View). v.problem) c.in-Some.ensures.found.1) (ap (λ (v : View). v.queue) c.in-Some.ensures.found.1) c.in-Some.ensures.after c.in-Some.ensures.counted c.in-Some.ensures.rose c.in-Some.ensures.bounded

pub returns-in_err-write-clause-left : goal.returns-in_err-write-clause-left
returns-in_err-write-clause-left g c = no_ok _ _ c.from_residual.ensures.0

pub returns-in_err-write-clause-stopped : goal.returns-in_err-write-clause-stopped
returns-in_err-write-clause-stopped g c =
    let problem = c.args.problem.now in
    let line = form_of c.args.writer.now problem in
    let written = subst (λ asked. WritesAll {T = Unit {0}} {E = WriteFault} (g.O.Sink.written c.loop-count.out) (g.O.Sink.written c.write.new.out) (Err c.in_err-write.field-0.0) (solution_form asked.0 asked.1 problem c.in-Some.sequence.items))
    c.loop-count.invariant.2 c.in_err-write.ensures.written in
    on_err _ (stopped_line line (solutions c.args.search.now) c.loop-count.count c.in-Some.sequence.items (solutions c.next.new.self) (solutions c.next.new.self)
    (sym c.loop-count.invariant.5 ∙ c.in-Some.ensures.found.0) refl c.loop-count.invariant.7 written.failed)

pub returns-in_err-write-clause-ended : goal.returns-in_err-write-clause-ended
returns-in_err-write-clause-ended g c = λ ok none short. absurd (never_ok _ c.from_residual.ensures.0 ok)

pub loop-count-preserved : goal.loop-count-preserved
loop-count-preserved g c =
    let problem = c.args.problem.now in
    let line = form_of c.args.writer.now problem in
    let written = subst (λ asked. WritesAll {T = Unit {0}} {E = WriteFault} (g.O.Sink.written c.loop-count.out) (g.O.Sink.written c.write.new.out) (Ok c.in_ok-write.field-0) (solution_form asked.0 asked.1 problem c.in-Some.sequence.items))
    c.loop-count.invariant.2 c.in_ok-write.ensures.written in
    let next = sym c.loop-count.invariant.5 ∙ c.in-Some.ensures.found.0 in (
      after_piece c.loop-count.invariant.0 (left_next _ _ _ _ _ _ c.loop-count-test.true c.in-Some.ensures.found.0) written,
      none_more_lines c.loop-count.invariant.1 c.in_ok-write.ensures.cause,
      c.write.ensures.same ∙ c.loop-count.invariant.2,
      omega (arith, c.loop-count.invariant.3, c.in-Some.ensures.rose),
      goes_on c.args.problem.now (after_given c.args.search.now) c.loop-count.search c.next.new.self c.args.steps.now c.loop-count.steps c.next.new.steps c.loop-count.invariant.4 c.loop-count.invariant.3
          (ap (λ (v : View). v.problem) c.in-Some.ensures.found.1) (ap (λ (v : View). v.queue) c.in-Some.ensures.found.1) c.in-Some.ensures.after c.in-Some.ensures.counted c.in-Some.ensures.rose c.in-Some.ensures.bounded,
      sym (drop_next (solutions c.args.search.now) c.loop-count.count c.in-Some.sequence.items (solutions c.next.new.self) next),
      within_next (solutions c.args.search.now) c.loop-count.count c.in-Some.sequence.items (solutions c.next.new.self) next,
      lines_more line (solutions c.args.search.now) c.loop-count.count c.in-Some.sequence.items (solutions c.next.new.self) next c.loop-count.invariant.7 written.done,
    )

pub returns-clause-written : goal.returns-clause-written
returns-clause-written g c =
    last_call (left_as (left_full _ c.loop-count.count c.args.limit _ _ c.loop-count-test.false (omega arith) (omega arith)) c.loop-count.invariant.0)
    (line_writes c.write_tail-2.result c.map_err-2.result c.map_err-2.ensures.cases c.write_tail-2.ensures.written)

pub returns-clause-left : goal.returns-clause-left
returns-clause-left g c =
    let full : c.loop-count.count ≡ c.args.limit = omega (arith, c.loop-count-test.false, c.loop-count.auto.count-end) in
    on_ok c.map_err-2.result (c.loop-count.invariant.5 ∙ ap (λ n. drop n (solutions c.args.search.now)) full)

pub returns-clause-stopped : goal.returns-clause-stopped
returns-clause-stopped g c =
    let line = form_of c.args.writer.now c.args.problem.now in
    more_on_err c.map_err-2.result
    (stopped_behind line (solutions c.args.search.now) c.loop-count.count (solutions c.loop-count.search) _ c.loop-count.invariant.5 c.loop-count.invariant.7)
    (line_writes c.write_tail-2.result c.map_err-2.result c.map_err-2.ensures.cases c.write_tail-2.ensures.written).failed

pub returns-clause-ended : goal.returns-clause-ended
returns-clause-ended g c = λ ok none short. absurd (omega (arith, short, c.loop-count-test.false, c.loop-count.invariant.6))

pub returns-in-None-clause-cause : goal.returns-in-None-clause-cause
returns-in-None-clause-cause g c = cause_after c.loop-count.invariant.1 (line_cause c.write_tail.result c.map_err.result c.map_err.ensures.cases c.write_tail.ensures.cause)

pub returns-in-None-clause-memory : goal.returns-in-None-clause-memory
returns-in-None-clause-memory g c = λ none. line_memory c.write_tail.result c.map_err.result c.map_err.ensures.cases none

pub returns-clause-cause : goal.returns-clause-cause
returns-clause-cause g c = cause_after c.loop-count.invariant.1 (line_cause c.write_tail-2.result c.map_err-2.result c.map_err-2.ensures.cases c.write_tail-2.ensures.cause)

pub returns-clause-memory : goal.returns-clause-memory
returns-clause-memory g c = λ none. line_memory c.write_tail-2.result c.map_err-2.result c.map_err-2.ensures.cases none
