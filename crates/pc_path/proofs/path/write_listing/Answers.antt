-- The report, and behind it the floods.
use Rattle.std.proofs.Common.{◌≡◌, ◌-◌, ◌∙◌, length, min, nat_le, if◌then◌else◌, sym, ap, subst}
use Rattle.pc_outside.specs.CountLaws.{none_yet}
use Rattle.pc_outside.specs.Writes.{WritesAll}
use Rattle.pc_outside.specs.WriteLaws.{first_failed, two_calls}
use Rattle.enumerate.specs.Counted.{as_count}
use Rattle.enumerate.specs.ViewOf.{solutions}
use Rattle.report.specs.declared.tail.Tail.TheVariants.{End, Limit}
use Rattle.report.specs.Forms.{floods_form, report_form, tail_form}
use Rattle.line_writing.specs.declared.write_fault.WriteFault.{WriteFault}
use Rattle.pc_path.specs.Writer.{form_of}
use Rattle.pc_path.proofs.Formatted.{cause_after, line_cause, line_memory, line_writes, none_more_lines}
use Rattle.pc_path.specs.Output.{stats_form}
use Rattle.pc_path.proofs.Searching.{more_on_err, stopped_after}
use Rattle.pc_path.proofs.path.write_listing.Goals as goal

pub returns-in_err-write_report-clause-written : goal.returns-in_err-write_report-clause-written
returns-in_err-write_report-clause-written g c = first_failed _ c.in_err-write_report.ensures.written c.from_residual.ensures.0

pub returns-then-settings-clause-written : goal.returns-then-settings-clause-written
returns-then-settings-clause-written g c =
    let floods = c.write_report.new.steps - c.args.steps.now in
    let counted : c.floods.result ≡ as_count floods = c.floods.ensures ∙ ap as_count c.in_ok-write_report.ensures.searched.made in
    let form : floods_form c.floods.result ≡ stats_form c.args.settings.now.stats floods = ap floods_form counted ∙ ap (λ stats. stats_form stats floods) (sym c.if-settings.true) in
    let line = subst (λ text. WritesAll {T = Unit {0}} {E = WriteFault} (g.O.Sink.written c.write_report.new.out) (g.O.Sink.written c.write_floods.new.out) c.map_err.result text) form (line_writes c.write_floods.result c.map_err.result c.map_err.ensures.cases c.write_floods.ensures.written) in
    two_calls c.in_ok-write_report.ensures.written line

pub returns-then-settings-clause-cause : goal.returns-then-settings-clause-cause
returns-then-settings-clause-cause g c = cause_after (none_more_lines (none_yet _ _) c.in_ok-write_report.ensures.cause) (line_cause c.write_floods.result c.map_err.result c.map_err.ensures.cases c.write_floods.ensures.cause)

pub returns-then-settings-clause-memory : goal.returns-then-settings-clause-memory
returns-then-settings-clause-memory g c = λ none. line_memory c.write_floods.result c.map_err.result c.map_err.ensures.cases none

pub returns-then-settings-clause-stopped : goal.returns-then-settings-clause-stopped
unfolding report_form
returns-then-settings-clause-stopped g c =
    let line = form_of c.args.writer.now c.args.problem.now in
    let sequences = solutions c.args.search.now in
    let limit = c.args.settings.now.limit in
    more_on_err c.map_err.result
    (stopped_after line sequences limit (solutions c.write_report.new.search) (tail_form (if nat_le limit (length sequences) then Limit else End) (min limit (length sequences))) (floods_form c.floods.result)
    c.in_ok-write_report.ensures.left c.in_ok-write_report.ensures.written.done)
    (line_writes c.write_floods.result c.map_err.result c.map_err.ensures.cases c.write_floods.ensures.written).failed
