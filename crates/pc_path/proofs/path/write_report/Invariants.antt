-- So many lines are written, and what the search still gives makes the rest of the report.
use Rattle.std.proofs.Common.{◌≡◌, ◌-◌, ◌≤◌, length, take, drop}
use Rattle.std.specs.List.{flat_map}
use Rattle.pc_outside.specs.CountLaws.{NoneFailed}
use Rattle.pc_outside.specs.Writes.{Grows, GrowsUpTo}
use Rattle.enumerate.specs.ViewOf.{after_given, solutions}
use Rattle.report.specs.Forms.{report_form}
use Rattle.pc_path.specs.Work.{IsSearchOf}
use Rattle.pc_path.specs.Writer.{asked_of, form_of}
use Rattle.pc_path.proofs.Reports.{report_from}
use Rattle.pc_path.proofs.path.write_report.Given as goal

abbrev pub invariant-loop-count : goal.invariant-loop-count
invariant-loop-count g l =
    GrowsUpTo (g.O.Sink.written l.initial.out) (g.O.Sink.written l.out)
    (report_form (form_of l.initial.writer l.problem) l.limit (solutions l.initial.search))
    (report_from (form_of l.initial.writer l.problem) l.count (l.limit - l.count) (solutions l.search))
    × NoneFailed g.O.Sink.counts_failures_alone (g.O.Sink.faults l.initial.out) (g.O.Sink.faults l.out)
    × (asked_of l.writer ≡ asked_of l.initial.writer)
    × (l.initial.steps ≤ l.steps)
    × IsSearchOf l.problem (after_given l.initial.search) l.search (l.steps - l.initial.steps)
    × (solutions l.search ≡ drop l.count (solutions l.initial.search))
    × (l.count ≤ length (solutions l.initial.search))
    × Grows (g.O.Sink.written l.initial.out) (g.O.Sink.written l.out)
    (flat_map (form_of l.initial.writer l.problem) (take l.count (solutions l.initial.search)))
