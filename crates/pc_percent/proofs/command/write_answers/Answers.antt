-- The lines of failed queues, and then those of the numbers.
use Rattle.std.proofs.Common.{◌≡◌, subst, refl}
use Rattle.std.specs.Prelude.{count_by}
use Rattle.pc_outside.specs.declared.answers.Failed.{Failed}
use Rattle.pc_outside.specs.Writes.{WritesAll}
use Rattle.pc_outside.specs.WriteLaws.{after_piece, at_err, begins, failed_piece, last_call}
use Rattle.queue_pattern.specs.Pattern.{elements_of}
use Rattle.queue_pattern.specs.Queues.{queues}
use Rattle.percent.specs.GoodHands.{is_good_queue}
use Rattle.queue_lines.specs.Lines.{numbers_form}
use Rattle.pc_percent.specs.Lines.{percent_form}
use Rattle.pc_percent.proofs.command.write_answers.Goals as goal

pub returns-in_err-write_all_failed-clause-written : goal.returns-in_err-write_all_failed-clause-written
unfolding percent_form
returns-in_err-write_all_failed-clause-written g c =
    at_err c.from_residual.ensures.0 (failed_piece _ (begins _ _) refl c.in_err-write_all_failed.ensures.written)

pub returns-clause-written : goal.returns-clause-written
unfolding percent_form
returns-clause-written g c =
    let problem = c.args.problem.now in
    let good = subst (λ p. c.count_good.result ≡ count_by (is_good_queue p) (queues (elements_of p.pattern))) c.requires.same c.count_good.ensures in
    let written = subst (λ all. WritesAll {T = Unit {0}} {E = Failed} (g.O.Sink.written c.write_all_failed.new.out) (g.O.Sink.written c.write_numbers.new.out) c.write_numbers.result (numbers_form all (count_by (is_good_queue problem) (queues (elements_of problem.pattern)))))
    c.count.ensures.number
    (subst (λ n. WritesAll {T = Unit {0}} {E = Failed} (g.O.Sink.written c.write_all_failed.new.out) (g.O.Sink.written c.write_numbers.new.out) c.write_numbers.result (numbers_form c.count.result n)) good c.write_numbers.ensures.written) in
    last_call (after_piece (begins _ _) refl c.in_ok-write_all_failed.ensures.written) written
