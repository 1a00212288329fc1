-- The covered queues, and then the lines of the numbers.
use Rattle.std.proofs.Common.{length, subst, refl}
use Rattle.pc_outside.specs.declared.answers.Failed.{Failed}
use Rattle.pc_outside.specs.Writes.{WritesAll}
use Rattle.pc_outside.specs.WriteLaws.{after_piece, at_err, begins, failed_piece, last_call}
use Rattle.cover.specs.Kept.{lists_of}
use Rattle.queue_lines.specs.Lines.{numbers_form}
use Rattle.pc_cover.specs.Covering.{numbers_from}
use Rattle.pc_cover.specs.Lines.{cover_form}
use Rattle.pc_cover.proofs.command.write_answers.Goals as goal

pub returns-in_err-good-clause-written : goal.returns-in_err-good-clause-written
unfolding cover_form
returns-in_err-good-clause-written g c =
    at_err c.from_residual.ensures.0 (failed_piece _ (begins _ _) refl c.in_err-good.ensures.written)

pub returns-clause-written : goal.returns-clause-written
unfolding cover_form
returns-clause-written g c =
    let problem = c.args.problem.now in
    let numbers = numbers_from problem (lists_of c.args.set.now) 0 in
    let written = subst (λ all. WritesAll {T = Unit {0}} {E = Failed} (g.O.Sink.written c.write_covered.new.out) (g.O.Sink.written c.write_numbers.new.out) c.write_numbers.result (numbers_form all (length numbers)))
    c.count.ensures.number
    (subst (λ n. WritesAll {T = Unit {0}} {E = Failed} (g.O.Sink.written c.write_covered.new.out) (g.O.Sink.written c.write_numbers.new.out) c.write_numbers.result (numbers_form c.count.result n)) c.in_ok-good.ensures.count c.write_numbers.ensures.written) in
    last_call (after_piece (begins _ _) refl c.in_ok-good.ensures.written) written
