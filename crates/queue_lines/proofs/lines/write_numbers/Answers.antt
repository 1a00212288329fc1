-- The three lines, one after the other.
use Rattle.std.proofs.Common.{◌++◌, ◌∙◌, ap, sym, subst}
use Rattle.std.specs.Prelude.{codes}
use Rattle.line_writing.specs.Count.{count_form}
use Rattle.pc_outside.specs.declared.answers.Failed.{Failed}
use Rattle.pc_outside.specs.Writes.{WritesAll}
use Rattle.pc_outside.specs.WriteLaws.{after_piece, at_err, begins, failed_piece, last_call}
use Rattle.queue_lines.specs.Lines.{numbers_form, rate_of}
use Rattle.queue_lines.proofs.lines.write_numbers.Goals as goal

pub returns-in_err-write_count-clause-written : goal.returns-in_err-write_count-clause-written
unfolding numbers_form
returns-in_err-write_count-clause-written g c =
    let all = ap (λ n. count_form (codes "queues ") n ++ (count_form (codes "good ") c.args.good ++ count_form (codes "rate ") (rate_of c.args.good c.args.all))) (sym c.from.ensures) in
    at_err c.from_residual.ensures.0 (failed_piece _ (begins _ _) all c.in_err-write_count.ensures.written)

pub returns-in_err-write_count-2-clause-written : goal.returns-in_err-write_count-2-clause-written
unfolding numbers_form
returns-in_err-write_count-2-clause-written g c =
    let all = ap (λ n. count_form (codes "queues ") n ++ (count_form (codes "good ") c.args.good ++ count_form (codes "rate ") (rate_of c.args.good c.args.all))) (sym c.from.ensures) in
    let good = ap (λ n. count_form (codes "good ") n ++ count_form (codes "rate ") (rate_of c.args.good c.args.all)) (sym c.from-2.ensures) in
    at_err c.from_residual-in_err-write_count-2.ensures.0
    (failed_piece _ (after_piece (begins _ _) all c.in_ok-write_count.ensures.written) good c.in_err-write_count-2.ensures.written)

pub returns-clause-written : goal.returns-clause-written
unfolding numbers_form
returns-clause-written g c =
    let all = ap (λ n. count_form (codes "queues ") n ++ (count_form (codes "good ") c.args.good ++ count_form (codes "rate ") (rate_of c.args.good c.args.all))) (sym c.from.ensures) in
    let good = ap (λ n. count_form (codes "good ") n ++ count_form (codes "rate ") (rate_of c.args.good c.args.all)) (sym c.from-2.ensures) in
    let rate = subst (λ r. WritesAll {T = Unit {0}} {E = Failed} (g.O.Sink.written c.write_count-2.new.out) (g.O.Sink.written c.write_count-3.new.out) c.write_count-3.result (count_form (codes "rate ") r))
    (c.from-3.ensures ∙ c.rate.ensures) c.write_count-3.ensures.written in
    last_call (after_piece (after_piece (begins _ _) all c.in_ok-write_count.ensures.written) good c.in_ok-write_count-2.ensures.written) rate
