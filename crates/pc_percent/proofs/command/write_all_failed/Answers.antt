-- Each turn writes the line of a failed queue, or passes one over.
use Rattle.std.proofs.Common.{◌≡◌, ◌<◌, ◌≤◌, ◌∙◌, ◌+◌, ◌-◌, false, true, length, drop, refl, sym, ap, subst, arith}
use Rattle.pc_outside.specs.CountLaws.{NoneFailed}
use Rattle.pc_outside.specs.CountLaws as laws
use Rattle.pc_outside.specs.Writes.{GrowsUpTo}
use Rattle.pc_outside.specs.WriteLaws.{after_piece, at_err, ends, failed_piece}
use Rattle.queue_pattern.specs.Pattern.{elements_of}
use Rattle.queue_pattern.specs.Queues.{queues}
use Rattle.percent.specs.Answers.{problem_of}
use Rattle.percent.specs.GoodHands.{is_good_queue}
use Rattle.pc_percent.specs.Lines.{failed_lines}
use Rattle.pc_percent.proofs.FailedSteps.{answered_failed, answered_good, failed_more, good_more, none_more, none_over}
use Rattle.pc_percent.proofs.command.write_all_failed.Goals.{then-not-is_good+in_ok-write_failed, else-not-is_good}
use Rattle.pc_percent.proofs.command.write_all_failed.Goals as goal

pub returns-in_err-write_failed-clause-written : goal.returns-in_err-write_failed-clause-written
returns-in_err-write_failed-clause-written g c =
    let problem = c.args.problem.now in
    let qs = queues (elements_of problem.pattern) in
    let within : c.loop-number.number < length qs = omega (arith, c.loop-number-test.true, c.count-number-end.ensures.number) in
    let no : c.is_good.result ≡ false = cc in
    let bad = answered_failed problem (problem_of c.args.answers.now) c.requires.same c.requires.fit c.loop-number.number c.is_good.result c.is_good.ensures c.queue.result.items c.queue.ensures no in
    at_err c.from_residual.ensures.0
    (failed_piece _ c.loop-number.invariant.0
    (failed_more (is_good_queue problem) qs c.loop-number.number c.loop-number.left (c.loop-number.left - 1) c.queue.result.items (omega (arith, c.if-left-eq0.false)) refl within c.queue.ensures bad)
    c.in_err-write_failed.ensures.written)

pub returns-then-left-eq0-clause-written : goal.returns-then-left-eq0-clause-written
returns-then-left-eq0-clause-written g c =
    let problem = c.args.problem.now in
    let test = is_good_queue problem in
    let qs = queues (elements_of problem.pattern) in
    let none = none_more test qs c.loop-number.number c.loop-number.left c.if-left-eq0.true in
    record {
      done = ends (subst (λ l. GrowsUpTo (g.O.Sink.written c.args.out.now) (g.O.Sink.written c.loop-number.out) (failed_lines test c.args.limit qs) l) none c.loop-number.invariant.0);
      failed = tt;
    }

pub loop-number-preserved : goal.loop-number-preserved
loop-number-preserved g c =
    let problem = c.args.problem.now in
    let test = is_good_queue problem in
    let qs = queues (elements_of problem.pattern) in
    let n = c.loop-number.number in
    let whole = failed_lines test c.args.limit qs in
    let within : n < length qs = omega (arith, c.loop-number-test.true, c.count-number-end.ensures.number) in
    elim c.if-not-is_good.branch [
      | then-not-is_good+in_ok-write_failed w ↦
          let no : c.is_good.result ≡ false = cc in
          let bad = answered_failed problem (problem_of c.args.answers.now) c.requires.same c.requires.fit n c.is_good.result c.is_good.ensures w.queue.result.items w.queue.ensures no in
          let line = failed_more test qs n c.loop-number.left c.if-not-is_good.left w.queue.result.items (omega (arith, c.if-left-eq0.false)) w.left-is within w.queue.ensures bad in (
            subst (λ o. GrowsUpTo (g.O.Sink.written c.args.out.now) (g.O.Sink.written o) whole (failed_lines test c.if-not-is_good.left (drop (n + 1) qs))) (sym w.out-is)
                (after_piece c.loop-number.invariant.0 line w.in_ok-write_failed.ensures.written),
            subst (λ o. NoneFailed g.O.Sink.counts_failures_alone (g.O.Sink.faults c.args.out.now) (g.O.Sink.faults o)) (sym w.out-is)
                (laws.none_more c.loop-number.invariant.1 w.in_ok-write_failed.ensures.cause),
          )
      | else-not-is_good w ↦
          let yes : c.is_good.result ≡ true = cc in
          let passed = good_more test qs n c.loop-number.left within (answered_good problem (problem_of c.args.answers.now) c.requires.same c.requires.fit n c.is_good.result c.is_good.ensures within yes) in
          let left = passed ∙ ap (λ l. failed_lines test l (drop (n + 1) qs)) (sym w.left-is) in (
            subst (λ o. GrowsUpTo (g.O.Sink.written c.args.out.now) (g.O.Sink.written o) whole (failed_lines test c.if-not-is_good.left (drop (n + 1) qs))) (sym w.out-is)
                (subst (λ l. GrowsUpTo (g.O.Sink.written c.args.out.now) (g.O.Sink.written c.loop-number.out) whole l) left c.loop-number.invariant.0),
            subst (λ o. NoneFailed g.O.Sink.counts_failures_alone (g.O.Sink.faults c.args.out.now) (g.O.Sink.faults o)) (sym w.out-is) c.loop-number.invariant.1,
          )
    ]

pub returns-clause-written : goal.returns-clause-written
returns-clause-written g c =
    let problem = c.args.problem.now in
    let test = is_good_queue problem in
    let qs = queues (elements_of problem.pattern) in
    let over : length qs ≤ c.loop-number.number = omega (arith, c.loop-number-test.false, c.count-number-end.ensures.number) in
    let none = none_over test qs c.loop-number.number c.loop-number.left over in
    record {
      done = ends (subst (λ l. GrowsUpTo (g.O.Sink.written c.args.out.now) (g.O.Sink.written c.loop-number.out) (failed_lines test c.args.limit qs) l) none c.loop-number.invariant.0);
      failed = tt;
    }
