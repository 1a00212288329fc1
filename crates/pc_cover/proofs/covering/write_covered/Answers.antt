-- The next covered queue is written, or there is none.
use Rattle.std.proofs.Common.{◌≡◌, ◌+◌, length, ap, subst, arith, None, rules}
use Rattle.pc_outside.specs.CountLaws.{none_more}
use Rattle.pc_outside.specs.Writes.{GrowsUpTo}
use Rattle.pc_outside.specs.WriteLaws.{after_piece, at_err, ends, failed_piece}
use Rattle.queue_pattern.specs.Pattern.{elements_of}
use Rattle.queue_pattern.specs.Queues.{queues}
use Rattle.cover.specs.Covered.{IsLeastFrom, IsNextFrom, IsPermitted}
use Rattle.cover.specs.Kept.{lists_of}
use Rattle.pc_cover.specs.Covering.{numbers_from}
use Rattle.pc_cover.specs.Lines.{queues_form}
use Rattle.pc_cover.proofs.CoveringLemmas.{form-next, form-none, numbers-next, numbers-none, numbers-over, permitted-within}
use Rattle.pc_cover.proofs.covering.write_covered.Goals as goal

pub returns-in_err-write_queue-clause-written : goal.returns-in_err-write_queue-clause-written
returns-in_err-write_queue-clause-written g c =
    let problem = c.args.problem.now in
    let lists = lists_of c.args.set.now in
    let least : IsLeastFrom (IsPermitted problem lists) c.loop-from.from c.in-Some.number = subst (λ p. IsLeastFrom (IsPermitted p lists) c.loop-from.from c.in-Some.number) c.requires c.in-Some.ensures in
    let next = numbers-next c.permits_is_decided.ensures.queue problem lists c.loop-from.from c.in-Some.number least in
    let line = form-next (queues (elements_of problem.pattern)) (numbers_from problem lists c.loop-from.from) (numbers_from problem lists (c.in-Some.number + 1)) c.in-Some.number c.queue.result.items next c.queue.ensures in
    at_err c.from_residual.ensures.0 (failed_piece _ c.loop-from.invariant.0 line c.in_err-write_queue.ensures.written)

pub queue-requires : goal.queue-requires
queue-requires g c = search (rules, (permitted-within c.permits_is_decided.ensures.queue c.args.problem.now (lists_of c.args.set.now) c.in-Some.number))

pub overflow_add-from : goal.overflow_add-from
overflow_add-from g c = search (rules, (permitted-within c.permits_is_decided.ensures.queue c.args.problem.now (lists_of c.args.set.now) c.in-Some.number))

pub loop-from-preserved : goal.loop-from-preserved
loop-from-preserved g c =
    let problem = c.args.problem.now in
    let lists = lists_of c.args.set.now in
    let least : IsLeastFrom (IsPermitted problem lists) c.loop-from.from c.in-Some.number = subst (λ p. IsLeastFrom (IsPermitted p lists) c.loop-from.from c.in-Some.number) c.requires c.in-Some.ensures in
    let next = numbers-next c.permits_is_decided.ensures.queue problem lists c.loop-from.from c.in-Some.number least in
    let within = permitted-within c.permits_is_decided.ensures.queue problem lists c.in-Some.number least.member in
    let line = form-next (queues (elements_of problem.pattern)) (numbers_from problem lists c.loop-from.from) (numbers_from problem lists (c.in-Some.number + 1)) c.in-Some.number c.queue.result.items next c.queue.ensures in
    let long : length (numbers_from problem lists c.loop-from.from) ≡ length (numbers_from problem lists (c.in-Some.number + 1)) + 1 = omega (arith, ap length next) in (
      after_piece c.loop-from.invariant.0 line c.in_ok-write_queue.ensures.written,
      none_more c.loop-from.invariant.1 c.in_ok-write_queue.ensures.cause,
      omega (arith, c.loop-from.invariant.2, long),
      omega (arith, c.loop-from.invariant.3, least.above),
      omega (arith, within),
    )

pub returns-in_default-clause-written : goal.returns-in_default-clause-written
returns-in_default-clause-written g c =
    let problem = c.args.problem.now in
    let lists = lists_of c.args.set.now in
    let all = queues (elements_of problem.pattern) in
    let none : IsNextFrom (IsPermitted problem lists) c.loop-from.from None = subst (λ p. IsNextFrom (IsPermitted p lists) c.loop-from.from None) c.requires c.in_default.ensures in
    let empty = numbers-none c.permits_is_decided.ensures.queue problem lists c.loop-from.from none in
    record {
      done = ends (subst (λ l. GrowsUpTo (g.O.Sink.written c.args.out.now) (g.O.Sink.written c.loop-from.out) (queues_form all (numbers_from problem lists 0)) l) (form-none all (numbers_from problem lists c.loop-from.from) empty) c.loop-from.invariant.0);
      failed = tt;
    }

pub returns-in_default-clause-count : goal.returns-in_default-clause-count
returns-in_default-clause-count g c =
    let problem = c.args.problem.now in
    let lists = lists_of c.args.set.now in
    let none : IsNextFrom (IsPermitted problem lists) c.loop-from.from None = subst (λ p. IsNextFrom (IsPermitted p lists) c.loop-from.from None) c.requires c.in_default.ensures in
    let empty = numbers-none c.permits_is_decided.ensures.queue problem lists c.loop-from.from none in
    omega (arith, c.loop-from.invariant.2, ap length empty)

pub returns-clause-written : goal.returns-clause-written
returns-clause-written g c =
    search (rules, (numbers-over c.permits_is_decided.ensures.queue c.args.problem.now (lists_of c.args.set.now) c.loop-from.from), (g.O.Sink.written c.args.out.now), (g.O.Sink.written c.loop-from.out), (form-none (queues (elements_of c.args.problem.now.pattern)) (numbers_from c.args.problem.now (lists_of c.args.set.now) c.loop-from.from)))

pub returns-clause-count : goal.returns-clause-count
returns-clause-count g c = search (rules, (numbers-over c.permits_is_decided.ensures.queue c.args.problem.now (lists_of c.args.set.now) c.loop-from.from))
