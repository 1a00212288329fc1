-- Each exit has its cause, and at the last one the bits are written.
use Rattle.std.proofs.Common.{Err, length, refl, ap, arith}
use Rattle.std.proofs.lemmas.Result.{err_from_is_err_and}
use Rattle.percent.specs.Answers.{problem_of}
use Rattle.pc_settings.specs.Views.{percent_view}
use Rattle.pc_source.proofs.CallerLemmas.{none_added}
use Rattle.pc_good_queues.proofs.CallLemmas.{found, has_room, lacks, no_fault, refused_before}
use Rattle.pc_good_queues.proofs.call.write_good_queues.Goals as goal

pub returns-in_err-problem-clause-refused : goal.returns-in_err-problem-clause-refused
returns-in_err-problem-clause-refused g c =
    let p = err_from_is_err_and c.from_residual.result c.from_residual.ensures.1 in
    rw (p.1, p.2) (refused_before (percent_view c.args.settings.now) c.args.bytes.now (length c.args.bits.now) _ c.in_err-problem.field-0.0 (none_added _ _ refl)
    c.in_err-problem.ensures.refused (λ is. c.in_err-problem.ensures.memory (ap (λ r. Err r) is)))

pub returns-then-bits-bytes_for-clause-refused : goal.returns-then-bits-bytes_for-clause-refused
returns-then-bits-bytes_for-clause-refused g c =
    lacks (percent_view c.args.settings.now) c.args.bytes.now c.in_ok-problem.problem c.in_ok-problem.ensures.problem
    c.count-queues.result c.count-queues.ensures.number (length c.args.bits.now) _ (omega (arith, c.if-bits-bytes_for.true, c.bytes_for.ensures)) (none_added _ _ refl)

pub returns-in_err-answers-clause-refused : goal.returns-in_err-answers-clause-refused
returns-in_err-answers-clause-refused g c =
    let p = err_from_is_err_and c.from_residual-in_err-answers.result c.from_residual-in_err-answers.ensures.1 in
    rw (p.1, p.2) (has_room (percent_view c.args.settings.now) c.args.bytes.now c.in_ok-problem.problem c.in_ok-problem.ensures.problem
    c.count-queues.result c.count-queues.ensures.number (length c.args.bits.now) _ (omega (arith, c.if-bits-bytes_for.false, c.bytes_for.ensures)))

pub returns-clause-found : goal.returns-clause-found
returns-clause-found g c =
    found (percent_view c.args.settings.now) c.args.bytes.now c.in_ok-problem.problem c.in_ok-problem.ensures.problem
    c.count-queues.result c.count-queues.ensures.number c.in_ok-problem.ensures.fit _ c.count_good.result (problem_of c.in_ok-answers.answers) c.in_ok-answers.ensures.problem
    c.write_bits.ensures.bits c.count_good.ensures

pub returns-clause-none : goal.returns-clause-none
returns-clause-none g c = no_fault (percent_view c.args.settings.now) c.args.bytes.now c.in_ok-problem.problem c.in_ok-problem.ensures.problem
