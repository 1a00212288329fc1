-- Each turn passes one solution.
use Rattle.std.proofs.Common.{◌∙◌}
use Rattle.pc_selfrun.proofs.Counting.{begins, counts_all, fewer, floods_all, goes_on}
use Rattle.pc_selfrun.proofs.count.count_solutions.Goals as goal

pub solutions-init : goal.solutions-init
solutions-init g c = begins c.args.search.now c.args.steps.now

pub solutions-preserved : goal.solutions-preserved
solutions-preserved g c =
    goes_on c.args.search.now c.solutions.search c.next.new.self c.args.steps.now c.solutions.steps c.next.new.steps c.solutions.count c.solutions.invariant c.in-Some.ensures.counted c.in-Some.ensures.rose
    _ c.in-Some.ensures.found.0 c.in-Some.ensures.found.1 c.in-Some.ensures.after

pub solutions-smaller : goal.solutions-smaller
solutions-smaller g c = fewer c.solutions.search c.next.new.self _ c.in-Some.ensures.found.0

pub returns-clause-count : goal.returns-clause-count
returns-clause-count g c =
    counts_all c.args.search.now c.solutions.search c.next.new.self c.args.steps.now c.solutions.steps c.next.new.steps c.solutions.count c.solutions.invariant c.in_default.ensures.counted c.in_default.ensures.rose
    c.in_default.ensures.found.0

pub returns-clause-all : goal.returns-clause-all
returns-clause-all g c = λ none idle.
    floods_all c.args.search.now c.solutions.search c.next.new.self c.args.steps.now c.solutions.steps c.next.new.steps c.solutions.count c.solutions.invariant c.in_default.ensures.counted c.in_default.ensures.rose
    idle (c.in_default.ensures.whole (c.solutions.invariant.given ∙ none))
