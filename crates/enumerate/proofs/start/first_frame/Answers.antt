-- The first frame stands for the first state.
use Rattle.std.proofs.Common.{sym, ap, ◌+◌, ◌∙◌, arith, rules}
use Rattle.hold_queue.specs.QueueSet.{queues_in_play}
use Rattle.hold_queue.specs.Supply.{supply_in_play}
use Rattle.prune.specs.Tiling.{supply_in}
use Rattle.enumerate.specs.Setups.{state_of}
use Rattle.problem.proofs.CallerLemmas.{filled-low}
use Rattle.enumerate.proofs.SearchLemmas.{first-state}
use Rattle.enumerate.proofs.TilingLaws.{supplies-read}
use Rattle.enumerate.proofs.start.first_frame.Goals as goal
use Rattle.enumerate.proofs.start.first_frame.Goals.{in-None, in-Some}

pub invariant_of-setup-clause-bounded : goal.invariant_of-setup-clause-bounded
invariant_of-setup-clause-bounded c = record { none = (filled-low c.args.problem.now.well c.args.problem.now.height (omega (arith, c.requires.field.fit.low)) c.requires.field.below).none }

pub invariant_of-setup-clause-supplied : goal.invariant_of-setup-clause-supplied
invariant_of-setup-clause-supplied c = c.new-supply.ensures ∙ ap supply_in c.supply.ensures ∙ supplies-read (queues_in_play c.match-queue.queues) (c.saturating_sub-left.result + 1)
    ∙ ap (λ set. supply_in_play (queues_in_play set) (c.saturating_sub-left.result + 1)) (sym c.of-line.ensures)

pub returns-clause-state : goal.returns-clause-state
unfolding state_of
returns-clause-state c = search (rules, first-state)
