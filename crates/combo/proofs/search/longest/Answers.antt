-- The last run that was found is the longest.
use Rattle.std.proofs.lemmas.Grind.{common_steps}
use Rattle.std.proofs.Common.{arith, refl, rules}
use Rattle.fact_table.proofs.CallerLemmas.{facts-none}
use Rattle.reach.specs.FloodRules.{flood_table}
use Rattle.well.specs.Well.{filled}
use Rattle.hold_queue.specs.Hand.{pieces_at}
use Rattle.combo.proofs.FirstLemmas.{empty_first, is_longest}
use Rattle.combo.proofs.search.longest.Goals as goal

pub returns-clause-longest : goal.returns-clause-longest
returns-clause-longest g c =
    search (rules, (is_longest (flood_table c.new.result) c.args.drop_mode (filled c.args.well.now) c.args.hold c.args.queue.now.items c.args.held (pieces_at c.args.queue.now.items c.start-hand.result) c.loop-run.count c.loop-run.longest.items (c.start-hand.ensures.at c.args.queue.now.items) c.loop-run.invariant.1 c.loop-run.invariant.0 (c.in_default.ensures.none refl)))

pub loop-run-init : goal.loop-run-init
loop-run-init g c = grind (arith, common_steps, empty_first, facts-none)
