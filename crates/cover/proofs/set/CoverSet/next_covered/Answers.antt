-- A queue permits a kept list, or those that begin like it permit none.
use Rattle.std.proofs.Common.{arith, rules}
use Rattle.cover.specs.Kept.{lists_of, kept_problem}
use Rattle.cover.specs.Tree.{nodes_of}
use Rattle.cover.proofs.NextLemmas.{next-found, next-passed, none-at-all}
use Rattle.cover.proofs.TreeFacts.{branches-of}
use Rattle.cover.proofs.set.CoverSet.next_covered.Goals as goal

pub look_at-requires-clause-node : goal.look_at-requires-clause-node
look_at-requires-clause-node c = (branches-of c.args.self.now.tree).rooted

pub returns-in-Found : goal.returns-in-Found
unfolding kept_problem lists_of
returns-in-Found c =
    search (rules, (next-found c.args.self.now.problem (lists_of c.args.self.now) (nodes_of c.args.self.now.tree) c.start-hand.result c.args.self.now.listed c.start-hand.ensures.at c.args.from c.loop-number.number c.queue-queue.result.items c.loop-number.invariant c.queue-queue.ensures c.in-Found.ensures))

pub loop-number-smaller : goal.loop-number-smaller
unfolding kept_problem
loop-number-smaller c = search rules

pub loop-number-preserved : goal.loop-number-preserved
unfolding kept_problem lists_of
loop-number-preserved c =
    search (rules, (next-passed c.args.self.now.problem (lists_of c.args.self.now) (nodes_of c.args.self.now.tree) c.start-hand.result c.args.self.now.listed c.start-hand.ensures.at c.args.from c.loop-number.number c.end_of_front-number.result c.in-Missed.seen c.queue-queue.result.items c.loop-number.invariant c.in-Missed.ensures c.end_of_front-number.ensures.same c.end_of_front-number.ensures.after c.end_of_front-number.ensures.within))

pub returns : goal.returns
unfolding kept_problem lists_of
returns c =
    none-at-all c.args.self.now.problem (lists_of c.args.self.now) c.args.from c.loop-number.number c.loop-number.invariant (omega (arith, c.loop-number-test.false, c.count.ensures.number))
