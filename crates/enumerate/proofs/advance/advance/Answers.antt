-- Where a try completes a solution, some frame is in use.
use Rattle.std.proofs.Common.{arith, lt-ltb, rules}
use Rattle.enumerate.proofs.Stacks.{finds-more, finds-none}
use Rattle.enumerate.proofs.Counting.{counts-none, counts-then}
use Rattle.enumerate.proofs.advance.advance.Goals as goal

pub returns-then-found-clause-found : goal.returns-then-found-clause-found
returns-then-found-clause-found g c = grind (arith, finds-more, lt-ltb)

pub loop-depth-init : goal.loop-depth-init
loop-depth-init g c = search (rules, counts-none)

pub loop-depth-preserved : goal.loop-depth-preserved
loop-depth-preserved g c =
    search (rules, finds-none, (counts-then c.args.notes.now.floods c.loop-depth.notes.floods c.try_deepest-next.new.notes.floods c.args.steps.now c.loop-depth.steps c.try_deepest-next.new.steps c.loop-depth.invariant.noted c.try_deepest-next.ensures.noted))

pub returns-then-found-clause-noted : goal.returns-then-found-clause-noted
returns-then-found-clause-noted g c = counts-then c.args.notes.now.floods c.loop-depth.notes.floods c.try_deepest-next.new.notes.floods c.args.steps.now c.loop-depth.steps c.try_deepest-next.new.steps c.loop-depth.invariant.noted c.try_deepest-next.ensures.noted

pub returns-clause-noted : goal.returns-clause-noted
returns-clause-noted g c = c.loop-depth.invariant.noted
