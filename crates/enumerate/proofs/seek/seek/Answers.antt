-- The given sequence is passed by from its first placement to its last.
use Rattle.std.proofs.Common.{drop, arith, rules}
use Rattle.reach.specs.FloodRules.{flood_table}
use Rattle.enumerate.proofs.SeekLemmas.{drop-none, skips-to, starts}
use Rattle.enumerate.proofs.Counting.{counts-none, counts-then}
use Rattle.enumerate.proofs.seek.seek.Goals as goal

pub loop-target-init : goal.loop-target-init
loop-target-init g c = search (rules, starts, counts-none)

pub returns-clause-skips : goal.returns-clause-skips
returns-clause-skips g c = λ d.
    skips-to (flood_table c.args.rules.now) c.args.drop_mode c.loop-target.frames c.loop-target.top (drop c.loop-target.target-index c.args.given.now) d _ c.args.steps.now c.loop-target.steps
    (drop-none c.args.given.now c.loop-target.target-index c.loop-target-test.false) (omega arith) (c.loop-target.invariant.fresh d) (c.loop-target.invariant.skips d)

pub returns-then-not-skip_at-clause-noted : goal.returns-then-not-skip_at-clause-noted
returns-then-not-skip_at-clause-noted g c = counts-then c.args.notes.now.floods c.loop-target.notes.floods c.skip_at.new.notes.floods c.args.steps.now c.loop-target.steps c.skip_at.new.steps c.loop-target.invariant.noted c.skip_at.ensures.noted

pub returns-clause-noted : goal.returns-clause-noted
returns-clause-noted g c = c.loop-target.invariant.noted
