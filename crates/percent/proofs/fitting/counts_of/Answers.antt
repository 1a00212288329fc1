-- Each digit is a piece.
use Rattle.percent.proofs.FittingLemmas.{tally-more, tally-ends}
use Rattle.percent.proofs.fitting.counts_of.Goals as goal

pub loop-preserved : goal.loop-preserved
loop-preserved c = tally-more c.args.hand c.args.pieces c.loop.counter c.loop.counts c.loop.rest c.loop-test.true c.loop.invariant

pub returns-clause-each : goal.returns-clause-each
returns-clause-each c = tally-ends c.args.hand c.args.pieces c.loop.counter c.loop.counts c.loop.rest c.loop-test.false c.loop.invariant
