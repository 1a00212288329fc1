-- The greater of two counts is put at their code.
use Rattle.std.proofs.Common.{arith}
use Rattle.percent.proofs.FittingLemmas.{raise-more}
use Rattle.percent.proofs.fitting.greater.Goals as goal

pub loop-code-preserved : goal.loop-code-preserved
loop-code-preserved c =
    let most = c.max.ensures in
    raise-more c.args.a.now c.args.b.now c.loop-code.counts c.loop-code.code c.max.result c.loop-code-test.true c.loop-code.invariant (omega (arith, most)) (omega (arith, most))
