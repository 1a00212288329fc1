use Rattle.percent.specs.QueueAnswers.{AreAnswers}
use Rattle.percent.proofs.answers.judged.Given as goal

abbrev pub invariant-loop-number : goal.invariant-loop-number
invariant-loop-number l = AreAnswers l.problem l.answers.items l.number
