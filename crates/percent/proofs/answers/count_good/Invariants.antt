use Rattle.percent.proofs.AnswerLemmas.{Counting}
use Rattle.percent.proofs.answers.count_good.Given as goal

abbrev pub invariant-loop-number : goal.invariant-loop-number
invariant-loop-number l = Counting l.problem l.number l.count
