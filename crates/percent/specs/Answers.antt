-- What contracts see of answers: their problem.
use Rattle.percent.specs.declared.answers.Answers.{Answers}
use Rattle.problem.specs.declared.problem.Problem.{Problem}

unfoldable pub problem_of : Answers → Problem
problem_of answers = answers.problem
