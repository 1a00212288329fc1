-- The count is that of the struct.
use Rattle.percent.specs.Answers.{problem_of}
use Rattle.percent.proofs.answers.Answers.count_good.Goals as goal

pub returns : goal.returns
unfolding problem_of
returns c = c.args.self.now.counted
