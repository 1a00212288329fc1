-- The key is seen as the question.
use Rattle.dead_memo.specs.Question.{question}
use Rattle.dead_memo.specs.Keys.{question_of}
use Rattle.dead_memo.proofs.key.Key.new.Goals as goal

pub returns : goal.returns
unfolding question question_of
returns c = λ i. record { field = c.cells_below.ensures i; rows = c.args.rows_left; supply = c.args.supply.now }
