-- A block of one tail is added.
use Rattle.std.proofs.Common.{◌||◌, ◌∙◌, ap}
use Rattle.std.proofs.lemmas.Result.{on_ok_weaker}
use Rattle.tails.specs.TailSets.{has}
use Rattle.tails.proofs.BlockLemmas.{one-in}
use Rattle.tails.proofs.tail_set.TailSet.insert.Goals as goal

pub returns-clause-inserted : goal.returns-clause-inserted
returns-clause-inserted c =
    on_ok_weaker c.add.result
    (λ added other. added other ∙ ap (λ b. has c.args.self.now other || b) (one-in c.args.tail other))
    c.add.ensures.added
