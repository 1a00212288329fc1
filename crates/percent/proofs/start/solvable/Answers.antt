-- The answer for the tail of the queue is that for the queue.
use Rattle.std.proofs.Common.{sym, subst, ap, ◌∙◌}
use Rattle.queue_pattern.specs.Pattern.{elements_of}
use Rattle.queue_pattern.proofs.CallerLemmas.{pattern-some}
use Rattle.tails.specs.TailSets.{has}
use Rattle.tails.specs.Tails.{start_tail}
use Rattle.percent.specs.QueueAnswers.{IsTreeOf}
use Rattle.percent.proofs.AnswerLemmas.{one-answer}
use Rattle.percent.proofs.StartLemmas.{one-hand, tree-room}
use Rattle.percent.proofs.start.solvable.Goals as goal

pub all-requires : goal.all-requires
all-requires g c = record { room = tree-room c.args.problem.now (elements_of c.from_queue.result) c.in_ok-tree.tree c.requires c.in_ok-tree.ensures }

pub start-requires-clause-within : goal.start-requires-clause-within
start-requires-clause-within g c = pattern-some c.in_ok-tree-2.tree.pattern

pub start-requires-clause-room : goal.start-requires-clause-room
start-requires-clause-room g c =
    tree-room c.args.problem.now (elements_of c.from_queue.result) c.in_ok-tree-2.tree c.requires
    (subst (IsTreeOf c.args.problem.now (elements_of c.from_queue.result)) (sym c.in_ok-tree-2.ensures.tree) c.in_ok-tree.ensures)

pub returns-clause-good : goal.returns-clause-good
returns-clause-good g c =
    let problem = c.args.problem.now in
    let tree = c.in_ok-tree.tree in
    one-answer problem c.args.queue.now.items tree c.in_ok-tails.tails c.in_ok-tree-2.good (start_tail tree problem.held 0) c.has.result c.requires
    (one-hand problem c.args.queue.now.items (elements_of c.from_queue.result) tree c.requires c.from_queue.ensures c.in_ok-tree.ensures)
    (c.in_ok-tails.ensures.all 0 (pattern-some tree.pattern)) c.in_ok-tree-2.ensures.members
    (c.has.ensures ∙ ap (has c.in_ok-tree-2.good) (c.start.ensures.value ∙ ap (λ t. start_tail t problem.held 0) c.in_ok-tree-2.ensures.tree))
