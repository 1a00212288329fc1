-- The good ones of all tails are those of good queues.
use Rattle.std.proofs.Common.{ℕ, sym, subst, refl}
use Rattle.queue_pattern.specs.Pattern.{elements_of}
use Rattle.tails.specs.TailSets.{has}
use Rattle.tails.specs.declared.tree.TailTree.{TailTree}
use Rattle.percent.specs.Answers.{problem_of}
use Rattle.percent.specs.QueueAnswers.{BeginAlike, HasEachTail, HasGoodTails, IsTreeOf}
use Rattle.percent.proofs.AnswerLemmas.{each-tail, good-tails}
use Rattle.percent.proofs.StartLemmas.{tree-room}
use Rattle.percent.proofs.answers.Answers.new.Goals as goal

pub all-requires : goal.all-requires
all-requires g c = record { room = tree-room c.args.problem.now (elements_of c.args.problem.now.pattern) c.in_ok-tree.tree c.requires c.in_ok-tree.ensures }

pub judged-requires-clause-own : goal.judged-requires-clause-own
judged-requires-clause-own g c = subst (IsTreeOf c.args.problem.now (elements_of c.args.problem.now.pattern)) (sym c.in_ok-tree-2.ensures.tree) c.in_ok-tree.ensures

pub judged-requires-clause-each : goal.judged-requires-clause-each
judged-requires-clause-each g c =
    let problem = c.args.problem.now in
    let all = c.in_ok-all.all in
    subst (λ (tree : TailTree). (alike : ℕ) → BeginAlike problem tree alike → HasEachTail problem tree alike (has all)) (sym c.in_ok-tree-2.ensures.tree)
    (λ alike begin. each-tail problem c.in_ok-tree.tree alike all begin c.in_ok-all.ensures.all)

pub judged-requires-clause-exact : goal.judged-requires-clause-exact
judged-requires-clause-exact g c =
    let problem = c.args.problem.now in
    let tree = c.in_ok-tree.tree in
    let all = c.in_ok-all.all in
    let good = c.in_ok-tree-2.good in
    subst (λ (t : TailTree). (alike : ℕ) → BeginAlike problem t alike → HasGoodTails problem t alike good) (sym c.in_ok-tree-2.ensures.tree)
    (λ alike begin. good-tails problem tree alike all good c.requires c.in_ok-tree.ensures begin (each-tail problem tree alike all begin c.in_ok-all.ensures.all) c.in_ok-tree-2.ensures.members)

pub invariant_of-result : goal.invariant_of-result
invariant_of-result g c = record {
  fit = c.requires;
  exact = c.in_ok-good.ensures;
  counted = c.count_good-count.ensures;
}

pub returns-clause-problem : goal.returns-clause-problem
unfolding problem_of
returns-clause-problem g c = refl
