-- Where the empty cells are no multiple of four no tail is good.
use Rattle.std.proofs.Common.{◌&&◌, sym, subst, ap, ◌∙◌, ◌%◌}
use Rattle.well.specs.Well.{filled}
use Rattle.tails.specs.TailSets.{has}
use Rattle.tails.specs.Tails.{IsTail}
use Rattle.percent.specs.GoodTails.{is_good_tail}
use Rattle.percent.proofs.AnswerLemmas.{uneven-answer}
use Rattle.percent.proofs.start.good_tails.Goals as goal

pub returns-then-empties_below-ne0-clause-members : goal.returns-then-empties_below-ne0-clause-members
returns-then-empties_below-ne0-clause-members g c = λ tail.
    c.none.ensures.none tail
    ∙ uneven-answer c.args.problem.now c.args.tree c.args.tails.now c.requires.fit (λ e. c.if-empties_below-ne0.true (ap (λ n. n % 4) c.empties_below.ensures ∙ e)) tail

pub good_among-requires-clause-tails : goal.good_among-requires-clause-tails
good_among-requires-clause-tails g c = λ tail there. subst (λ tree. IsTail tree tail) (sym c.new-kept.ensures.tree) (c.requires.tails tail there)

pub returns-clause-members : goal.returns-clause-members
returns-clause-members g c = λ tail.
    c.in_ok-good.ensures.members tail
    ∙ (λ i. has c.args.tails.now tail
    && is_good_tail (c.new-kept.ensures.tree i) (c.new-kept.ensures.game i) (filled (c.first_position-position.ensures.well i)) (c.first_position-position.ensures.rows i)
    (c.needed-left.ensures i) tail)
