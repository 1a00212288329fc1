-- The goals of `next_element` that need lemmas.
use Rattle.std.proofs.Common.{◌≡◌, ◌∙◌, length, sym, ap, arith, rules}
use Rattle.std.proofs.lemmas.Result.{err_from_is_err_and}
use Rattle.queue_pattern.specs.Grammar.{read_at, outside}
use Rattle.queue_pattern.proofs.ReadStep.{read_end}
use Rattle.queue_pattern.proofs.ReadElement.{read_gap}
use Rattle.queue_pattern.proofs.text.next_element.Goals as goal

pub returns-in_err-found-clause-found : goal.returns-in_err-found-clause-found
returns-in_err-found-clause-found c = search (rules, err_from_is_err_and)

pub returns-then-not-is_gap-clause-found : goal.returns-then-not-is_gap-clause-found
returns-then-not-is_gap-clause-found c = search rules

pub loop-start-preserved : goal.loop-start-preserved
loop-start-preserved c = c.loop-start.invariant ∙ read_gap c.args.text.now c.loop-start.start c.loop-start-test.true (sym c.if-not-is_gap.ensures)

pub returns-clause-found : goal.returns-clause-found
returns-clause-found c =
    let at_end : c.loop-start.start ≡ length c.args.text.now = omega arith in
    c.loop-start.invariant ∙ ap (read_at c.args.text.now outside) at_end ∙ read_end c.args.text.now outside
