-- One row more is blank, or the first that isn't is found.
use Rattle.std.proofs.Common.{◌+◌, ◌∙◌, sym, ap, arith, rules}
use Rattle.std.specs.List.{prefix_len}
use Rattle.fumen_pages.specs.Letters.{is_blank}
use Rattle.fumen_pages.proofs.ShownRows.{rows_left, rows_left-start, rows_left-end, first-goes_on, first-found}
use Rattle.fumen_pages.proofs.letters.first_shown.Goals as goal

pub loop-index-init : goal.loop-index-init
loop-index-init c = ap (prefix_len is_blank) (rows_left-start c.args.letters.now) ∙ omega arith

pub returns-then-not-is_blank-clause-value : goal.returns-then-not-is_blank-clause-value
returns-then-not-is_blank-clause-value c = search (rules, first-found)

pub loop-index-preserved : goal.loop-index-preserved
loop-index-preserved c = search (rules, first-goes_on)

pub returns-clause-value : goal.returns-clause-value
returns-clause-value c =
    sym (c.loop-index.invariant ∙ ap (λ n. n + prefix_len is_blank (rows_left c.args.letters.now n)) (omega arith) ∙ ap (λ rows. 23 + prefix_len is_blank rows) (rows_left-end c.args.letters.now))
