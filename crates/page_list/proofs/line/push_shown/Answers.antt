-- One row more is written, and then all are.
use Rattle.std.proofs.Common.{◌≡◌, ◌++◌, ◌∙◌, sym, ap, append_assoc, append-nil, arith, rules}
use Rattle.std.specs.List.{join_with_byte}
use Rattle.fumen_pages.proofs.CallerLemmas.{rows_left, rows_left-end, shown-left}
use Rattle.page_list.proofs.RowLemmas.{joined-more}
use Rattle.page_list.proofs.line.push_shown.Goals as goal

pub loop-index-init : goal.loop-index-init
loop-index-init c = search (rules, shown-left)

pub loop-index-preserved : goal.loop-index-preserved
loop-index-preserved c = search (rules, rows_left, append_assoc, joined-more)

pub returns : goal.returns
returns c =
    let letters = c.args.letters.now in
    let last : c.loop-index.index ≡ 23 = let most = c.first_shown-index.ensures.most in let end = c.loop-index.auto.index-end most in omega arith in
    sym (append-nil c.loop-index.line.items)
    ∙ ap (λ rows. c.loop-index.line.items ++ join_with_byte 47 rows) (sym (ap (rows_left letters) last ∙ rows_left-end letters))
    ∙ c.loop-index.invariant
