-- One more page is fit, or has the first fault; and then all are fit.
use Rattle.std.proofs.Common.{arith, rules}
use Rattle.std.proofs.lemmas.Result.{err_from_is_err_and}
use Rattle.fumen_digits.proofs.CallerLemmas.{err_passed}
use Rattle.fumen_text.proofs.FoundFirst.{none_first}
use Rattle.fumen_text.proofs.WrittenIsRead.{check_starts, check_more, check_stops, check_ends}
use Rattle.fumen_text.proofs.checks.check_pages.Goals as goal

pub returns-in_err-check_page-clause-fault : goal.returns-in_err-check_page-clause-fault
returns-in_err-check_page-clause-fault c = search (rules, err_from_is_err_and, check_stops)

pub loop-i-init : goal.loop-i-init
loop-i-init c = check_starts c.args.dialect c.args.pages.now

pub loop-i-preserved : goal.loop-i-preserved
loop-i-preserved c = search (rules, (check_more c.args.dialect c.args.pages.now c.loop-i.i c.index-pages-i.result))

pub returns-clause-fault : goal.returns-clause-fault
returns-clause-fault c = (check_ends c.args.dialect c.args.pages.now c.loop-i.i (omega arith) (omega (arith, c.if-pages-gt-MOST_PAGES.false)) c.loop-i.invariant).0

pub returns-clause-fit : goal.returns-clause-fit
returns-clause-fit c = (check_ends c.args.dialect c.args.pages.now c.loop-i.i (omega arith) (omega (arith, c.if-pages-gt-MOST_PAGES.false)) c.loop-i.invariant).1

pub returns-in_err-check_page-clause-memory : goal.returns-in_err-check_page-clause-memory
returns-in_err-check_page-clause-memory c = search (rules, err_from_is_err_and, none_first, err_passed)
