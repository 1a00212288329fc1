-- One more page is read, or a line has a fault, or the text ends.
use Rattle.std.specs.Prelude.{IsOk}
use Rattle.fumen_digits.proofs.CallerLemmas.{err_passed}
use Rattle.std.proofs.Common.{◌≡◌, Result, Ok, refl, subst, ◌+◌, ◌∙◌, ◌<◌, sym, ap, arith, length, length-append, Vec, Global, rules}
use Rattle.std.proofs.lemmas.List.{nil_from_length}
use Rattle.std.proofs.lemmas.Result.{err_from_is_err_and}
use Rattle.fumen_pages.specs.declared.page.Page.{Page}
use Rattle.page_list.specs.ListReading.{lines_of, pages_from, pages_in}
use Rattle.page_list.proofs.ListLemmas.{behind, behind_shorter, first_page, page_read, page_refused, pages_read}
use Rattle.page_list.proofs.list.read_pages.Goals as goal

was_ok : {T E : Type 0} {r : Result T E} {x : T} → r ≡ Ok x → IsOk r
was_ok {T = T} {E = E} is = subst (λ (r : Result T E). IsOk r) (sym is) refl

pub returns-in_err-page-clause-exact : goal.returns-in_err-page-clause-exact
returns-in_err-page-clause-exact c =
    let some : 0 < length c.loop-rest.rest.now = grind (arith, c.is_empty.ensures, c.loop-rest-test.true) in
    let p = err_from_is_err_and c.from_residual.result c.from_residual.ensures.1 in
    rw (p.1, p.2) (page_refused {X = Vec Page Global} (λ pages. pages.items) c.in_err-page.field-0.0 c.loop-rest.pages.items (c.len.result + 1) c.loop-rest.rest.now c.first_line.result.0.now c.first_line.result.1.now (pages_in c.args.text.now) some c.first_line.ensures c.in_err-page.ensures.exact
    (ap (λ n. behind c.loop-rest.pages.items (pages_from (n + 1) (lines_of c.loop-rest.rest.now))) (c.len.ensures ∙ c.loop-rest.pages.ok.0) ∙ c.loop-rest.invariant.0))

pub loop-rest-smaller : goal.loop-rest-smaller
loop-rest-smaller c = search (rules, (behind_shorter c.loop-rest.rest.now c.first_line.result.0.now c.first_line.result.1.now))

pub loop-rest-preserved : goal.loop-rest-preserved
loop-rest-preserved c = search (rules, page_read, length-append, first_page, was_ok)

pub returns-clause-exact : goal.returns-clause-exact
returns-clause-exact c = pages_read c.loop-rest.pages.items (length c.loop-rest.pages.items + 1) c.loop-rest.rest.now (pages_in c.args.text.now) (nil_from_length c.loop-rest.rest.now (grind (arith, c.is_empty.ensures, c.loop-rest-test.false))) c.loop-rest.invariant.0

pub returns-in_err-page-clause-memory : goal.returns-in_err-page-clause-memory
returns-in_err-page-clause-memory c = search (rules, err_from_is_err_and, first_page, err_passed)

pub returns-in_err-push-clause-memory : goal.returns-in_err-push-clause-memory
returns-in_err-push-clause-memory c = search (rules, first_page, was_ok)
