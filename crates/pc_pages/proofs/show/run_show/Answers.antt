-- The pages of the text are shown, or the one that is asked for.
use Rattle.std.proofs.Common.{◌≡◌, ◌∙◌, ℕ, ◌-◌, List, All, Option, Some, None, Err, refl, ap, sym, subst, rules}
use Rattle.std.specs.Prelude.{slice_get}
use Rattle.fumen_pages.specs.declared.page.Page.{Page}
use Rattle.page_show.specs.Page.{shown_page}
use Rattle.pc_source.specs.Faults.{page_fault, text_fault}
use Rattle.pc_source.specs.Had.{HasText, IsShowable}
use Rattle.pc_source.proofs.CallerLemmas.{has_prefix, refused_answers, text_reads, text_refused, wants_memory, written_answers}
use Rattle.pc_pages.specs.Output.{IsShowOutput, IsShown, shown_from}
use Rattle.pc_pages.specs.Tasks.{show_task}
use Rattle.pc_pages.proofs.ShownPages.{showable_there}
use Rattle.pc_pages.proofs.show.run_show.Goals as goal

-- the pages of the text are had
module _ (asked : Option ℕ) (bytes : List ℕ) (pages : List Page) (has : HasText bytes pages) where
  none_of : page_fault asked pages ≡ None → text_fault asked bytes ≡ None
  none_of none = text_reads asked bytes pages has ∙ none

  output_of : (output : List ℕ) → IsShown asked pages output → IsShowOutput asked bytes output
  output_of output shown = record { dialect = has.dialect; pages = pages; reads = has.reads; shown = shown }

all_shown : (asked : Option ℕ) (pages : List Page) → asked ≡ None → (page_fault asked pages ≡ None) × IsShown asked pages (shown_from 1 pages)
all_shown asked pages none = subst (λ a. (page_fault a pages ≡ None) × IsShown a pages (shown_from 1 pages)) (sym none) (refl, refl)

one_shown : (asked : Option ℕ) (number : ℕ) (pages : List Page) (page : Page) → asked ≡ Some number → slice_get pages (number - 1) ≡ Some page
    → page_fault (Some number) pages ≡ None → (page_fault asked pages ≡ None) × IsShown asked pages (shown_page number page)
one_shown asked number pages page given there none = search rules

pub returns-in-Err-clause-answers : goal.returns-in-Err-clause-answers
returns-in-Err-clause-answers g c =
    refused_answers (show_task c.args.asked) c.args.bytes.now _ _ 0 c.in-Err.refused c.from.result c.from.ensures refl (λ _ reads. cc) (text_refused c.args.asked c.args.bytes.now c.in-Err.refused c.in-Err.ensures.refused)

pub show_all-requires-clause-showable : goal.show_all-requires-clause-showable
show_all-requires-clause-showable g c = subst (All IsShowable) (sym c.deref.ensures.value) c.in-Ok.ensures.showable

pub returns-in_default-clause-answers : goal.returns-in_default-clause-answers
returns-in_default-clause-answers g c =
    let bytes = c.args.bytes.now in
    let pages = c.deref.result.now in
    let has = subst (HasText bytes) (sym c.deref.ensures.value) c.in-Ok.ensures.pages in
    let shown = all_shown c.args.asked pages c.in_default.is in
    written_answers (show_task c.args.asked) bytes (shown_from 1 pages) _ _ 0 c.show_all.result c.after_writes.result c.after_writes.ensures (none_of c.args.asked bytes pages has shown.0)
    (output_of c.args.asked bytes pages has (shown_from 1 pages) shown.1) c.show_all.ensures.written c.show_all.ensures.cause

pub show_page-requires-clause-colours : goal.show_page-requires-clause-colours
show_page-requires-clause-colours g c =
    let showable = subst (All IsShowable) (sym c.deref-2.ensures.value) c.in-Ok.ensures.showable in
    (showable_there c.deref-2.result.now (c.in-Some.number - 1) c.in-Ok-page_at.page.now showable c.in-Ok-page_at.ensures.page).colours

pub show_page-requires-clause-inside : goal.show_page-requires-clause-inside
show_page-requires-clause-inside g c =
    let showable = subst (All IsShowable) (sym c.deref-2.ensures.value) c.in-Ok.ensures.showable in
    (showable_there c.deref-2.result.now (c.in-Some.number - 1) c.in-Ok-page_at.page.now showable c.in-Ok-page_at.ensures.page).inside

pub returns-in-Ok-page_at-clause-answers : goal.returns-in-Ok-page_at-clause-answers
returns-in-Ok-page_at-clause-answers g c =
    let bytes = c.args.bytes.now in
    let pages = c.deref-2.result.now in
    let page = c.in-Ok-page_at.page.now in
    let has = subst (HasText bytes) (sym c.deref-2.ensures.value) c.in-Ok.ensures.pages in
    let shown = one_shown c.args.asked c.in-Some.number pages page c.in-Some.is c.in-Ok-page_at.ensures.page c.in-Ok-page_at.ensures.none in
    written_answers (show_task c.args.asked) bytes (shown_page c.in-Some.number page) _ _ 0 c.show_page.result c.after_writes-in-Ok-page_at.result c.after_writes-in-Ok-page_at.ensures (none_of c.args.asked bytes pages has shown.0)
    (output_of c.args.asked bytes pages has (shown_page c.in-Some.number page) shown.1) c.show_page.ensures.written c.show_page.ensures.cause

pub returns-clause-answers : goal.returns-clause-answers
returns-clause-answers g c =
    let bytes = c.args.bytes.now in
    let pages = c.deref-2.result.now in
    let has = subst (HasText bytes) (sym c.deref-2.ensures.value) c.in-Ok.ensures.pages in
    (text_reads c.args.asked bytes pages has ∙ ap (λ a. page_fault a pages) c.in-Some.is ∙ c.in-Err-page_at.ensures.fault, refl)

pub returns-in-Err-clause-memory : goal.returns-in-Err-clause-memory
returns-in-Err-clause-memory g c = λ none. c.in-Err.ensures.memory (ap (λ r. Err r) (wants_memory c.in-Err.refused c.from.result c.from.ensures none))

pub returns-in_default-clause-memory : goal.returns-in_default-clause-memory
returns-in_default-clause-memory g c = λ _. has_prefix c.args.bytes.now c.in-Ok.pages.items c.in-Ok.ensures.pages

pub returns-in-Ok-page_at-clause-memory : goal.returns-in-Ok-page_at-clause-memory
returns-in-Ok-page_at-clause-memory g c = λ _. has_prefix c.args.bytes.now c.in-Ok.pages.items c.in-Ok.ensures.pages
