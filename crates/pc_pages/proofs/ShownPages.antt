-- Pages as they are shown, one after the other.
use Rattle.std.proofs.Common.{◌≡◌, ℕ, ◌+◌, ◌<◌, ◌≤◌, List, [], ◌++◌, length, drop, get_or, Option, Some, Result, ap, subst}
use Rattle.std.specs.Prelude.{slice_get, All}
use Rattle.std.proofs.lemmas.List.{at_drop_more, drop_all}
use Rattle.std.proofs.lemmas.Option.{get_or_from_slice_get, slice_get_within}
use Rattle.fumen_pages.specs.declared.page.Page.{Page}
use Rattle.pc_outside.specs.Writes.{WritesAll}
use Rattle.page_show.specs.Page.{shown_page}
use Rattle.pc_source.specs.Had.{IsShowable}
use Rattle.pc_pages.specs.Output.{shown_from}

-- the pages from one on, as they are shown
pub shown-more : (pages : List Page) (index : ℕ) (d : Page) → index < length pages
    → shown_from (index + 1) (drop index pages) ≡ shown_page (index + 1) (get_or pages index d) ++ shown_from (index + 1 + 1) (drop (index + 1) pages)
unfolding shown_from
shown-more pages index d within = at_drop_more (shown_from (index + 1)) pages index d within

-- no page is left
pub shown-none : (pages : List Page) (index : ℕ) → length pages ≤ index → shown_from (index + 1) (drop index pages) ≡ []
unfolding shown_from
shown-none pages index past = ap (shown_from (index + 1)) (drop_all index pages past)

-- what was written of a page was written of the item that it is
pub item_written : {T E : Type 0} {old new : Option (List ℕ)} {result : Result T E} (form : Page → List ℕ) (page item : Page) → page ≡ item
    → WritesAll old new result (form page) → WritesAll old new result (form item)
item_written {old = old} {new = new} {result = result} form page item is written = subst (λ p. WritesAll old new result (form p)) is written

-- a page that is there can be shown as all can
pub showable_there : (pages : List Page) (index : ℕ) (page : Page) → All IsShowable pages → slice_get pages index ≡ Some page → IsShowable page
showable_there pages index page all there = subst IsShowable (get_or_from_slice_get pages index page page there) (all index page (slice_get_within pages index page there))
