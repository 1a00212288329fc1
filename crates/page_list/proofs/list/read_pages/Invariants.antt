-- The pages so far stand in front of those that are left.
use Rattle.std.proofs.Common.{◌≡◌, ◌+◌, ◌≤◌, length}
use Rattle.fumen_pages.specs.Lists.{most_pages}
use Rattle.page_list.specs.ListReading.{lines_of, pages_from, pages_in}
use Rattle.page_list.proofs.ListLemmas.{HasBegun, behind}
use Rattle.page_list.proofs.list.read_pages.Given as goal

abbrev pub invariant-loop-rest : goal.invariant-loop-rest
invariant-loop-rest l =
    (behind l.pages.items (pages_from (length l.pages.items + 1) (lines_of l.rest)) ≡ pages_in l.text) × (length l.pages.items ≤ most_pages) × HasBegun l.text l.pages.items l.rest

abbrev pub decreases-loop-rest : goal.decreases-loop-rest
decreases-loop-rest l = length l.rest
