-- What is written and the rows that are left make the rows.
use Rattle.std.proofs.Common.{◌≡◌, ◌++◌}
use Rattle.std.specs.List.{join_with_byte}
use Rattle.fumen_pages.specs.Letters.{shown_rows}
use Rattle.fumen_pages.proofs.CallerLemmas.{rows_left}
use Rattle.page_list.proofs.line.push_shown.Given as goal

abbrev pub invariant-loop-index : goal.invariant-loop-index
invariant-loop-index l =
    l.line.items ++ join_with_byte 47 (rows_left l.letters l.index) ≡ l.initial.line.items ++ join_with_byte 47 (shown_rows l.letters)
