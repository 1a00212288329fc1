-- The rows so far are blank.
use Rattle.std.proofs.Common.{◌≡◌, ◌+◌}
use Rattle.std.specs.List.{prefix_len}
use Rattle.fumen_pages.specs.Next.{rows_in}
use Rattle.fumen_pages.specs.Letters.{is_blank}
use Rattle.fumen_pages.proofs.ShownRows.{rows_left}
use Rattle.fumen_pages.proofs.letters.first_shown.Given as goal

abbrev pub invariant-loop-index : goal.invariant-loop-index
invariant-loop-index l =
    prefix_len is_blank (rows_in 23 l.letters) ≡ l.index + prefix_len is_blank (rows_left l.letters l.index)
