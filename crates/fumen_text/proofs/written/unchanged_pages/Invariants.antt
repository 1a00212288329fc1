-- The pages so far are unchanged, and those that are left complete their number, up to 63.
use Rattle.std.proofs.Common.{◌≡◌, ◌+◌, ◌≤◌, drop, min}
use Rattle.fumen_pages.specs.Next.{next}
use Rattle.fumen_text.specs.Written.{unchanged_pages}
use Rattle.fumen_text.proofs.written.unchanged_pages.Given as goal

abbrev pub invariant-loop-page : goal.invariant-loop-page
invariant-loop-page l =
    (l.count ≤ 63)
    × (min 63 (l.count + unchanged_pages l.dialect l.before (drop l.page-index l.rest)) ≡ min 63 (unchanged_pages l.dialect (next l.dialect l.fn.page) l.rest))
