-- What contracts see of a writer of fumen texts.
use Rattle.std.specs.Prelude.{ℕ, List, vec_capacity}
use Rattle.fumen_pages.specs.declared.page.Page.{Page}
use Rattle.report.specs.declared.fumen_line.FumenWriter.{FumenWriter}

-- the pages that it holds
abbrev pub pages_of_line : FumenWriter → List Page
pages_of_line writer = writer.pages.items

-- for how many pages it has memory
abbrev pub room_for_pages : FumenWriter → ℕ
room_for_pages writer = vec_capacity writer.pages
