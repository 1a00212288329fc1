-- What stands behind the cells of a page: its action, and its comment.
use Rattle.std.specs.Prelude.{◌≡◌, ℕ, List, [], ◌++◌, Option, Some, None}
use Rattle.fumen_digits.specs.declared.dialect.Dialect.{Dialect}
use Rattle.fumen_digits.specs.Number.{digits}
use Rattle.fumen_comment.specs.Part.{SpellsComment}
use Rattle.fumen_pages.specs.declared.page.Page.{Page}
use Rattle.fumen_pages.specs.Action.{SaysAction}
use Rattle.fumen_pages.specs.Sound.{action_of}

-- the comment part of a page, where it has a comment
abbrev pub SpellsPart : Option (List ℕ) → List ℕ → Type 0
SpellsPart None ds = ds ≡ []
SpellsPart (Some units) ds = SpellsComment units ds

-- ds spells the page's operation, flags and comment
pub record Tail (dialect : Dialect) (page : Page) (ds : List ℕ) : Type 0 where
  pub number : ℕ
  pub says : SaysAction dialect number (action_of page)
  pub part : List ℕ
  pub comment : SpellsPart page.comment part
  pub spelled : ds ≡ digits 3 number ++ part
