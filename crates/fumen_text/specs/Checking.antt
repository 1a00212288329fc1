-- A page whose comment has to be escaped to be measured.
use Rattle.std.specs.Prelude.{◌≡◌, ℕ, Some, None, ◌⊎◌}
use Rattle.fumen_digits.specs.declared.dialect.Dialect.{Dialect}
use Rattle.fumen_pages.specs.declared.page.Page.{Page}
use Rattle.fumen_pages.specs.declared.encode_fault.EncodeFault.TheVariants.{CommentTooLong}
use Rattle.fumen_text.specs.Written.{HasFewUnits, page_encode_fault}

-- the comment of a page, counted from 1, has more than a few units, and nothing else of it has a fault
pub record IsMeasured (d : Dialect) (number : ℕ) (page : Page) : Type 0 where
  pub many : HasFewUnits page → ⊥
  pub fault : (page_encode_fault d number page ≡ None)
      ⊎ (page_encode_fault d number page ≡ Some (CommentTooLong number))
