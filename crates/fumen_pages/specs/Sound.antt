-- Pages that a dialect has.
use Rattle.std.specs.Prelude.{IsTrue, is_some}
use Rattle.std.specs.Option.{ForSome}
use Rattle.fumen_digits.specs.declared.dialect.Dialect.{Dialect}
use Rattle.fumen_pages.specs.declared.page.Page.{Page}
use Rattle.fumen_pages.specs.declared.action.Action.{Action}
use Rattle.fumen_pages.specs.Cells.{AreCells}
use Rattle.fumen_pages.specs.Action.{is_inside_in}

-- its cells are colours, empty in the rows that the dialect hasn't, and its operation lies in the dialect's rows
pub record IsSound (dialect : Dialect) (page : Page) : Type 0 where
  pub cells : AreCells dialect page.cells
  pub inside : ForSome page.operation (λ placement. IsTrue (is_inside_in dialect placement))

-- what a page does, and whether it has a comment
abbrev pub action_of : Page → Action
action_of page =
    record {
      operation = page.operation;
      rise = page.rise;
      mirror = page.mirror;
      colour = page.colour;
      lock = page.lock;
      comment = is_some page.comment;
    }
