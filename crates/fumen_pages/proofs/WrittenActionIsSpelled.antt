-- The number that is written for a page's action says it.
use Rattle.std.proofs.Common.{◌≡◌, ℕ, ◌+◌, ◌*◌, ◌<◌, ◌≤◌, true, pos, to_z, w8, Option, Ok, refl, sym, subst, rules}
use Rattle.std.specs.Option.{ForSome}
use Rattle.fumen_digits.specs.declared.dialect.Dialect.{Dialect}
use Rattle.fumen_digits.specs.Dialect.{page_row_count, page_cell_count}
use Rattle.srs.specs.declared.piece.Piece.{Piece}
use Rattle.srs.specs.declared.rotation.Rotation.{Rotation}
use Rattle.srs.specs.declared.placement.Placement.{Placement}
use Rattle.srs.specs.Cells.{Cell, moved, shape, pivot_of}
use Rattle.srs.specs.SameCells.{is_among}
use Rattle.srs.proofs.CallerLemmas.{pivot_inside, each_state}
use Rattle.fumen_pages.specs.declared.page.Page.{Page}
use Rattle.fumen_pages.specs.Action.{written_by, numbered_cell, in_rows, is_inside_in, flags_of, SaysOperation, SaysAction}
use Rattle.fumen_pages.specs.Sound.{IsSound, action_of}
use Rattle.fumen_pages.specs.Reading.{action_in}
use Rattle.fumen_pages.specs.Written.{operation_number, action_number_of}
use Rattle.fumen_pages.specs.Cells.{place_of}
use Rattle.fumen_pages.proofs.InsideLaws.{LiesIn, cell_in_rows, cell_inside, inside_well}
use Rattle.fumen_pages.proofs.ActionReadAsSpelled.{read_from_says}

-- the written pivot is a cell of the piece
written_in_shape : (piece : Piece) (rotation : Rotation) → is_among (shape piece rotation) (written_by piece rotation) ≡ true
unfolding is_among
written_in_shape = each_state (λ p r. is_among (shape p r) (written_by p r)) refl

abbrev pub written_pivot : Placement → Cell
written_pivot p = moved (pivot_of p) (written_by p.piece p.rotation)

pub written_in_rows : (dialect : Dialect) (p : Placement) → is_inside_in dialect p ≡ true → in_rows dialect (written_pivot p) ≡ true
written_in_rows dialect p inside = search (rules, cell_in_rows, written_in_shape)

pub written_lies : (dialect : Dialect) (p : Placement) → is_inside_in dialect p ≡ true → LiesIn dialect (written_pivot p)
written_lies dialect p inside = search (rules, cell_inside, written_in_shape)

-- small bytes are their own signed numbers
pub written_there : (dialect : Dialect) (p : Placement) (cell by : Cell) → is_inside_in dialect p ≡ true → cell ≡ moved (to_z w8 p.x, to_z w8 p.y) by → by ≡ written_by p.piece p.rotation → cell ≡ written_pivot p
written_there dialect p cell by inside there is = search (rules, pivot_inside, inside_well)

-- the number of a cell is that under which it is numbered
pub record IsNumbered (dialect : Dialect) (cell : Cell) : Type 0 where
  pub within : place_of dialect cell < page_cell_count dialect
  pub back : numbered_cell dialect (place_of dialect cell) ≡ cell

numbered : (dialect : Dialect) (x y : ℕ) → x ≤ 9 → y < page_row_count dialect → IsNumbered dialect (pos x, pos y)
numbered dialect x y column row = search rules

pub numbered_lies : (dialect : Dialect) (cell : Cell) → LiesIn dialect cell → IsNumbered dialect cell
numbered_lies dialect cell at = subst (λ (c : Cell). IsNumbered dialect c) (sym at.is) (numbered dialect at.x at.y at.column at.row)

says_number : (dialect : Dialect) (operation : Option Placement) (flags : ℕ) → ForSome operation (λ p. is_inside_in dialect p ≡ true) → SaysOperation dialect (operation_number dialect operation + 32 * page_cell_count dialect * flags) operation flags
says_number dialect operation flags inside = search (rules, numbered_lies, written_lies)

pub number_says : (dialect : Dialect) (page : Page) → IsSound dialect page → SaysAction dialect (action_number_of dialect page) (action_of page)
unfolding action_number_of
number_says dialect page sound = says_number dialect page.operation (flags_of (action_of page)) sound.inside

pub number_read : (dialect : Dialect) (page : Page) → IsSound dialect page → action_in dialect (action_number_of dialect page) ≡ Ok (action_of page)
number_read dialect page sound = read_from_says dialect (action_number_of dialect page) (action_of page) (number_says dialect page sound)
