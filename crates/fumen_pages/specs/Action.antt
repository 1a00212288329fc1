-- The number of a page's action: its operation and its flags.
use Rattle.std.specs.Prelude.{◌≡◌, ℕ, ◌+◌, ◌-◌, ◌*◌, ◌/◌, ◌%◌, ◌<◌, Bool, true, false, not, ◌&&◌, nat_le, nat_lt, IsTrue, pos, ◌-ℤ◌, Option, Some, None}
use Rattle.std.specs.List.{list_all}
use Rattle.fumen_digits.specs.declared.dialect.Dialect.{Dialect}
use Rattle.fumen_digits.specs.Dialect.{page_row_count, page_cell_count}
use Rattle.srs.specs.declared.piece.Piece.{Piece}
use Rattle.srs.specs.declared.piece.Piece.TheVariants.{I, O, Z, S}
use Rattle.srs.specs.declared.rotation.Rotation.{Rotation}
use Rattle.srs.specs.declared.rotation.Rotation.TheVariants.{Spawn, Right, Reverse, Left}
use Rattle.srs.specs.declared.placement.Placement.{Placement}
use Rattle.srs.specs.Piece.{piece_code}
use Rattle.srs.specs.Cells.{Cell, minus, moved, pivot_of, cells_of, cells_at}
use Rattle.fumen_pages.specs.declared.action.Action.{Action}

-- fumen's number of a rotation
abbrev pub rotation_code : Rotation → ℕ
rotation_code Spawn = 2
rotation_code Right = 1
rotation_code Reverse = 0
rotation_code Left = 3

-- what the pivot is moved by where it is written
abbrev pub written_by : Piece → Rotation → Cell
written_by O Left = (minus 1, pos 1)
written_by O Reverse = (minus 1, pos 0)
written_by O Spawn = (pos 0, pos 1)
written_by I Reverse = (minus 1, pos 0)
written_by I Left = (pos 0, pos 1)
written_by S Spawn = (pos 0, pos 1)
written_by S Right = (pos 1, pos 0)
written_by Z Spawn = (pos 0, pos 1)
written_by Z Left = (minus 1, pos 0)
written_by piece rotation = (pos 0, pos 0)

-- a cell moved back by a number of columns and rows
unfoldable pub moved_back : Cell → Cell → Cell
moved_back cell move = (cell.0 -ℤ move.0, cell.1 -ℤ move.1)

-- the cell with a number, counted from the top row of the dialect down, each row from left to right; the garbage row is
-- the row below 0
abbrev pub numbered_cell : Dialect → ℕ → Cell
numbered_cell dialect place = (pos (place % 10), pos (page_row_count dialect - 1) -ℤ pos (place / 10))

-- a cell of the columns 0 to 9 and the dialect's rows
abbrev pub in_rows : Dialect → Cell → Bool
in_rows dialect (pos x, pos y) = nat_le x 9 && nat_lt y (page_row_count dialect)
in_rows dialect other = false

-- all four cells lie there
abbrev pub is_inside_in : Dialect → Placement → Bool
is_inside_in dialect placement = list_all (in_rows dialect) (cells_of placement)

abbrev pub bit : Bool → ℕ
bit true = 1
bit false = 0

-- the flags as one number
abbrev pub flags_of : Action → ℕ
flags_of action = bit action.rise + 2 * bit action.mirror + 4 * bit action.colour + 8 * bit action.comment
    + 16 * bit (not action.lock)

-- the number of these parts
abbrev pub number_of_parts : Dialect → ℕ → ℕ → ℕ → ℕ → ℕ
number_of_parts dialect piece rotation place flags =
    piece + 8 * rotation + 32 * place + 32 * page_cell_count dialect * flags

-- a number names a piece in a rotation, with the pivot at a cell, inside or not
pub record Names (dialect : Dialect) (number : ℕ) (piece : Piece) (rotation : Rotation) (pivot : Cell)
    (flags : ℕ) : Type 0 where
  pub place : ℕ
  pub within : place < page_cell_count dialect
  pub written : numbered_cell dialect place ≡ moved pivot (written_by piece rotation)
  pub number_is : number ≡ number_of_parts dialect (piece_code piece) (rotation_code rotation) place flags

-- a number names no piece: rotation and place may be anything
pub record NamesNone (dialect : Dialect) (number flags : ℕ) : Type 0 where
  pub rotation : ℕ
  pub place : ℕ
  pub turned : rotation < 4
  pub within : place < page_cell_count dialect
  pub number_is : number ≡ number_of_parts dialect 0 rotation place flags

-- a number says this operation, if any, which lies inside
abbrev pub SaysOperation : Dialect → ℕ → Option Placement → ℕ → Type 0
SaysOperation dialect number None flags = NamesNone dialect number flags
SaysOperation dialect number (Some p) flags =
    Names dialect number p.piece p.rotation (pivot_of p) flags × IsTrue (is_inside_in dialect p)

-- a number says this action
abbrev pub SaysAction : Dialect → ℕ → Action → Type 0
SaysAction dialect number action = SaysOperation dialect number action.operation (flags_of action)

-- a number below the end of numbers names a piece with a cell outside
pub record SaysOutside (dialect : Dialect) (number : ℕ) : Type 0 where
  pub piece : Piece
  pub rotation : Rotation
  pub pivot : Cell
  pub flags : ℕ
  pub names : Names dialect number piece rotation pivot flags
  pub flagged : flags < 32
  pub outside : list_all (in_rows dialect) (cells_at piece rotation pivot) ≡ false

-- the least number that is no action's
abbrev pub action_end : Dialect → ℕ
action_end dialect = 1024 * page_cell_count dialect
