-- Reading a page from a place on, with the first fault that is met.
use Rattle.std.specs.Prelude.{ℕ, zero, suc, ◌+◌, ◌*◌, ◌/◌, ◌%◌, List, [], ◌∷◌, ◌++◌, length, take, drop, replicate, Bool, true, false, ◌==◌, nat_eq, nat_lt, if◌then◌else◌, Option, Some, None, Result, Ok, Err, pos}
use Rattle.std.specs.List.{list_all, starts_with}
use Rattle.fumen_digits.specs.declared.dialect.Dialect.{Dialect}
use Rattle.fumen_digits.specs.Dialect.{page_cell_count}
use Rattle.fumen_digits.specs.declared.fault.FumenFault.{FumenFault}
use Rattle.fumen_digits.specs.declared.fault.FumenFault.TheVariants.{RunPastEnd, BadCell, BadAction, PieceOutside}
use Rattle.fumen_digits.specs.Reading.{◌>>=◌, number_at}
use Rattle.fumen_comment.specs.Reading.{comment_at}
use Rattle.srs.specs.declared.piece.Piece.{Piece}
use Rattle.srs.specs.declared.rotation.Rotation.{Rotation}
use Rattle.srs.specs.declared.rotation.Rotation.TheVariants.{Spawn, Right, Reverse, Left}
use Rattle.srs.specs.declared.placement.Placement.{Placement}
use Rattle.srs.specs.Piece.{piece_with_code}
use Rattle.srs.specs.Cells.{Cell, cells_at}
use Rattle.fumen_pages.specs.declared.page.Page.{Page}
use Rattle.fumen_pages.specs.declared.action.Action.{Action}
use Rattle.fumen_pages.specs.declared.action.ActionFault.{ActionFault}
use Rattle.fumen_pages.specs.declared.action.ActionFault.TheVariants as bad_action
use Rattle.fumen_pages.specs.declared.record.CellsRead.{CellsRead}
use Rattle.fumen_pages.specs.Cells.{missing_count, shown}
use Rattle.fumen_pages.specs.Action.{written_by, moved_back, numbered_cell, in_rows, action_end}
use Rattle.fumen_pages.specs.Record.{moved_by, stays_colour, unchanged}

-- ---- the record of the cells

-- a run of this many cells, with their difference and 8, unless it has a fault
abbrev pub checked_run : ℕ → List ℕ → ℕ → ℕ → Result (ℕ × ℕ) FumenFault
checked_run place left count shift =
    if nat_lt (length left) count then Err (RunPastEnd place)
    else (if list_all (stays_colour shift) (take count left) then Ok (count, shift) else Err (BadCell place))

-- the run at a place, over the cells that are left
unfoldable pub run_at : ℕ → List ℕ → ℕ → List ℕ → Result (ℕ × ℕ) FumenFault
run_at n ds place left = do
  number ← number_at ds place 2
  checked_run place left (number % n + 1) (number / n)

-- the new cells of those that are left, by this many runs at most, and the place behind them
unfoldable pub runs_at : ℕ → List ℕ → ℕ → ℕ → List ℕ → Result (List ℕ × ℕ) FumenFault
runs_at n ds place zero left = Ok ([], place)
runs_at n ds place (suc most) [] = Ok ([], place)
runs_at n ds place (suc most) (cell ∷ others) = do
  run ← run_at n ds place (cell ∷ others)
  rest ← runs_at n ds (place + 2) most (drop run.0 (cell ∷ others))
  Ok (moved_by run.1 (take run.0 (cell ∷ others)) ++ rest.0, rest.1)

-- the cells of the record at a place
unfoldable pub record_at : Dialect → List ℕ → ℕ → List ℕ → Result CellsRead FumenFault
record_at dialect ds place old = do
  new ← runs_at (page_cell_count dialect) ds place (page_cell_count dialect) (shown dialect old)
  Ok (record {
    cells = replicate (missing_count dialect) 0 ++ new.0;
    place = new.1;
    unchanged = starts_with nat_eq (drop place ds) (unchanged dialect);
  })

-- ---- the action

-- the rotation with one of fumen's numbers, of which there are four
abbrev pub rotation_with_code : ℕ → Rotation
rotation_with_code code =
    if code == 0 then Reverse else (if code == 1 then Right else (if code == 2 then Spawn else Left))

-- the placement with its pivot at a cell, where all its cells lie in the dialect's rows
abbrev pub placed : Dialect → Piece → Rotation → Cell → Result (Option Placement) ActionFault
placed dialect piece rotation (pos x, pos y) =
    if list_all (in_rows dialect) (cells_at piece rotation (pos x, pos y)) then Ok
    (Some (record { piece = piece; rotation = rotation; x = x; y = y }))
    else Err bad_action.Outside
placed dialect piece rotation other = Err bad_action.Outside

-- the operation of the parts of a number
abbrev pub operation_of : Dialect → Option Piece → Rotation → ℕ → Result (Option Placement) ActionFault
operation_of dialect None rotation place = Ok None
operation_of dialect (Some piece) rotation place =
    placed dialect piece rotation (moved_back (numbered_cell dialect place) (written_by piece rotation))

-- an action with these flags
abbrev pub action_with : ℕ → Option Placement → Action
action_with flags operation =
    record {
      operation = operation;
      rise = flags % 2 == 1;
      mirror = flags / 2 % 2 == 1;
      colour = flags / 4 % 2 == 1;
      comment = flags / 8 % 2 == 1;
      lock = flags / 16 % 2 == 0;
    }

abbrev pub with_flags : ℕ → Result (Option Placement) ActionFault → Result Action ActionFault
with_flags flags (Ok operation) = Ok (action_with flags operation)
with_flags flags (Err fault) = Err fault

-- the action that a number says
unfoldable pub action_in : Dialect → ℕ → Result Action ActionFault
action_in dialect number =
    if nat_lt number (action_end dialect)
    then with_flags (number / (32 * page_cell_count dialect))
    (operation_of dialect (piece_with_code (number % 8)) (rotation_with_code (number / 8 % 4))
    (number / 32 % page_cell_count dialect))
    else Err bad_action.TooLarge

-- a fault of an action among those of a text, where the number stands at a place, in a page counted from 1
abbrev pub action_fault : ℕ → ℕ → ActionFault → FumenFault
action_fault place number bad_action.TooLarge = BadAction place
action_fault place number bad_action.Outside = PieceOutside number

-- ---- the tail of a page

abbrev pub seen_action : ℕ → ℕ → Result Action ActionFault → Result Action FumenFault
seen_action place number (Ok action) = Ok action
seen_action place number (Err fault) = Err (action_fault place number fault)

-- the action at a place, in a page counted from 1
unfoldable pub action_at : Dialect → ℕ → List ℕ → ℕ → Result Action FumenFault
action_at dialect number ds place = do
  action_number ← number_at ds place 3
  seen_action place number (action_in dialect action_number)

-- the comment at a place, where there is one, and the place behind it
unfoldable pub part_at : Bool → List ℕ → ℕ → Result (Option (List ℕ) × ℕ) FumenFault
part_at false ds place = Ok (None, place)
part_at true ds place = do
  comment ← comment_at ds place
  Ok (Some comment.0, comment.1)

-- the page of these cells, with this action and comment
abbrev pub page_of : List ℕ → Action → Option (List ℕ) → Page
page_of cells action comment =
    record {
      cells = cells;
      operation = action.operation;
      rise = action.rise;
      mirror = action.mirror;
      colour = action.colour;
      lock = action.lock;
      comment = comment;
    }

-- the page of these cells whose tail stands at a place, counted from 1, and the place behind it
unfoldable pub page_at : Dialect → List ℕ → ℕ → List ℕ → ℕ → Result (Page × ℕ) FumenFault
page_at dialect cells number ds place = do
  action ← action_at dialect number ds place
  part ← part_at action.comment ds (place + 3)
  Ok (page_of cells action part.0, part.1)
