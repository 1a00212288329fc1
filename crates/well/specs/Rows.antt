-- Rows text: rows from the top one down, divided by slashes.
use Rattle.std.specs.Prelude.{◌≡◌, ℕ, ◌+◌, ◌≤◌, Bool, true, ◌||◌, ◌==◌, if◌then◌else◌, is_some, Option, Some, None, List, [], ◌∷◌, All, length, reverse, slice_index, slice_index_or}
use Rattle.std.specs.List.{slice_split}
use Rattle.std.specs.Option.{option_or}
use Rattle.lane_board.specs.Field.{Field}
use Rattle.srs.specs.Piece.{piece_with_letter}
use Rattle.well.specs.declared.rows.RowsFault.{RowsFault}
use Rattle.well.specs.declared.rows.RowsFault.TheVariants.{BadRowChar, BadRowLength, TooManyRows}

-- an empty cell: `_` or `.`
abbrev pub is_empty_char : ℕ → Bool
is_empty_char byte = byte == 95 || byte == 46

-- a filled cell: `X` or a piece letter, in either case
abbrev pub is_filled_char : ℕ → Bool
is_filled_char byte = byte == 88 || (byte == 120 || is_some (piece_with_letter byte))

abbrev pub is_slash : ℕ → Bool
is_slash byte = byte == 47

-- a character of a row
abbrev pub is_row_char : ℕ → Bool
is_row_char byte = is_empty_char byte || is_filled_char byte

-- a row: ten characters
pub record IsRow (row : List ℕ) : Type 0 where
  pub ten : length row ≡ 10
  pub characters : All (λ byte. is_row_char byte ≡ true) row

-- a text of the form: no rows, or at most 23 divided by slashes
abbrev pub IsRowsText : List ℕ → Type 0
IsRowsText [] = Unit {0}
IsRowsText (byte ∷ bytes) = let rows = slice_split is_slash (byte ∷ bytes) in (length rows ≤ 23) × All IsRow rows

-- the fault at a byte that follows so many characters of a row, where rows are counted from 1 and places from 0
abbrev pub fault_at_byte : ℕ → ℕ → ℕ → ℕ → Option RowsFault
fault_at_byte row characters place byte =
    if is_slash byte then
    (if characters == 10 then (if row == 23 then Some TooManyRows else None) else Some (BadRowLength row))
    else (if is_row_char byte then
    (if characters == 10 then Some (BadRowLength row) else None)
    else Some (BadRowChar place))

-- the fault where the text ends after so many characters of a row
abbrev pub fault_at_end : ℕ → ℕ → Option RowsFault
fault_at_end row characters = if characters == 10 then None else Some (BadRowLength row)

-- the first fault in what follows the first characters of a row
unfoldable pub fault_from : ℕ → ℕ → ℕ → List ℕ → Option RowsFault
fault_from row characters place [] = fault_at_end row characters
fault_from row characters place (byte ∷ bytes) = option_or (fault_at_byte row characters place byte)
    (if is_slash byte then fault_from (row + 1) 0 (place + 1) bytes else fault_from row (characters + 1)
    (place + 1) bytes)

-- the first fault of a text, which has no rows where it is empty
unfoldable pub rows_fault : List ℕ → Option RowsFault
rows_fault [] = None
rows_fault (byte ∷ bytes) = fault_from 1 0 0 (byte ∷ bytes)

-- the filled cells of a text with no fault, whose last row is row 0
unfoldable pub written_cells : List ℕ → Field
written_cells text x y = is_filled_char (slice_index (slice_index_or (reverse (slice_split is_slash text)) y []) x)
