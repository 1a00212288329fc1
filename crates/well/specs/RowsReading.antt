-- What one more byte of a rows text changes in what was read.
use Rattle.std.specs.Prelude.{◌≡◌, ℕ, zero, suc, ◌+◌, false, if◌then◌else◌}
use Rattle.lane_board.specs.Field.{Field, with_cell}
use Rattle.well.specs.declared.reader.RowsReader.{RowsReader}
use Rattle.well.specs.Rows.{is_slash, is_filled_char}
use Rattle.well.specs.Well.{filled}

-- every cell one row higher
unfoldable pub raised : Field → Field
raised F x zero = false
raised F x (suc y) = F x y

-- a slash raises what was read, and a character adds its cell to row 0
pub record ReadsByte (before : RowsReader) (byte : ℕ) (next : RowsReader) : Type 0 where
  pub row : next.row ≡ (if is_slash byte then before.row + 1 else before.row)
  pub characters : next.characters ≡ (if is_slash byte then 0 else before.characters + 1)
  pub cells : filled next.well ≡ (if is_slash byte then raised (filled before.well) else
      (if is_filled_char byte then with_cell (filled before.well) before.characters 0 else filled before.well))
