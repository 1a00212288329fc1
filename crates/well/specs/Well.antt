-- What contracts see of a well: its cells.
use Rattle.lane_board.specs.Field.{Field}
use Rattle.lane_board.specs.Board.{field_of}
use Rattle.well.specs.declared.well.Well.{Well}

-- the filled cells of a well, which lie in columns 0 to 9 and rows 0 to 22
unfoldable pub filled : Well → Field
filled well = field_of well.board
