-- Sets of cells in rows 0 to 7 as words: two words for each set, four rows in each word, sixteen bits for each row.
use Rattle.std.specs.Prelude.{ℕ, ◌+◌, ◌*◌, ◌/◌, ◌%◌, ◌&&◌, nat_lt, List, slice_index}
use Rattle.lane_board.specs.Field.{Field}
use Rattle.lane_board.specs.Lanes.{has_bit}

-- the cells of the set that stands at a place among such words
unfoldable pub cells_of_words : List ℕ → ℕ → Field
cells_of_words words place x y =
    (nat_lt x 16 && nat_lt y 8) && has_bit (slice_index words (2 * place + y / 4)) (16 * (y % 4) + x)
