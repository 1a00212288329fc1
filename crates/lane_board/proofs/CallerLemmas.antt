-- Lemmas that the crates above cite.
pub use Rattle.lane_board.proofs.BoardFields.{false_from_bit, field_of-within, true_from_bit}
pub use Rattle.lane_board.proofs.BoardRows.{few_rows}
pub use Rattle.lane_board.proofs.CellCounts.{cell_count-above, cell_count-le, cell_count-same, takes_ten_each}
pub use Rattle.lane_board.proofs.CellTests.{and_true, or_none, same_from_both}
pub use Rattle.lane_board.proofs.CountWith.{cell_count-with}
pub use Rattle.lane_board.proofs.FullCells.{cell_from_full, not_full_from_cell}
pub use Rattle.lane_board.proofs.FullMask.{one_bit}
pub use Rattle.lane_board.proofs.Removal.{full_above, full_below-empty, full_below-full, full_below-le, full_below-other, full_rises, left_below, lowered_from, lowered_rises, lowered_to, one_row, without_full_rows-empty}
pub use Rattle.lane_board.proofs.RowBits.{has_bit-and, has_bit-and_not, has_bit-low, has_bit-or, has_bit-past, has_bit-pow, has_bit-shifted_high, has_bit-shifted_low, has_bit-shifted_right, has_bit-zero, same_from_columns}
pub use Rattle.lane_board.proofs.RowTables.{column_is}
