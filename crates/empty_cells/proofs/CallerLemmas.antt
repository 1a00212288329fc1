-- Lemmas that the crates above cite.
pub use Rattle.prune.proofs.CallerLemmas.{has_cell-map as sent_has}
pub use Rattle.empty_cells.proofs.ChosenLemmas.{chosen}
pub use Rattle.empty_cells.proofs.EmptiesLemmas.{CellOf, cell_of, cells_small}
pub use Rattle.empty_cells.proofs.FillLemmas.{PartOf, StackOf, empty_is, empty_within, fills_nothing, fills_stacked, not_without, one_back, over_first, part_of, sent_from, stack_of, stacked_first}
pub use Rattle.empty_cells.proofs.FilledRows.{by_column_at}
pub use Rattle.empty_cells.proofs.FormLemmas.{form, form_at, form_with_index, form_within, rotation_at}
pub use Rattle.empty_cells.proofs.HasTilingLemmas.{answer-from_right, right-from_answer, tiling_decided}
pub use Rattle.empty_cells.proofs.Mirrors.{both_tiled}
pub use Rattle.empty_cells.proofs.MovedRows.{InRow, SameRows, same_rows}
pub use Rattle.empty_cells.proofs.MovedTilings.{MovedTo, both_moved, first_moved, moved_part}
pub use Rattle.empty_cells.proofs.RowLemmas.{bit_from_may, may_from_bit, ones, was_unset}
pub use Rattle.empty_cells.proofs.SameTilings.{left_by_placement, tiling_below}
pub use Rattle.empty_cells.proofs.ShiftedLemmas.{counted_tiling, shifted_small, tiling_there}
pub use Rattle.empty_cells.proofs.StackLemmas.{Chosen, IsSmall, Rises, some_in_span}
pub use Rattle.empty_cells.proofs.SupplyLemmas.{fewer, total}
