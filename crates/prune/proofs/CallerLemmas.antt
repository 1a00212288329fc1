-- What crates above cite: a tiling with one part more or fewer, one placement, a run that clears its rows, rows that are sent to others, counts, and what a mirror shows.
pub use Rattle.prune.proofs.ColumnCounts.{all_empties, column_empties-le, column_empties-suc, column_empties-zero, range_more}
pub use Rattle.prune.proofs.PartsOfTilings.{TakenPart, TilingOf, no_parts, one_part_more, same_tiling, taken_part, tiling-intersection, with_part}
pub use Rattle.prune.proofs.MirrorLemmas.{kind_again, tiling_mirrored}
pub use Rattle.prune.proofs.RefusalLemmas.{no_uneven_part}
pub use Rattle.prune.proofs.UnevenParts.{Parts, parts-found, parts-next, parts-none, parts-start}
pub use Rattle.prune.proofs.CellCounts.{has_cell-map, source_of}
pub use Rattle.prune.proofs.EvenColumns.{even_columns}
pub use Rattle.prune.proofs.PlacedLemmas.{cleared_is_tiled, full_rows_may_stand, more_pieces, one_placement, placed, placed_empty, placed_generalized}
pub use Rattle.prune.proofs.RowMaps.{Before, SendsRows, generalized_to, part_to, tiling_to}
unfoldable pub use Rattle.prune.proofs.RowMaps.{cell_to, row_to}
