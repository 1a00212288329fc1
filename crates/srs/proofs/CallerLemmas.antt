-- Lemmas that the crates above cite.
pub use Rattle.std.proofs.lemmas.Bool.{and_from as and_both}
pub use Rattle.srs.proofs.BooleanLemmas.{and_first, and_second, implied, list_all-set, list_all-true, list_all_each, or_second}
pub use Rattle.srs.proofs.CanonicalLemmas.{IsCanonical-from_test, LiesAt, canonical_cells, canonical_pivot, canonical_unique, found_canonical, found_cells, in_well-place, inside_cell, is_canonical-from, pivot_inside, same_cells-piece}
pub use Rattle.srs.proofs.CellLemmas.{cell_eq-decides, has_cell-head, is_among-all, is_among-moved, is_same_cells-decides, less-moved, list_all-from_is_among, map-moved-moved, moved-origin, same_cells-moved, same_cells-sym, same_cells-trans}
unfoldable pub use Rattle.srs.proofs.CellLemmas.{less, origin}
pub use Rattle.srs.proofs.CodeLemmas.{piece_code-injective, piece_with_code-code, rotation_at-index, rotation_index-injective, rotation_with_letter-letter, same_placement}
pub use Rattle.srs.proofs.MemberLemmas.{Contains-cases, Contains-filter, Contains-flat_map, Contains-from_filter, Contains-from_flat_map, Contains-from_map, Contains-here, Contains-map, Contains-none, Contains-range, Contains-there, any_passes, each-contained, filter-each, filter-false, filter-true, find-Contains, find-false, find-true, range-from, some_passes, some_same}
pub use Rattle.srs.proofs.NumberLemmas.{IsWithin, int_le-true, near_within, small_within}
pub use Rattle.srs.proofs.OrderLemmas.{first_less, less_is_below, placement_cmp-antisymmetric, placement_cmp-piece, placement_cmp-total, sequence_cmp-append, sequence_cmp-first, sequence_cmp-total, then_less, then_second}
pub use Rattle.srs.proofs.PlacementLemmas.{placements_of-list}
pub use Rattle.srs.proofs.RisingLemmas.{IsNextAbove-unique, IsRisingListOf-filter, IsRisingListOf-unique, below_is_less, filter_above-next, filter_above-none, find-next_of, is_before-decides, rising-append, rising-cons, rising-first, rising-flat_map, rising-map, rising-none, rising-range, rising-rest}
pub use Rattle.srs.proofs.ShapeLemmas.{canonical_move_near, cells_length, each_piece, each_rotation, each_state, piece_code-small, piece_code-some, pivot_in_shape, rotation_index-small, shape_length, shape_near}
pub use Rattle.srs.proofs.TableLemmas.{table_of-small}
