-- Lemmas that the crates above cite.
pub use Rattle.place_sets.proofs.FieldLemmas.{IsWithin, LiesWithin, cell_count-more, fields-same, same_fields, within_both}
pub use Rattle.place_sets.proofs.LowPlaceLemmas.{held_under, low_places_held}
pub use Rattle.place_sets.proofs.MovedCells.{MovedFrom, moved_back, moved_forth, moved_from, moved_to, same_cell, same_column, same_row}
pub use Rattle.place_sets.proofs.ScanLemmas.{holds-piece, places_held}
pub use Rattle.place_sets.proofs.SpreadLemmas.{spread-has, still-has, widened-from}
pub use Rattle.place_sets.proofs.StateSets.{ChangedIn, PivotAt, has_pivot-at, includes_trans, includes_with, missing, pivot_at, same_states, state_of, states_within, with_cases, with_here, with_other}
