-- Lemmas that the crates above cite.
pub use Rattle.well.proofs.FreeLemmas.{free_inside, free_pivot, free_pivot_inside, free_pivot_open, open_at, open_in_well}
pub use Rattle.well.proofs.LockLemmas.{adds_four_cells, full_below_height, locked-by, removed-by, removes_below, stays_below, together_below}
pub use Rattle.well.proofs.PackedBits.{same_from_cells}
pub use Rattle.well.proofs.WellFields.{filled-within}
