-- Lemmas that the crates above cite.
pub use Rattle.tiled_pieces.proofs.ListLaws.{LiesIn, left_by_part, left_is}
pub use Rattle.tiled_pieces.proofs.RowLaws.{built-can-go}
