-- What the columns of a set show before pieces are tried: each shows that there is no tiling.
use Rattle.std.specs.Prelude.{◌≡◌, ◌≢◌, ℕ, ◌+◌, ◌*◌, ◌%◌, ◌<◌, sum_by}
use Rattle.lane_board.specs.Field.{Field}
use Rattle.srs.specs.declared.piece.Piece.TheVariants.{L, T, J}
use Rattle.srs.specs.Piece.{all_pieces}
use Rattle.prune.specs.Tiling.{Supply}
use Rattle.prune.specs.Counts.{run_empties, even_column_empties}
use Rattle.prune.specs.Walls.{IsWall}
use Rattle.empty_cells.specs.Empties.{all_but}

-- a wall stands behind one of the first four columns, and the cells before the wall are no multiple of four
pub record HasUnevenStart (E : Field) : Type 0 where
  pub last : ℕ
  pub near : last < 4
  pub wall : IsWall (all_but E) 8 (last + 1)
  pub uneven : run_empties (all_but E) 8 0 last % 4 ≢ 0

-- The supply has no T, the cells would use it up, and the cells in even columns are an even number while the L and J
-- pieces together are an odd one, or the other way round.
pub record HasWrongParity (E : Field) (supply : Supply) : Type 0 where
  pub without_t : supply T ≡ 0
  pub used_up : run_empties (all_but E) 8 0 9 ≡ 4 * sum_by supply all_pieces
  pub odd : even_column_empties (all_but E) 8 % 2 ≢ (supply L + supply J) % 2
