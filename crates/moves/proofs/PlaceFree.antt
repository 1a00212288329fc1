-- A place is free.
use Rattle.std.proofs.Common.{◌≡◌, true, Some, rules}
use Rattle.lane_board.specs.Field.{Field}
use Rattle.srs.specs.declared.piece.Piece.{Piece}
use Rattle.srs.specs.declared.rotation.Rotation.{Rotation}
use Rattle.srs.specs.declared.placement.Placement.{Placement}
use Rattle.srs.specs.Kick.{Table}
use Rattle.srs.specs.Cells.{Cell}
use Rattle.srs.specs.SameCells.{HasSameCells}
use Rattle.srs.proofs.CallerLemmas.{is_among-all, list_all-from_is_among}
use Rattle.well.specs.Free.{is_free_at, is_free}
use Rattle.moves.specs.declared.key.DropMode.{DropMode}
use Rattle.moves.specs.Step.{state_at}
use Rattle.moves.specs.Place.{IsPlace}

-- the state at a cell is free where the cell is free for it
free_at : (F : Field) (piece : Piece) (rotation : Rotation) (cell : Cell) (s : Placement) → state_at piece rotation cell ≡ Some s → is_free_at F piece rotation cell ≡ true → is_free F s ≡ true
free_at F piece rotation cell s e free = search rules

free-same : (F : Field) (s q : Placement) → HasSameCells s q → is_free F s ≡ true → is_free F q ≡ true
unfolding is_free_at
free-same F s q same free = search (rules, list_all-from_is_among, is_among-all)

pub place-free : (table : Table) (F : Field) (mode : DropMode) (q : Placement) → IsPlace table F mode q → is_free F q ≡ true
place-free table F mode q place = search (rules, free-same, free_at)
