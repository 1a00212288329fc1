-- Positions after placements.
use Rattle.std.specs.Prelude.{◌≡◌, ℕ, ◌-◌, Bool, true, List}
use Rattle.std.specs.List.{list_any}
use Rattle.srs.specs.declared.piece.Piece.{Piece}
use Rattle.srs.specs.Rules.{table_of}
use Rattle.well.specs.Well.{filled}
use Rattle.well.specs.Lock.{locked, rows_removed}
use Rattle.well.specs.LockLaws.{is_below}
use Rattle.moves.specs.Place.{IsPlace}
use Rattle.percent.specs.declared.game.Game.{Game}
use Rattle.percent.specs.declared.position.Child.{Child}
use Rattle.percent.specs.declared.position.Position.{Position}
use Rattle.percent.specs.GoodHands.{is_good}

-- after a place of a piece that lies below the rows left
pub record IsChild (game : Game) (p : Position) (piece : Piece) (child : Child) : Type 0 where
  pub kind : child.placement.piece ≡ piece
  pub place : IsPlace (table_of game.rules) (filled p.well) game.drop_mode child.placement
  pub below : is_below p.rows child.placement ≡ true
  pub field : filled child.position.well ≡ locked (filled p.well) child.placement
  pub left : child.position.rows ≡ p.rows - rows_removed (filled p.well) child.placement

-- a hand that is good at one of these positions
unfoldable pub is_good_at : Game → List Child → ℕ → ℕ → Bool
is_good_at game children left hand =
    list_any (λ child. is_good game (filled child.position.well) child.position.rows left hand) children
