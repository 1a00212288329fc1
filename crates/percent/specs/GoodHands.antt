-- Good hands, piece by piece: whether some way to take a piece and place it leaves a good hand.
use Rattle.std.specs.Prelude.{ℕ, zero, suc, ◌-◌, Bool, ◌&&◌, ◌==◌, List}
use Rattle.std.specs.List.{list_any}
use Rattle.lane_board.specs.Field.{Field}
use Rattle.srs.specs.declared.piece.Piece.{Piece}
use Rattle.srs.specs.declared.placement.Placement.{Placement}
use Rattle.srs.specs.Piece.{all_pieces, piece_code}
use Rattle.srs.specs.Rules.{table_of}
use Rattle.well.specs.Well.{filled}
use Rattle.well.specs.Lock.{locked, rows_removed}
use Rattle.well.specs.LockLaws.{is_below}
use Rattle.moves.specs.PlaceTest.{places_in}
use Rattle.problem.specs.declared.problem.Problem.{Problem}
use Rattle.problem.specs.Problem.{needed_of}
use Rattle.percent.specs.declared.game.Game.{Game}
use Rattle.hands.specs.Hands.{hand_of, takes}

-- the places of a piece by the rules of a game
abbrev pub reached_places : Game → Field → Piece → List Placement
reached_places game F piece = places_in (table_of game.rules) game.drop_mode F piece

-- with so many rows left and so many placements to come
unfoldable pub is_good : Game → Field → ℕ → ℕ → ℕ → Bool
is_good game F rows zero hand = rows == 0
is_good game F rows (suc left) hand =
    list_any (λ piece. takes game.hold (piece_code piece)
    (λ rest. list_any (λ q. is_below rows q && is_good game (locked F q) (rows - rows_removed F q) left rest)
    (reached_places game F piece)) hand) all_pieces

-- good after this piece was placed, with so many placements to come then
unfoldable pub is_good_after : Game → Field → ℕ → Piece → ℕ → ℕ → Bool
is_good_after game F rows piece left rest =
    list_any (λ q. is_below rows q && is_good game (locked F q) (rows - rows_removed F q) left rest)
    (reached_places game F piece)

abbrev pub game_of : Problem → Game
game_of problem = record { rules = problem.rules; drop_mode = problem.drop_mode; hold = problem.hold }

-- the test of `Good`
unfoldable pub is_good_queue : Problem → List Piece → Bool
is_good_queue problem queue =
    is_good (game_of problem) (filled problem.well) problem.height (needed_of problem)
    (hand_of problem.hold problem.held (needed_of problem) queue)
