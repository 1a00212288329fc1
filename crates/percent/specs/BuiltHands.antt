-- Hands that permit the pieces of a tiling to be put in place in some order.
use Rattle.std.specs.Prelude.{◌≡◌, ℕ, suc, Bool, true, length, map}
use Rattle.lane_board.specs.Field.{Field}
use Rattle.srs.specs.Kick.{srs_table}
use Rattle.srs.specs.Rules.{table_of}
use Rattle.moves.specs.declared.key.DropMode.TheVariants.{Hard}
use Rattle.hold_queue.specs.declared.hold.Hold.{Hold}
use Rattle.prune.specs.Tiling.{Part, Tiling}
use Rattle.empty_cells.specs.Empties.{all_but}
use Rattle.empty_cells.specs.Spans.{HasNoCell}
use Rattle.tiled_pieces.specs.TilingLists.{laid_part}
use Rattle.percent.specs.declared.game.Game.{Game}
use Rattle.tiled_pieces.specs.Built.{AreBuilt}
use Rattle.tiled_pieces.specs.Served.{left_by}
use Rattle.percent.specs.Fitting.{supply_at}
use Rattle.hands.specs.Hands.{takes_all}

-- Some tiling of the set by pieces of a hand has so many parts, and they can be put into the set one after the other,
-- in an order in which the hand permits their kinds.
pub record IsBuiltBy (E : Field) (drops : Bool) (hold : Hold) (left hand : ℕ) : Type 0 where
  pub tiling : Tiling (all_but E) 8 (supply_at (suc left) hand)
  pub size : length tiling.parts ≡ left
  pub built : AreBuilt E drops (map laid_part tiling.parts)
  pub uses_up : HasNoCell (left_by E (map laid_part tiling.parts))
  pub taken : takes_all hold hand (map (λ (part : Part). part.piece) tiling.parts) ≡ true

-- hard drop by the Super Rotation System, where nothing lies above a placement
pub record IsHardSrs (game : Game) : Type 0 where
  pub mode : game.drop_mode ≡ Hard
  pub table : table_of game.rules ≡ srs_table
