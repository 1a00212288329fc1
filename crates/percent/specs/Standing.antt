-- The pieces of one kind in the tilings of marks.
use Rattle.std.specs.Prelude.{◌≡◌, ℕ, ◌<◌, false, List, Some, slice_get}
use Rattle.lane_board.specs.Field.{Field}
use Rattle.lane_board.specs.Lanes.{has_bit}
use Rattle.tiled_pieces.specs.Standing.{Stands}
use Rattle.tiled_pieces.specs.TilingLists.{SomeHas}
use Rattle.percent.specs.declared.children.WantedPieces.{WantedPieces}
use Rattle.percent.specs.declared.marks.Mark.{Mark}

-- each piece of the kind in a tiling of one of the first 64 marks stands under the mark's index, or the mark is one of the others
pub record AreStanding (known : List Mark) (pieces : WantedPieces) : Type 0 where
  pub each : (k : ℕ) → k < 64 → has_bit pieces.others k ≡ false → (mark : Mark) → slice_get known k ≡ Some mark → (cells : Field)
      → SomeHas mark.tilings.tilings.items (record { piece = pieces.listed.piece; cells = cells })
      → Stands pieces.listed.pieces.items cells k
